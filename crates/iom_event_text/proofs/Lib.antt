mod TextLemmas
mod HexLemmas
mod EventLemmas
