mod OpeningLemmas
mod EventLemmas
