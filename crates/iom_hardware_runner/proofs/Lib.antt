pub mod RunLemmas
pub mod TextLemmas
pub mod BadLineLemmas
pub mod ReadLemmas
mod PaceLemmas
pub mod UnderWayLemmas
