pub mod ReadingLemmas
pub mod TraceLemmas
