pub mod WholeLemmas
pub mod BoundLemmas
pub mod FirstLemmas
pub mod KeepingLemmas
