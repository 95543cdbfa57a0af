pub mod CachedLemmas
pub mod BeginLemmas
pub mod AheadLemmas
pub mod WalkedLemmas
