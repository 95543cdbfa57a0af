pub mod CachedLemmas
pub mod ByAnswer
pub mod FenceLemmas
pub mod SteppedLemmas
mod ForeseenLemmas
pub mod FetchLemmas
pub mod LookLemmas
pub mod OneFetch
pub mod ServiceLemmas
pub mod StageLemmas
pub mod PartLemmas
pub mod MadeLemmas
pub mod SameParts
