pub mod WholeLemmas
pub mod SteppedLemmas
