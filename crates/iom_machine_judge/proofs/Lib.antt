mod AnsweredLemmas
mod BlockLemmas
pub mod DecidedLemmas
pub mod LeftLemmas
mod MakeLemmas
pub mod NextLemmas
mod ReasonLemmas
mod VerdictLemmas
