pub mod BehindLemmas
pub mod GrammarLemmas
pub mod TakenLemmas
