pub mod RowLemmas
pub mod AddLemmas
pub mod LevelLemmas
