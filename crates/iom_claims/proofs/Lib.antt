pub mod ListLemmas
pub mod HistoryLemmas
pub mod RowLemmas
pub mod ShowLemmas
mod Sames
