pub mod EntryLemmas
pub mod FindLemmas
pub mod LawLemmas
mod Sames
