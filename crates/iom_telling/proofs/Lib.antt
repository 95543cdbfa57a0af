pub mod LineLemmas
pub mod ScriptLemmas
pub mod TellingLemmas
