pub mod Globs
pub mod Propositions
