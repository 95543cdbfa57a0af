pub mod Deciding
pub mod Verdicts
pub mod Words
