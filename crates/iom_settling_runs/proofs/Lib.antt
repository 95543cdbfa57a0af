pub mod TurnLemmas
pub mod RunLemmas
