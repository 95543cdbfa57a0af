pub mod ServiceLemmas
pub mod RunLemmas
pub mod RequestLemmas
