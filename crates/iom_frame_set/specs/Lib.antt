pub mod Sets
pub mod Spans
