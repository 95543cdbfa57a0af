mod NoFrame
pub mod Frames
pub mod Rows
mod Kept
mod ByPlace
mod Added
mod OfRequest
mod CacheLemmas
mod RowLemmas
mod BeginLemmas
mod RunLemmas
mod FewLemmas
pub mod AnewLemmas
