pub mod LoadLemmas
pub mod PathLemmas
pub mod TableLemmas
pub mod GuestLemmas
pub mod WholeLemmas
pub mod BoundLemmas
