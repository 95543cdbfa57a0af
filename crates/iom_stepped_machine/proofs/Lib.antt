pub mod PartLemmas
pub mod WholeLemmas
pub mod LoadLemmas
pub mod RoomLemmas
pub mod ReclaimLemmas
