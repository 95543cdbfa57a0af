pub mod Walks
pub mod Calls
pub mod Caches
pub mod Invariant
pub mod Frames
pub mod Rows
pub mod Laws
