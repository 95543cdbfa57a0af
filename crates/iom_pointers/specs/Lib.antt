pub mod Pointers
pub mod Walks
