pub mod Faults
pub mod Scripts
pub mod Tellers
