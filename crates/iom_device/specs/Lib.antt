pub mod Caches
pub mod Calls
