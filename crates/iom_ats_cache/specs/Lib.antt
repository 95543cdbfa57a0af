pub mod Cache
pub mod Calls
pub mod Laws
