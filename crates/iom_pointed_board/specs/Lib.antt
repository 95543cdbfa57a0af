pub mod Roots
pub mod Starts
pub mod Laws
