pub mod Loads
pub mod Tables
pub mod Directory
pub mod Laws
