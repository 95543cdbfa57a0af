pub mod Loads
pub mod Stages
pub mod Stops
