pub mod Service
pub mod Runs
