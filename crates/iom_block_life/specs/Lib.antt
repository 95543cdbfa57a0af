pub mod Lives
pub mod Runs
pub mod Stories
pub mod UsedRings
pub mod Waits
