pub mod Answers
pub mod Draws
pub mod Laws
pub mod Runs
pub mod Parts
pub mod Statuses
pub mod Traffic
