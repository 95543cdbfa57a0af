pub mod Claimed
pub mod Rows
pub mod Shown
