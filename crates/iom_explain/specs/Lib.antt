pub mod Waits
pub mod Tickets
pub mod Notes
