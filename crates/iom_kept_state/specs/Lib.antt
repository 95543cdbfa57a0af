pub mod Tickets
pub mod Grants
pub mod Wanted
pub mod Frames
pub mod States
pub mod Words
