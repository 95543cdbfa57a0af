pub mod Numbered
pub mod Shown
pub mod Entries
pub mod Changes
pub mod Places
pub mod Wanted
