pub mod Places
pub mod Looks
pub mod Acts
pub mod Touches
pub mod Codes
