pub mod Bits
pub mod Formats
pub mod Legal
pub mod Names
pub mod Encoded
pub mod OpenSlots
pub mod Waiting
