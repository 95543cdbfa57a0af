pub mod Bits
pub mod Places
pub mod Fields
pub mod Queues
pub mod Table
pub mod Interrupts
