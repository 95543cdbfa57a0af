pub mod Bits
pub mod Sizes
pub mod StatusBits
pub mod Modulo
pub mod SameRegisters
