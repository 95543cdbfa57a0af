pub mod Places
pub mod Taken
pub mod TraceLines
pub mod WorldLimits
