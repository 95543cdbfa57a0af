pub mod TraceStates
pub mod Sharing
pub mod Happenings
pub mod Certificates
pub mod Certified
