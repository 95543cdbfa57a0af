pub mod Places
pub mod Openings
pub mod Lines
pub mod Systems
