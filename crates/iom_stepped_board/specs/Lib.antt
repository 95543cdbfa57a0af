pub mod Beside
pub mod BesideIsFact
pub mod Events
pub mod Requests
pub mod ThroughCache
