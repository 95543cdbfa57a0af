pub mod Beside
pub mod BesideIsFact
pub mod Requests
pub mod Steps
pub mod Laws
