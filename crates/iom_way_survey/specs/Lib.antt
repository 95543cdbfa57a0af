pub mod Walking
pub mod Found
pub mod Directories
pub mod Queues
pub mod Laws
pub mod Surveys
pub mod Along
