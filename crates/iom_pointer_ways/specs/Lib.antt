pub mod Scenes
pub mod Calls
pub mod Laws
