pub mod Parts
pub mod Scenes
pub mod Calls
pub mod Laws
