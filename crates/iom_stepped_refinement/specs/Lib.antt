pub mod Shows
pub mod Laws
pub mod Effect
pub mod Runs
