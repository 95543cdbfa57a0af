pub mod Standing
pub mod Invariant
pub mod Leaving
pub mod Events
pub mod Laws
