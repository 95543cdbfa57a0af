pub mod Walks
pub mod Faithful
pub mod Transitions
pub mod Laws
pub mod Worked
