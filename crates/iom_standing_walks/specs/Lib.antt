pub mod Positions
pub mod Standing
pub mod Pages
pub mod Judged
pub mod Faults
pub mod Walks
pub mod Driven
