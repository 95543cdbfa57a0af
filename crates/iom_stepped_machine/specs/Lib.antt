pub mod Walks
pub mod Machine
pub mod Laws
pub mod Reclaim
