pub mod Rows
pub mod Reaches
pub mod Levels
