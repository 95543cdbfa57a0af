pub mod Grammar
pub mod Parts
pub mod Answers
