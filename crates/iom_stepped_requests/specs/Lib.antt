pub mod Serving
pub mod Standing
pub mod Whole
pub mod Answers
pub mod Keeping
pub mod Laws
