pub mod Reasons
pub mod Translated
pub mod Laws
