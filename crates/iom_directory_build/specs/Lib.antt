pub mod Pages
pub mod Written
pub mod Changes
pub mod Laws
