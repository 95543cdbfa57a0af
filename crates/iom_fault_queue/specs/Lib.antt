pub mod Fields
pub mod Records
pub mod Grammar
pub mod Ring
pub mod Calls
pub mod Laws
