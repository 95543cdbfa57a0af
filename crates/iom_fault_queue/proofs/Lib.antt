pub mod Numbers
pub mod Exact
pub mod Unique
pub mod Entries
pub mod Lists
pub mod Bases
pub mod Orders
