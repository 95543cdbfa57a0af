pub mod Flights
pub mod Calls
pub mod Invariant
pub mod Rings
pub mod Rows
pub mod IsFact
