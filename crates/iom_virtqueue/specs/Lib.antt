pub mod Layouts
pub mod Accesses
pub mod Descriptors
pub mod Chains
pub mod Queues
pub mod Spans
