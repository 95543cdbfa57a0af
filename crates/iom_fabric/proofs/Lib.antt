pub mod MessageEquality
