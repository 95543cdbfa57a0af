pub mod InvariantIsFact
