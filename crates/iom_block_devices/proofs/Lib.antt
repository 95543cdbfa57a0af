pub mod Lists
pub mod PlaceLemmas
pub mod DiskLemmas
pub mod BlockLemmas
pub mod BlockChanges
pub mod NumberLemmas
