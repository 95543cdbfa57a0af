pub mod DeepestLemmas
pub mod FollowLemmas
pub mod FormatLemmas
pub mod KeepLemmas
pub mod LeadLemmas
