pub mod CallLemmas
pub mod LawLemmas
pub mod SceneLemmas
pub mod FollowLemmas
