pub mod LoadLemmas
pub mod FewLemmas
