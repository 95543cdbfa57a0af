pub mod GlobLemmas
