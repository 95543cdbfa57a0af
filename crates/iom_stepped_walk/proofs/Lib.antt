pub mod ToldLemmas
pub mod IndexLemmas
pub mod StepLemmas
pub mod PositionLemmas
pub mod FinishLemmas
pub mod LawLemmas
