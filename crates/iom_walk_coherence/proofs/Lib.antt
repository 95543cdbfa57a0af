pub mod StandingLemmas
pub mod KeptLemmas
pub mod TransitionLemmas
pub mod LawLemmas
pub mod WorkedLemmas
