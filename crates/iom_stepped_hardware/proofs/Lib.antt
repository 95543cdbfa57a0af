pub mod AskEvents
pub mod AskLaws
pub mod AskLemmas
pub mod AskSteps
pub mod QueueLemmas
pub mod SameKinds
pub mod WholeSteps
