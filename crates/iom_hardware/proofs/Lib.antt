pub mod KnownBlocks
pub mod KeptBlocks
pub mod PlugLemmas
pub mod AgreementLemmas
pub mod BlockThere
pub mod BegunLemmas
pub mod StepLemmas
