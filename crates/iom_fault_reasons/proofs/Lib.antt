pub mod Facts
pub mod ReasonLemmas
pub mod TranslatedLemmas
