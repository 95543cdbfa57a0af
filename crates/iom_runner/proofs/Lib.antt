pub mod CountedLemmas
pub mod AnswerLemmas
pub mod ToldLemmas
pub mod AlongLemmas
pub mod RunLemmas
pub mod TextLemmas
