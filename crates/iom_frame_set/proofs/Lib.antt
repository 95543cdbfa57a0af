pub mod BitLemmas
pub mod CountLemmas
pub mod SearchLemmas
pub mod SetLemmas
pub mod SummaryLemmas
