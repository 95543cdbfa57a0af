pub mod ChoiceLemmas
pub mod CountLemmas
pub mod GivingLemmas
pub mod OwnerLemmas
pub mod FourLemmas
pub mod SameLemmas
