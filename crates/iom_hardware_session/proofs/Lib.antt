pub mod WayLemmas
pub mod TimelyLemmas
pub mod SoftwareLemmas
pub mod DoneLemmas
pub mod WatchLemmas
pub mod GoodLemmas
pub mod TurnLemmas
pub mod SteppedTurnLemmas
pub mod PointedEventLemmas
pub mod PointedTurnLemmas
pub mod BesideTurnLemmas
mod LeftLemmas
pub mod MayLemmas
pub mod InvariantLemmas
pub mod SteppedEventLemmas
pub mod EventLemmas
pub mod KeepLemmas
pub mod ClaimLemmas
pub mod SessionLemmas
mod SameLemmas
pub mod ReadyLemmas
pub mod ReadyPointedLemmas
pub mod AcceptLemmas
pub mod AcceptPointedLemmas
