pub mod StandingLemmas
pub mod PositionLemmas
pub mod NowLemmas
pub mod PageLemmas
pub mod JudgedLemmas
pub mod FaultLemmas
