pub mod QueueTurns
pub mod DeviceTurns
pub mod LifeLemmas
pub mod EventLives
pub mod RunLives
pub mod StoryLemmas
pub mod StoryRuns
pub mod UsedRingRuns
pub mod WaitRuns
mod CommitFills
