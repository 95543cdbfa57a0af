pub mod BesideLemmas
pub mod SoundBeside
pub mod SoundEvents
