-- What the ledger machine sees of the world's memory: whose each frame is, and the bytes of those that are nobody's.
use Rattle.std.specs.Prelude.{◌≡◌, ℕ, List, length, Option, None, Some, slice_get, option_map}
use Rattle.iom_machine.specs.declared.state.Frame.{Frame}
use Rattle.iom_base.specs.declared.owner.Owner.{Owner}

-- as many frames, each with its owner, and with its bytes where it has none
pub record ShowsFrames (memory : List (List ℕ)) (owners : List (Option Owner)) (frames : List Frame) : Type 0 where
  pub size : length frames ≡ length memory
  pub same_owners : (n : ℕ) → option_map (λ frame. frame.owner) (slice_get frames n) ≡ slice_get owners n
  pub bytes : (n : ℕ) → slice_get owners n ≡ Some None → option_map (λ frame. frame.bytes) (slice_get frames n) ≡ slice_get memory n
