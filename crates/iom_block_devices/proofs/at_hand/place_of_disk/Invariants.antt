use Rattle.std.proofs.Common.{◌≡◌, ◌≢◌, ℕ, ◌<◌, Some, slice_get}
use Rattle.iom_block_devices.specs.declared.block.DiskAtHand.{DiskAtHand}
use Rattle.iom_block_devices.proofs.at_hand.place_of_disk.Given as goal

-- none of those so far has the number
abbrev pub invariant-loop-place : goal.invariant-loop-place
invariant-loop-place g l = (k : ℕ) (other : DiskAtHand _) → k < l.place → slice_get l.at_hand k ≡ Some other → other.number ≢ l.number
