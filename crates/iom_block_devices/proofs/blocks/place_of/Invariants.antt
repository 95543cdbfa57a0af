use Rattle.std.proofs.Common.{◌≡◌, ◌≢◌, ℕ, ◌<◌, Some, slice_get}
use Rattle.iom_block_devices.specs.declared.block.Block.{Block}
use Rattle.iom_block_devices.proofs.blocks.place_of.Given as goal

-- none of those so far has the id
abbrev pub invariant-loop-place : goal.invariant-loop-place
invariant-loop-place g l = (k : ℕ) (other : Block _ _) → k < l.place → slice_get l.blocks k ≡ Some other → other.id ≢ l.id
