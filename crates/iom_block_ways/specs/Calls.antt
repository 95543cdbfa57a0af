-- What a block device does at a line of its own, as calls of hardware (virtio 1.2, sections 2.4, 2.7 and 3.1.1).
use Rattle.std.specs.Prelude.{◌≡◌, ◌⊎◌, ℕ, List, None, ⊤}
use Rattle.iom_base.specs.DeviceKinds.{is_block_device}
use Rattle.iom_block_devices.specs.Changes.{block_with}
use Rattle.iom_block_devices.specs.Shown.{ShownBlocks}
use Rattle.iom_board.specs.BoardParts.{BoardParts}
use Rattle.iom_device.specs.Caches.{IsAble}
use Rattle.iom_hardware_ways.specs.Calls.{HardwareCall, Commit, CallEffect}
use Rattle.iom_stepped_ways.specs.Calls.{SteppedCall, Alone, SteppedEffect}
use Rattle.iom_walks.specs.Walks.{WalkRow}

-- the call makes no access: that is for a commit alone
abbrev pub MakesNone : HardwareCall → Type 0
MakesNone (Commit id answer) = ⊥
MakesNone _ = ⊤

abbrev pub MakesNoneBeside : SteppedCall → Type 0
MakesNoneBeside (Alone call) = MakesNone call
MakesNoneBeside _ = ⊤

-- the board stays, or hardware does this by a call that makes no access
abbrev pub UnchangedOrCalls : BoardParts → BoardParts → Type 0
UnchangedOrCalls old new = (new ≡ old) ⊎ ((done : HardwareCall) × CallEffect done old new × MakesNone done)

-- the same of hardware whose walks make one load an event
abbrev pub StaysOrCalls : BoardParts → List WalkRow → BoardParts → List WalkRow → Type 0
StaysOrCalls old rows new new_rows =
    ((new ≡ old) × (new_rows ≡ rows)) ⊎ ((done : SteppedCall) × SteppedEffect done old rows new new_rows × MakesNoneBeside done)

-- each block device of the board is among those
abbrev pub AreAllThere : BoardParts → ShownBlocks → Type 0
AreAllThere parts all = (id : ℕ) → IsAble is_block_device parts.devices id → ¬ (block_with all.blocks id ≡ None)
