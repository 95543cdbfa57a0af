-- What a block device waits for over a run of the model, and what a commit hands it.
use Rattle.std.specs.Prelude.{◌≡◌, ℕ, List, Option, Some}
use Rattle.iom_machine.specs.declared.event.Event.{Event}
use Rattle.iom_machine.specs.declared.event.Event.TheVariants as events
use Rattle.iom_machine.specs.declared.outcome.Outcome.{Outcome}
use Rattle.iom_machine.specs.declared.outcome.Trace.{Trace}
use Rattle.iom_machine.specs.declared.state.State.{State}
use Rattle.iom_machine.specs.Machine.{Run}
use Rattle.iom_virtio_blk.specs.DiskStates.{DiskState}
use Rattle.iom_block_devices.specs.Changes.{block_with}
use Rattle.iom_block_devices.specs.Shown.{ShownBlock}
use Rattle.iom_world.specs.EachWaits.{EachWaitsInFlight}
use Rattle.iom_world.specs.Happens.{Happens}
use Rattle.iom_world.specs.PowerOn.{BeginsFrom}
use Rattle.iom_world.specs.Runs.{GoesThrough, WaitsThroughout}
use Rattle.iom_world.specs.Shown.{Shown}

-- at power-on no block device waits for anything else than its own access in flight: there is none
abbrev pub PowerOnWaitsInFlight : Type 0
PowerOnWaitsInFlight = (first_fence frames levels : ℕ) (disks : List DiskState) (new : Shown) → BeginsFrom first_fence frames levels disks new → EachWaitsInFlight new

-- THE LAW: over any events, whatever the driver writes into its rings, and through resets, quarantines and detaches, each block device waits only while its
-- own access is in flight, in each state that the world goes through
abbrev pub RunsWaitInFlight : Type 0
RunsWaitInFlight =
    (state last : State) (old new : Shown) (events : List Event) (outcomes : List Outcome) (traces : List (Option Trace)) (run : Run state events outcomes last)
    (through : GoesThrough state old events outcomes traces last run new) → EachWaitsInFlight old → WaitsThroughout state old events outcomes traces last run new through

-- the block device is there, in the stage in which it was
abbrev pub IsInStageOf : ShownBlock → Option ShownBlock → Type 0
IsInStageOf block new = (after : ShownBlock) × (new ≡ Some after) × (after.device.front.stage ≡ block.device.front.stage)

-- WHERE EACH WAITS SO, a commit, of whichever device, changes the stage of no block device: the bytes that it hands one are as many as that one wants, so
-- none is to be reset for want of them
abbrev pub CommitsLeaveStages : Type 0
CommitsLeaveStages =
    (old new : Shown) (id other : ℕ) (reply : Outcome) (block : ShownBlock) → EachWaitsInFlight old → Happens old (events.Commit other) reply new
    → block_with old.inside.blocks id ≡ Some block → IsInStageOf block (block_with new.inside.blocks id)
