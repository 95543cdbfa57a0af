-- What an event does to a world, and what comes of it.
use Rattle.std.specs.Prelude.{◌≡◌, ◌+◌, ℕ}
use Rattle.iom_base.specs.declared.access.Access.{Access}
use Rattle.iom_machine.specs.declared.event.Event.{Event}
use Rattle.iom_machine.specs.declared.outcome.Outcome.{Outcome}
use Rattle.iom_machine.specs.declared.state.State.{State}
use Rattle.iom_machine.specs.Machine.{Step}
use Rattle.iom_world_effects.specs.Effect.{Effect}
use Rattle.iom_machine.specs.Disks.{disks_after}
use Rattle.iom_world_effects.specs.Unchanged.{SameIfRefused, KeepsCommands, HasTimedOut, StaysStopped}
use Rattle.iom_world_effects.specs.Requests.{ReadsGuestTables}
use Rattle.iom_world.specs.Blocks.{EffectOnBlocks}
use Rattle.iom_world.specs.Shown.{Shown}
use Rattle.iom_world.specs.Shows.{Shows}

-- An event that is answered so. It is a lawful step of the ledger machine, from every state that the world shows, to one that it shows then. It does to
-- memory, IOMMU, driver and devices what the call behind it says; a disk that is put into a device was in none before, and won't be again; and to the block
-- devices themselves it does what `EffectOnBlocks` says. Commands that wait change by a release, a detach, a quarantine, a restart and a fetch alone. Where a walk
-- through both stages gives a translation, the guest's own tables are read from frames that the device may read: that is so of every walk in the world before
-- the event, and by `effect` the walk of a request, of a block device's step or of a question is one of these. From a timeout to the next restart no fence is
-- done. A refusal changes nothing. And the event is counted.
pub record Happens (old : Shown) (event : Event) (reply : Outcome) (new : Shown) : Type 0 where
  pub step : (state : State) → Shows old state → (next : State) × Step state event reply next × Shows new next
  pub effect : Effect old.disks old.parts event reply new.parts
  pub disks : new.disks ≡ disks_after event reply old.disks
  pub blocks : EffectOnBlocks old event reply new
  pub commands : KeepsCommands event old.parts new.parts
  pub guest : (state : State) → Shows old state → (id : ℕ) (access : Access) → ReadsGuestTables old.parts state.history id access
  pub stopped : HasTimedOut old.parts → StaysStopped event reply old.parts new.parts
  pub refused : SameIfRefused reply old.parts new.parts
  pub events : new.events ≡ old.events + 1
