-- How a world beside which requests are under way settles.
use Rattle.std.specs.Prelude.{List, map}
use Rattle.iom_machine.specs.declared.event.Event.{Event}
use Rattle.iom_machine.specs.declared.outcome.Outcome.{Outcome}
use Rattle.iom_settling.specs.Kinds.{AreAll, IsSettling}
use Rattle.iom_stepped_machine.specs.Machine.{Answer, SteppedRun, SteppedState, Whole}
use Rattle.iom_stepped_refinement.specs.Runs.{ShowsMoment}
use Rattle.iom_stepped_world.specs.Happens.{Does}
use Rattle.iom_stepped_world.specs.Shown.{SteppedShown, moment, stepped_of}
use Rattle.iom_stepped_world.specs.declared.world.SteppedWorld.{SteppedWorld}
use Rattle.iom_virtio_blk.specs.DiskStates.{DiskState}
use Rattle.iom_virtio_blk.specs.declared.disk.Disk.{Ghosts}
use Rattle.iom_walks.specs.Invariant.{AreWalks}
use Rattle.iom_world.specs.Shown.{disks_of, parts_of}
use Rattle.iom_world_effects.specs.Effect.{Effect}
use Rattle.iom_world_effects.specs.Unchanged.{KeepsCommands}

-- an event of settling is answered so: it does what its call says, also as it is said of a world without walks (`effect`), and commands that wait change by a restart and
-- a fetch alone
pub record TakesSo {D : Type 0} {d : Ghosts D} (shown : D → DiskState) (old : SteppedWorld D d) (event : Event) (reply : Outcome) (new : SteppedWorld D d) : Type 0 where
  pub settling : IsSettling event
  pub does : Does (stepped_of shown old.world old.walks) (Whole event) (Answer reply) (stepped_of shown new.world new.walks)
  pub effect : Effect (disks_of old.world) (parts_of old.world) event reply (parts_of new.world)
  pub walks : AreWalks new.walks
  pub commands : KeepsCommands event (parts_of old.world) (parts_of new.world)

-- the events of settling are those of a run of the ledger machine with walks, to a state that the world shows then
pub record SettlesAsRun (state : SteppedState) (new : SteppedShown) : Type 0 where
  pub events : List Event
  pub outcomes : List Outcome
  pub last : SteppedState
  pub kinds : AreAll IsSettling events
  pub run : SteppedRun state (map Whole events) (map Answer outcomes) last
  pub shows : ShowsMoment (moment new) last
