-- What an event does to a world whose walks make one load an event, and what comes of it.
use Rattle.std.specs.Prelude.{◌≡◌, ℕ, List, [], ⊤}
use Rattle.iom_machine.specs.declared.outcome.Outcome.TheVariants.{Refused}
use Rattle.iom_stepped_machine.specs.Machine.{Answer, SteppedEvent, SteppedOutcome, SteppedState, SteppedStep}
use Rattle.iom_stepped_refinement.specs.Runs.{LeadsTo, ShowsMoment}
use Rattle.iom_stepped_world.specs.Inside.{EffectInside}
use Rattle.iom_stepped_world.specs.Loads.{LoadWhereTheyMay}
use Rattle.iom_stepped_world.specs.Shown.{SteppedShown, moment}
use Rattle.iom_virtio_blk.specs.DiskStates.{DiskState}
use Rattle.iom_world.specs.PowerOn.{BeginsAt}
use Rattle.iom_world_effects.specs.Unchanged.{AreSame}

-- a refusal changes nothing, but what room the driver's ledger has
abbrev pub StaysIfRefused : SteppedOutcome → SteppedShown → SteppedShown → Type 0
StaysIfRefused (Answer (Refused why)) old new = AreSame old.world.parts new.world.parts × (new.rows ≡ old.rows)
StaysIfRefused outcome old new = ⊤

-- what the call behind the event does: to memory, IOMMU, driver, devices, messages and to what is under way (`leads`), where each event is counted, and to the block
-- devices themselves
pub record Does (old : SteppedShown) (event : SteppedEvent) (outcome : SteppedOutcome) (new : SteppedShown) : Type 0 where
  pub leads : LeadsTo (moment old) event outcome (moment new)
  pub inside : EffectInside old event outcome new
  pub refused : StaysIfRefused outcome old new

-- AN EVENT that is answered so. It is a lawful step of the ledger machine with walks, from every state that the world shows: there is one that it shows then, to which
-- that leads. And each request that is under way before it, whose next load this event may make, stands where its device's loads may be made by that state.
pub record SteppedHappens (old : SteppedShown) (event : SteppedEvent) (outcome : SteppedOutcome) (new : SteppedShown) : Type 0 where
  pub step : (state : SteppedState) → ShowsMoment (moment old) state → ∥ ((next : SteppedState) × SteppedStep state event outcome next × ShowsMoment (moment new) next) ∥₁
  pub guest : (state : SteppedState) → ShowsMoment (moment old) state → LoadWhereTheyMay old.world.parts old.rows state.ledger.history
  pub does : Does old event outcome new

-- AT POWER-ON: a world is, and nothing is under way
pub record BeginsStepped (frames levels : ℕ) (disks : List DiskState) (new : SteppedShown) : Type 0 where
  pub world : BeginsAt frames levels disks new.world
  pub idle : new.rows ≡ []
