-- What is known of a world before an event and after it: each keeps its facts, and the event was counted.
use Rattle.std.proofs.Common.{◌≡◌, ◌+◌, ◌∙◌, ℕ, List, length, ap, inl, refl, subst, sym}
use Rattle.std.proofs.Math.Logic.{∥∥₁_elim}
use Rattle.iom_base.specs.declared.refusal.Refusal.{Refusal}
use Rattle.iom_driver.specs.StateOf.{state_of}
use Rattle.iom_driver.specs.declared.driver.Driver.{Driver}
use Rattle.iom_iommu.specs.Parts.{frames_of}
use Rattle.iom_machine.specs.declared.event.Event.{Event}
use Rattle.iom_machine.specs.declared.event.Event.TheVariants as events
use Rattle.iom_machine.specs.Disks.{disks_after}
use Rattle.iom_machine.specs.declared.outcome.Outcome.{Outcome}
use Rattle.iom_machine.specs.declared.outcome.Outcome.TheVariants as outcome
use Rattle.iom_stepped_machine.specs.Machine.{Answer, SteppedEvent, SteppedOutcome, Whole}
use Rattle.iom_stepped_refinement.specs.Effect.{SteppedEffect}
use Rattle.iom_stepped_refinement.specs.Laws.{LeavesRows}
use Rattle.iom_stepped_refinement.specs.Runs.{EventFits, LeadsTo, disks_then}
use Rattle.iom_stepped_world.specs.Happens.{StaysIfRefused}
use Rattle.iom_stepped_world.specs.Shown.{SteppedShown, moment}
use Rattle.iom_walks.specs.Walks.{WalkRow, row_of}
use Rattle.iom_world.specs.Blocks.{IsNoRefusal}
use Rattle.iom_world_effects.proofs.CallRefused.{same_parts as all_same}
use Rattle.iom_world_effects.specs.Invariant.{PartsInvariant}
use Rattle.iom_world_effects.specs.InvariantIsFact.{world_invariant_prop}
use Rattle.iom_world_effects.specs.Parts.{Parts}
use Rattle.iom_world_effects.specs.Unchanged.{SameIfRefused}
use Rattle.iom_world_walks.specs.Events.{GivesUp}

pub record Around (old new : SteppedShown) : Type 0 where
  pub before : PartsInvariant old.world.parts old.world.events
  pub after : PartsInvariant new.world.parts new.world.events
  pub counted : new.world.events ≡ old.world.events + 1

-- memory is as large as it was where the IOMMU is for as many frames
pub size_of : (old new : SteppedShown) → Around old new → frames_of new.world.parts.iommu ≡ frames_of old.world.parts.iommu
    → length new.world.parts.memory ≡ length old.world.parts.memory
size_of old new around frames = sym around.after.size ∙ frames ∙ around.before.size

-- so it leads on
pub leads : (old new : SteppedShown) (event : SteppedEvent) (outcome : SteppedOutcome) → Around old new → EventFits event
    → SteppedEffect old.world.disks old.world.parts old.rows event outcome new.world.parts new.rows → new.world.disks ≡ disks_then event outcome old.world.disks
    → frames_of new.world.parts.iommu ≡ frames_of old.world.parts.iommu → LeadsTo (moment old) event outcome (moment new)
leads old new event outcome around fits effect disks frames = record {
  fits = fits;
  effect = effect;
  disks = disks;
  size = size_of old new around frames;
  counted = around.counted;
}

-- an event that puts no disk into a device leaves those at hand
abbrev pub TakesNoDisk : Event → Type 0
TakesNoDisk (events.Plug id what) = ⊥
TakesNoDisk (events.Medium id disk) = ⊥
TakesNoDisk event = Unit {0}

pub no_disk : (event : Event) (answered : Outcome) (disks : List ℕ) → TakesNoDisk event → disks_after event answered disks ≡ disks
no_disk (events.Plug id what) answered disks none = absurd none
no_disk (events.Medium id disk) answered disks none = absurd none
no_disk _ answered disks none = refl

pub disks_left : (event : Event) (outcome : SteppedOutcome) (disks : List ℕ) → TakesNoDisk event → disks_then (Whole event) outcome disks ≡ disks
disks_left event (Answer answered) disks none = no_disk event answered disks none
disks_left event _ disks none = refl

-- what is under way stays
pub rows_stay : (old : Parts) (event : Event) (answered : Outcome) (rows new_rows : List WalkRow) → new_rows ≡ rows → ((id : ℕ) → GivesUp old event answered id → ⊥)
    → LeavesRows old event answered rows new_rows
rows_stay old event answered rows new_rows same none = record { left = λ id keeps. inl (ap (λ rs. row_of rs id) same); gone = λ id gives. absurd (none id gives) }

-- a refusal changes nothing, where nothing changed
pub nothing_changed : (old new : SteppedShown) (outcome : SteppedOutcome) → new.world.parts ≡ old.world.parts → new.rows ≡ old.rows → StaysIfRefused outcome old new
nothing_changed old new (Answer (outcome.Refused why)) parts rows = (all_same old.world.parts new.world.parts parts, rows)
nothing_changed old new _ parts rows = tt

-- and where nothing was refused
pub not_refused : (old new : SteppedShown) (answered : Outcome) → IsNoRefusal answered → StaysIfRefused (Answer answered) old new
not_refused old new (outcome.Refused why) none = absurd none
not_refused old new _ none = tt

-- so where the parts stay if it is refused, and what is under way stays too
pub stays_refused : (old new : SteppedShown) (answered : Outcome) → SameIfRefused answered old.world.parts new.world.parts → ((why : Refusal) → answered ≡ outcome.Refused why → new.rows ≡ old.rows)
    → StaysIfRefused (Answer answered) old new
stays_refused old new (outcome.Refused why) same rows = (same why refl, rows why refl)
stays_refused old new _ same rows = tt

-- what is merely so of the parts is so: it is a fact
pub merely_held : (driver : Driver) (parts : Parts) (count : ℕ) → parts.driver ≡ state_of driver → ∥ PartsInvariant parts count ∥₁ → PartsInvariant parts count
merely_held driver parts count is held =
    ∥∥₁_elim held
    (subst (λ d. IsProp (PartsInvariant (record parts { driver = d }) count)) (sym is) (world_invariant_prop parts.memory parts.iommu driver parts.devices parts.fabric count)) (λ so. so)
