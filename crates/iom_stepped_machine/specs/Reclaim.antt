-- The sentences of the reclaim theorem, where walks take several events.
use Rattle.std.specs.Prelude.{◌≡◌, ℕ, ◌+◌, ◌⊎◌, List, ◌∷◌, Some, None, ⊤}
use Rattle.iom_base.specs.declared.access.Access.{Access}
use Rattle.iom_base.specs.declared.device_kind.DeviceKind.TheVariants.{Raw}
use Rattle.iom_base.specs.Accesses.{IsWithinPage}
use Rattle.iom_base.specs.DeviceKinds.{sends_untranslated}
use Rattle.iom_machine.specs.declared.event.Event.{Event}
use Rattle.iom_machine.specs.declared.event.Event.TheVariants as events
use Rattle.iom_machine.specs.declared.outcome.Outcome.{Outcome}
use Rattle.iom_machine.specs.declared.outcome.Outcome.TheVariants.{Accepted}
use Rattle.iom_machine.specs.declared.state.Device.{Device}
use Rattle.iom_machine.specs.Devices.{EachInFlightMay, IsPlugged}
use Rattle.iom_machine.specs.Frames.{IsFree}
use Rattle.iom_machine.specs.Headline.{AsksFor, GrantsFrame, GrantsFrameTo, IsOneStage, TouchesFrame, TouchesFrameBy, TouchesItsOwn}
use Rattle.iom_machine.specs.Requests.{HoldsFor, IsBusy, with_accepted}
use Rattle.iom_stepped_machine.specs.Laws.{IsReachedByLoads}
use Rattle.iom_stepped_machine.specs.Machine.{Answer, IsAbleAt, IsFullBesides, Load, Loaded, Occupied, SteppedEvent, SteppedOutcome, SteppedRun, SteppedState, SteppedStep, Walking, Whole}
use Rattle.iom_stepped_machine.specs.Walks.{Walk, event_of}

-- Every access in flight may still reach its frame.
abbrev pub SteppedAccessesInFlightMay : Type 0
SteppedAccessesInFlightMay = (state : SteppedState) → IsReachedByLoads state → EachInFlightMay state.ledger

-- An access that is made touches its own.
abbrev pub SteppedAccessesTouchTheirOwn : Type 0
SteppedAccessesTouchTheirOwn = (old new : SteppedState) (id : ℕ) (outcome : Outcome)
    → IsReachedByLoads old → SteppedStep old (Whole (events.Commit id)) (Answer outcome) new → TouchesItsOwn old.ledger id outcome new.ledger

-- the access is accepted, on this frame
abbrev pub IsAcceptedOn : SteppedState → Device → Access → ℕ → SteppedOutcome → SteppedState → Type 0
IsAcceptedOn old device access frame outcome new =
    (outcome ≡ Answer (Accepted (device.accepted + 1))) × (new.ledger ≡ with_accepted old.ledger device access frame)

-- a raw device that is attached in one stage holds the page of the access, with this frame
pub record HoldsPage (state : SteppedState) (id : ℕ) (device : Device) (access : Access) (frame : ℕ) : Type 0 where
  pub plugged : IsPlugged state.ledger id device
  pub raw : device.kind ≡ Raw
  pub one_stage : IsOneStage device
  pub holds : HoldsFor state.ledger.history id access frame

-- A held page is accepted on its frame by the reply that ends the request.
pub record SteppedPagesAreAccepted : Type 0 where
  -- at once, where the device has no walk, or its walk begins
  pub at_once : (old new : SteppedState) (event : Event) (outcome : SteppedOutcome) (id : ℕ) (device : Device) (access : Access) (frame : ℕ)
      → IsReachedByLoads old → SteppedStep old (Whole event) outcome new → AsksFor event id access → HoldsPage old id device access frame
      → old.walks id ≡ None → IsWithinPage access → ¬ IsBusy old.ledger.limits.in_flight device.in_flight
      → (outcome ≡ Walking) ⊎ IsAcceptedOn old device access frame outcome new
  -- a device that has one is told so, where it can ask so, and could have one access more beside it
  pub beside : (old new : SteppedState) (event : Event) (outcome : SteppedOutcome) (id : ℕ) (access : Access) (walk : Walk)
      → SteppedStep old (Whole event) outcome new → AsksFor event id access → old.walks id ≡ Some walk → IsAbleAt sends_untranslated old.ledger id → IsWithinPage access → ¬ IsFullBesides old.ledger id
      → outcome ≡ Occupied
  -- at a load of its walk, where the page is held then, or the walk goes on
  pub at_load : (old new : SteppedState) (outcome : SteppedOutcome) (id : ℕ) (device : Device) (access : Access) (frame : ℕ) (walk : Walk)
      → IsReachedByLoads old → SteppedStep old (Load id) outcome new → old.walks id ≡ Some walk → AsksFor (event_of id walk.asking) id access
      → HoldsPage old id device access frame → (outcome ≡ Loaded) ⊎ IsAcceptedOn old device access frame outcome new

-- what is true of an event of the ledger machine that was answered
abbrev pub IsSo : (Event → Outcome → Type 0) → SteppedEvent → SteppedOutcome → Type 0
IsSo Is event outcome = (its : Event) × (reply : Outcome) × (event ≡ Whole its) × (outcome ≡ Answer reply) × Is its reply

-- no event was such a grant
abbrev pub NoneIsSo : (Event → Outcome → Type 0) → List SteppedEvent → List SteppedOutcome → Type 0
NoneIsSo Is (event ∷ events) (outcome ∷ outcomes) = (¬ IsSo Is event outcome) × NoneIsSo Is events outcomes
NoneIsSo Is _ _ = ⊤

-- A frame that is free is touched by no device until it is granted again.
abbrev pub SteppedFramesAreNotTouched : Type 0
SteppedFramesAreNotTouched = (free old new : SteppedState) (since : List SteppedEvent) (replies : List SteppedOutcome) (event : SteppedEvent) (outcome : SteppedOutcome) (frame : ℕ)
    → IsReachedByLoads free → IsFree free.ledger frame → SteppedRun free since replies old
    → NoneIsSo (λ its reply. GrantsFrame its reply frame) since replies
    → SteppedStep old event outcome new → ¬ IsSo (λ its reply. TouchesFrame old.ledger its reply frame) event outcome

-- And by each device only after it is granted to that very device again.
abbrev pub SteppedGranteesTouch : Type 0
SteppedGranteesTouch = (free old new : SteppedState) (since : List SteppedEvent) (replies : List SteppedOutcome) (event : SteppedEvent) (outcome : SteppedOutcome) (id frame : ℕ)
    → IsReachedByLoads free → IsFree free.ledger frame → SteppedRun free since replies old
    → NoneIsSo (λ its reply. GrantsFrameTo its reply id frame) since replies
    → SteppedStep old event outcome new → ¬ IsSo (λ its reply. TouchesFrameBy old.ledger its reply id frame) event outcome
