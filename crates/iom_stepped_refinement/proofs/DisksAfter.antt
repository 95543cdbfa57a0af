-- Which disks were never in a device, after a step of the ledger machine with walks.
use Rattle.std.proofs.Common.{◌≡◌, ℕ, ◌∙◌, inl, inr, List, Option, Some, None, refl, sym, ap}
use Rattle.iom_machine.specs.Disks.{disks_after}
use Rattle.iom_machine.specs.declared.event.Event.{Event}
use Rattle.iom_machine.specs.declared.event.Event.TheVariants as happens
use Rattle.iom_machine.specs.declared.outcome.Outcome.{Outcome}
use Rattle.iom_machine.specs.declared.outcome.Outcome.TheVariants as outcome
use Rattle.iom_machine.specs.declared.state.State.{State}
use Rattle.iom_machine.specs.Machine.{Step}
use Rattle.iom_machine.proofs.InFlightLemmas.{some_case}
use Rattle.iom_machine.proofs.StepChanges.{step_change}
use Rattle.iom_stepped_machine.specs.Machine as machine
use Rattle.iom_stepped_machine.specs.Machine.{AnswersLoad, AnswersWhole, BeginsAt, EndsWalk, Load, SteppedEvent, SteppedOutcome, SteppedState, SteppedStep, Whole, asker_of, walk_at}
use Rattle.iom_stepped_machine.specs.Walks.{Asking, Begins, Reads, Walk, Writes, event_of}
use Rattle.iom_stepped_machine.proofs.RoomLemmas.{besides_so}
use Rattle.iom_stepped_refinement.specs.Runs.{disks_then}

stepped : (old new : State) (event : Event) (answered : Outcome) → Step old event answered new → new.disks ≡ disks_after event answered old.disks
stepped old new event answered step = (step_change old new event answered step).disks

-- an event by which a device asks for an access takes no disk
asks_no_disk : (event : Event) (id : ℕ) (answered : Outcome) (disks : List ℕ) → asker_of event ≡ Some id → disks_after event answered disks ≡ disks
asks_no_disk (happens.Plug device what) id answered disks who = cc
asks_no_disk (happens.Medium device disk) id answered disks who = cc
asks_no_disk _ id answered disks who = refl

answered_whole : (old new : State) (walk : Option Walk) (asker : Option ℕ) (walks : ℕ → Option Walk) (event : Event) (answered : Outcome) → asker_of event ≡ asker → walk_at walks asker ≡ walk
    → AnswersWhole walk old event answered new → new.disks ≡ disks_after event answered old.disks
answered_whole old new None asker walks event answered who at answers = stepped old new event answered answers
answered_whole old new (Some walk) None walks event answered who at answers = cc
answered_whole old new (Some walk) (Some id) walks event answered who at answers = elim (besides_so old new event answered answers) [
  | inl same ↦ ap (λ (s : State). s.disks) same ∙ sym (asks_no_disk event id answered old.disks who)
  | inr step ↦ stepped old new event answered step
]

begun : (old new : SteppedState) (event : Event) → BeginsAt old event new → new.ledger.disks ≡ old.ledger.disks
begun old new (happens.Read id address len) walk = ap (λ (s : SteppedState). s.ledger.disks) walk.begun
begun old new (happens.Write id address bytes) walk = ap (λ (s : SteppedState). s.ledger.disks) walk.begun
begun old new (happens.Step id) (access, wanted, walk) = ap (λ (s : SteppedState). s.ledger.disks) walk.begun
begun old new _ walk = absurd walk

ended : (old new : SteppedState) (id : ℕ) (walk : Walk) (answered : Outcome) → EndsWalk old id walk answered new → new.ledger.disks ≡ old.ledger.disks
ended old new id walk answered ends = stepped old.ledger new.ledger (event_of id walk.asking) answered (ends.0.0, ends.0.2) ∙ by walk.asking
  where
    by : (asking : Asking) → disks_after (event_of id asking) answered old.ledger.disks ≡ old.ledger.disks
    by (Reads address len) = refl
    by (Writes address bytes) = refl
    by (Begins access) = refl

loaded : (old new : SteppedState) (id : ℕ) (answered : Outcome) → AnswersLoad old id answered new → new.ledger.disks ≡ old.ledger.disks
loaded old new id (outcome.Accepted number) answers = let found = some_case (old.walks id) _ answers in ended old new id found.0 (outcome.Accepted number) found.2
loaded old new id (outcome.Fault cause) answers = let found = some_case (old.walks id) _ answers in ended old new id found.0 (outcome.Fault cause) found.2
loaded old new id (outcome.Refused why) answers = ap (λ (s : SteppedState). s.ledger.disks) answers.2
loaded old new id _ answers = absurd answers

-- BY THE STEP
pub disks_stepped : (old new : SteppedState) (event : SteppedEvent) (told : SteppedOutcome) → SteppedStep old event told new → new.ledger.disks ≡ disks_then event told old.ledger.disks
disks_stepped old new (Whole event) (machine.Answer answered) step = answered_whole old.ledger new.ledger (walk_at old.walks (asker_of event)) (asker_of event) old.walks event answered refl refl step.0
disks_stepped old new (Whole event) machine.Walking step = begun old new event step
disks_stepped old new (Whole event) machine.Occupied step = ap (λ (s : SteppedState). s.ledger.disks) step.1
disks_stepped old new (Whole event) machine.Loaded step = absurd step
disks_stepped old new (Whole event) machine.NoWalk step = absurd step
disks_stepped old new (Load id) (machine.Answer answered) step = loaded old new id answered step
disks_stepped old new (Load id) machine.Walking step = absurd step
disks_stepped old new (Load id) machine.Occupied step = absurd step
disks_stepped old new (Load id) machine.Loaded step = let found = some_case (old.walks id) _ step in ap (λ (s : SteppedState). s.ledger.disks) found.2.1
disks_stepped old new (Load id) machine.NoWalk step = ap (λ (s : SteppedState). s.ledger.disks) step.2
