-- What the ledger machine sees of an event it may do itself.
use Rattle.std.proofs.Common.{◌≡◌, ℕ, Bool, List, [], ◌∷◌, Option, None, Some, refl, sym, ap, subst}
use Rattle.std.specs.Option.{option_map}
use Rattle.iom_machine.specs.declared.outcome.BlockStep.TheVariants.{Waiting}
use Rattle.iom_base.specs.DeviceKinds.{forges, sends_through_cache, sends_untranslated}
use Rattle.iom_base.specs.declared.device_kind.DeviceKind.{DeviceKind}
use Rattle.iom_base.specs.declared.access.Access.{Access}
use Rattle.iom_base.specs.Accesses.{read_of, write_of}
use Rattle.iom_machine.specs.declared.event.Event.{Event}
use Rattle.iom_machine.specs.declared.event.Event.TheVariants as events
use Rattle.iom_machine.specs.declared.outcome.Outcome.{Outcome}
use Rattle.iom_machine.specs.declared.outcome.Outcome.TheVariants.{Accepted, BadSpan, Busy, Fault, Refused, Stepped}
use Rattle.iom_machine.specs.declared.state.State.{State}
use Rattle.iom_machine.specs.Machine.{Run, Step}
use Rattle.iom_machine.proofs.InFlightLemmas.{some_case}
use Rattle.iom_stepped_machine.specs.Laws.{Answered, GoOn, IsSeenAs, SteppedRunsAreRuns, ledger_part, part_besides, part_whole, unless_busy}
use Rattle.iom_stepped_machine.specs.Machine.{Answer, AnswersBesides, AnswersLoad, AnswersWhole, BeginsAt, Load, Loaded, NoWalk, Occupied, PassesBesides, SteppedEvent, SteppedOutcome, SteppedState, SteppedStep, Walking, Whole, asker_of, walk_at, RefusesBesides, WaitsBesides}
use Rattle.iom_stepped_machine.specs.Walks.{Walk, event_of}

-- what is seen, if anything is, is a step, and else the state stays
abbrev pub PartSteps : Option Answered → State → State → Type 0
PartSteps None old new = new ≡ old
PartSteps (Some part) old new = Step old part.0 part.1 new

refuses : (can : DeviceKind → Bool) (old new : State) (id : ℕ) (access : Access) (event : Event) (outcome : Outcome) → RefusesBesides can old id access event outcome new
    → PartSteps (unless_busy event outcome) old new
refuses can old new id access event (Refused why) step = step
refuses can old new id access event BadSpan step = step
refuses can old new id access event Busy step = step.3
refuses can old new id access event _ step = absurd step

passes : (can : DeviceKind → Bool) (old new : State) (id : ℕ) (access : Access) (event : Event) (outcome : Outcome) → PassesBesides can old id access event outcome new
    → PartSteps (unless_busy event outcome) old new
passes can old new id access event (Refused why) step = step
passes can old new id access event BadSpan step = step
passes can old new id access event Busy step = step.3
passes can old new id access event _ step = step.1

waits : (old new : State) (id : ℕ) (outcome : Outcome) → WaitsBesides old id outcome new → Step old (events.Step id) outcome new
waits old new id (Refused why) step = step
waits old new id (Stepped Waiting) step = step
waits old new id _ step = absurd step

besides : (old new : State) (event : Event) (outcome : Outcome) → AnswersBesides old event outcome new → PartSteps (part_besides event outcome) old new
besides old new (events.Read id address len) outcome step = refuses sends_untranslated old new id (read_of address len) (events.Read id address len) outcome step
besides old new (events.Write id address bytes) outcome step = refuses sends_untranslated old new id (write_of address bytes) (events.Write id address bytes) outcome step
besides old new (events.Step id) outcome step = waits old new id outcome step
besides old new (events.ReadTranslated id address len) outcome step = passes forges old new id (read_of address len) (events.ReadTranslated id address len) outcome step
besides old new (events.WriteTranslated id address bytes) outcome step = passes forges old new id (write_of address bytes) (events.WriteTranslated id address bytes) outcome step
besides old new (events.ReadThroughCache id address len) outcome step =
    passes sends_through_cache old new id (read_of address len) (events.ReadThroughCache id address len) outcome step
besides old new (events.WriteThroughCache id address bytes) outcome step =
    passes sends_through_cache old new id (write_of address bytes) (events.WriteThroughCache id address bytes) outcome step
besides old new _ outcome step = step

whole : (found : Option Walk) (old new : State) (event : Event) (outcome : Outcome) → AnswersWhole found old event outcome new → PartSteps (part_whole found event outcome) old new
whole None old new event outcome step = step
whole (Some walk) old new event outcome step = besides old new event outcome step

-- where a walk begins the ledger stays
begins : (old new : SteppedState) (event : Event) → BeginsAt old event new → new.ledger ≡ old.ledger
begins old new (events.Read id address len) walk = ap (λ (s : SteppedState). s.ledger) walk.begun
begins old new (events.Write id address bytes) walk = ap (λ (s : SteppedState). s.ledger) walk.begun
begins old new (events.Step id) (access, wanted, walk) = ap (λ (s : SteppedState). s.ledger) walk.begun
begins old new _ walk = absurd walk

loads : (old new : SteppedState) (id : ℕ) (outcome : Outcome) → AnswersLoad old id outcome new → PartSteps (ledger_part old.walks (Load id) (Answer outcome)) old.ledger new.ledger
loads old new id (Accepted number) answers =
    let found = some_case (old.walks id) _ answers in
    subst (λ (w : Option Walk). PartSteps (option_map (λ (walk : Walk). (event_of id walk.asking, Accepted number)) w) old.ledger new.ledger) (sym found.1) (found.2.0.0, found.2.0.2)
loads old new id (Fault cause) answers =
    let found = some_case (old.walks id) _ answers in
    subst (λ (w : Option Walk). PartSteps (option_map (λ (walk : Walk). (event_of id walk.asking, Fault cause)) w) old.ledger new.ledger) (sym found.1) (found.2.0.0, found.2.0.2)
loads old new id (Refused why) answers = ap (λ (s : SteppedState). s.ledger) answers.2
loads old new id _ answers = absurd answers

-- EACH STEP
pub part_steps : (old new : SteppedState) (event : SteppedEvent) (outcome : SteppedOutcome) → SteppedStep old event outcome new
    → PartSteps (ledger_part old.walks event outcome) old.ledger new.ledger
part_steps old new (Whole event) (Answer outcome) step = whole (walk_at old.walks (asker_of event)) old.ledger new.ledger event outcome step.0
part_steps old new (Whole event) Walking step = begins old new event step
part_steps old new (Whole event) Occupied step = ap (λ (s : SteppedState). s.ledger) step.1
part_steps old new (Load id) (Answer outcome) step = loads old new id outcome step
part_steps old new (Load id) Loaded step = let found = some_case (old.walks id) _ step in ap (λ (s : SteppedState). s.ledger) found.2.1
part_steps old new (Load id) NoWalk step = ap (λ (s : SteppedState). s.ledger) step.2
part_steps old new (Whole event) Loaded step = absurd step
part_steps old new (Whole event) NoWalk step = absurd step
part_steps old new (Load id) Walking step = absurd step
part_steps old new (Load id) Occupied step = absurd step

-- AND EACH RUN
pub runs_are_runs : SteppedRunsAreRuns
runs_are_runs old new [] [] run = ([], [], (run, refl, refl), ap (λ (s : SteppedState). s.ledger) run)
runs_are_runs old new [] (outcome ∷ outcomes) run = absurd run
runs_are_runs old new (event ∷ events) [] run = absurd run
runs_are_runs old new (event ∷ events) (outcome ∷ outcomes) (mid, step, rest) =
    by (runs_are_runs mid new events outcomes rest) (ledger_part old.walks event outcome) refl (part_steps old mid event outcome step)
  where
    Others : List Event → List Outcome → Type 0
    Others later answers = IsSeenAs mid events outcomes new later answers

    by : ((its : List Event) × (replies : List Outcome) × IsSeenAs mid events outcomes new its replies × Run mid.ledger its replies new.ledger)
        → (part : Option Answered) → ledger_part old.walks event outcome ≡ part → PartSteps part old.ledger mid.ledger
        → (its : List Event) × (replies : List Outcome) × IsSeenAs old (event ∷ events) (outcome ∷ outcomes) new its replies × Run old.ledger its replies new.ledger
    by (its, replies, seen, run) None is same = (
      its,
      replies,
      (mid, step, subst (λ (p : Option Answered). GoOn p Others its replies) (sym is) seen),
      subst (λ (l : State). Run l its replies new.ledger) same run,
    )
    by (its, replies, seen, run) (Some first) is next = (
      first.0 ∷ its,
      first.1 ∷ replies,
      (mid, step, subst (λ (p : Option Answered). GoOn p Others (first.0 ∷ its) (first.1 ∷ replies)) (sym is) (its, replies, refl, refl, seen)),
      (mid.ledger, next, run),
    )
