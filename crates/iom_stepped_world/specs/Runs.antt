-- What a run over a list of events and loads gives, where the outcomes go to a sink.
use Rattle.std.specs.Prelude.{◌≡◌, ◌+◌, ◌<◌, List, [], ◌∷◌, ◌++◌, length, map, take}
use Rattle.iom_stepped_machine.specs.Laws.{IsReachedByLoads}
use Rattle.iom_stepped_machine.specs.Machine.{SteppedEvent, SteppedOutcome, SteppedRun, SteppedState}
use Rattle.iom_stepped_refinement.specs.Runs.{ShowsMoment}
use Rattle.iom_stepped_world.specs.Happens.{Does}
use Rattle.iom_stepped_world.specs.Shown.{SteppedShown, moment}
use Rattle.iom_stepped_world.specs.Told.{said}
use Rattle.iom_stepped_world.specs.declared.event.SteppedEvent as code

-- the sink takes these outcomes, one after another
abbrev pub TakesAll : {S : Type 0} → (S → SteppedOutcome → S → Type 0) → S → List SteppedOutcome → S → Type 0
TakesAll takes before [] after = after ≡ before
TakesAll takes before (outcome ∷ outcomes) after = (mid : _) × takes before outcome mid × TakesAll takes mid outcomes after

-- the world goes through this run of the ledger machine with walks, and is this one in the end: before each event and after the last it shows the state that the run
-- is in, and each event does to it what it may
abbrev pub GoesThrough : (state : SteppedState) → SteppedShown → (events : List SteppedEvent) (outcomes : List SteppedOutcome) (last : SteppedState)
    → SteppedRun state events outcomes last → SteppedShown → Type 0
GoesThrough state old [] [] last run new = ShowsMoment (moment new) last × (new ≡ old)
GoesThrough state old (event ∷ events) (outcome ∷ outcomes) last (next, step, rest) new =
    ShowsMoment (moment old) state × (mid : SteppedShown) × Does old event outcome mid × GoesThrough next mid events outcomes last rest new
GoesThrough state old _ _ last run new = ⊥

-- the events have these outcomes: those of a run to this state, which the world goes through; and what it comes to is reached from power-on, where it began with
-- what is
pub record AreOutcomes (state : SteppedState) (old : SteppedShown) (events : List SteppedEvent) (outcomes : List SteppedOutcome) (last : SteppedState) (new : SteppedShown)
    : Type 0 where
  pub run : SteppedRun state events outcomes last
  pub through : GoesThrough state old events outcomes last run new
  pub reached : IsReachedByLoads state → IsReachedByLoads last

-- all the events have some outcomes, and the sink took each: there is such a run
abbrev pub RunsTo : {S : Type 0} → (S → SteppedOutcome → S → Type 0) → SteppedState → SteppedShown → List code.SteppedEvent → S → S → SteppedShown → Type 0
RunsTo takes state old events before after new =
    (outcomes : List SteppedOutcome) × TakesAll takes before outcomes after
    × ∥ ((last : SteppedState) × AreOutcomes state old (map said events) outcomes last new) ∥₁

-- the events up to one have some outcomes, at the last of which the sink failed, having taken each before
abbrev pub FailsAfter : {S : Type 0} → (takes fails : S → SteppedOutcome → S → Type 0) → SteppedState → SteppedShown → List code.SteppedEvent → S → S → SteppedShown → Type 0
FailsAfter takes fails state old events before after new =
    (outcomes : List SteppedOutcome) × (ended : SteppedOutcome) × (middle : _)
    × (length outcomes < length events)
    × TakesAll takes before outcomes middle × fails middle ended after
    × ∥ ((last : SteppedState) × AreOutcomes state old (map said (take (length outcomes + 1) events)) (outcomes ++ ended ∷ []) last new) ∥₁
