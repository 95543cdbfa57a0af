-- What a test sees at the end of a schedule.
use Rattle.std.specs.Prelude.{◌≡◌, ℕ, Bool, true, false, ◌==◌, ◌&&◌, List, [], ◌∷◌, Option, Some, None, map, is_some, cond}
use Rattle.std.specs.List.{list_any}
use Rattle.iom_base.specs.declared.access.AccessKind.{AccessKind}
use Rattle.iom_base.specs.declared.access.AccessKind.TheVariants as Kinds
use Rattle.iom_litmus_test.specs.declared.observable.Observable.{Observable}
use Rattle.iom_litmus_test.specs.declared.observable.Observable.TheVariants.{Answer, Touched, Before, Stuck, Wrong, Violated, Memory}
use Rattle.iom_litmus_test.specs.declared.observable.Reach.{Reach}
use Rattle.iom_litmus_test.specs.declared.observable.Spot.{Spot}
use Rattle.iom_litmus_test.specs.declared.observable.Touch.{Touch}
use Rattle.iom_litmus_test.specs.declared.observable.Value.{Value}
use Rattle.iom_litmus_test.specs.declared.observable.Value.TheVariants.{Text, Truth}
use Rattle.iom_litmus_test.specs.declared.test.Test.{Test}
use Rattle.iom_litmus.specs.declared.place.Happened.{Happened}
use Rattle.iom_litmus.specs.declared.place.Place.{Place}
use Rattle.iom_litmus.specs.declared.step.Step.{Step}
use Rattle.iom_litmus.specs.Behaviours.{Behaviour}
use Rattle.iom_litmus.specs.Readings.{Readings}
use Rattle.iom_litmus.specs.Deeds.{is_run_of}
use Rattle.iom_litmus.specs.Happenings.{answer_to, next_cell}
use Rattle.iom_litmus.specs.Steps.{place_after}

-- what happened after the cell was run: nothing where it wasn't
abbrev pub after_run : Spot → List Happened → List Happened
after_run spot [] = []
after_run spot (event ∷ rest) = cond (is_run_of spot event.deed) rest (after_run spot rest)

abbrev pub after_any : Option Spot → List Happened → List Happened
after_any None happened = happened
after_any (Some spot) happened = after_run spot happened

-- the access is of the device, to the frame, and of the kind that is asked for
abbrev pub is_kind : Option AccessKind → AccessKind → Bool
is_kind None kind = true
is_kind (Some Kinds.Read) Kinds.Read = true
is_kind (Some Kinds.Read) Kinds.Write = false
is_kind (Some Kinds.Write) Kinds.Read = false
is_kind (Some Kinds.Write) Kinds.Write = true

abbrev pub is_reach : Reach → Touch → Bool
is_reach reach touch = (reach.device == touch.device) && ((reach.frame == touch.frame) && is_kind reach.kind touch.kind)

abbrev pub touches : Reach → Happened → Bool
touches reach event = list_any (is_reach reach) event.reply.touches

-- such an access was made
abbrev pub is_touched : Reach → List Happened → Bool
is_touched reach happened = list_any (touches reach) (after_any reach.after happened)

-- both cells were run, in this order
abbrev pub is_before : Spot → Spot → List Happened → Bool
is_before first then happened = list_any (λ event. is_run_of then event.deed) (after_run first happened)

-- some answer said that a claim is wrong, or that an access was made which no claim allows
abbrev pub is_any_wrong : List Happened → Bool
is_any_wrong happened = list_any (λ event. event.reply.wrong) happened

abbrev pub is_any_violated : List Happened → Bool
is_any_violated happened = list_any (λ event. event.reply.violated) happened

-- what is seen of one thing that the test looks at
abbrev pub seen_of : {S : Type 0} → Readings S → Test → Place S → Observable → Value
seen_of r test end (Answer spot) = Text (answer_to spot end.happened)
seen_of r test end (Touched reach) = Truth (is_touched reach end.happened)
seen_of r test end (Before first then) = Truth (is_before first then end.happened)
seen_of r test end (Stuck column) = Truth (is_some (next_cell test end.happened column))
seen_of r test end Wrong = Truth (is_any_wrong end.happened)
seen_of r test end Violated = Truth (is_any_violated end.happened)
seen_of r test end (Memory address length) = Text (r.memory end.system address length)

abbrev pub seen_at : {S : Type 0} → Readings S → Test → Place S → List Value
seen_at r test end = map (seen_of r test end) test.observables

-- the outcome of a schedule
abbrev pub outcome_after : {S : Type 0} → Readings S → Behaviour S → Test → S → List Step → List Value
outcome_after r b test system schedule = seen_at r test (place_after b test system schedule)
