-- The steps of a test: which can be taken at a place, and where they lead.
use Rattle.std.specs.Prelude.{◌≡◌, ◌⊎◌, ℕ, ◌<◌, Bool, false, List, [], ◌∷◌, ◌++◌, Option, Some, None, IsTrue}
use Rattle.iom_litmus_test.specs.declared.column.Cell.{Cell}
use Rattle.iom_litmus_test.specs.declared.glob.Glob.{Glob}
use Rattle.iom_litmus_test.specs.declared.observable.Spot.{Spot}
use Rattle.iom_litmus_test.specs.declared.test.Test.{Test}
use Rattle.iom_litmus_test.specs.Globs.{Matches}
use Rattle.iom_litmus.specs.declared.place.Deed.{Deed}
use Rattle.iom_litmus.specs.declared.place.Deed.TheVariants as Deeds
use Rattle.iom_litmus.specs.declared.place.Happened.{Happened}
use Rattle.iom_litmus.specs.declared.place.Place.{Place}
use Rattle.iom_litmus.specs.declared.step.HardwareStep.{HardwareStep}
use Rattle.iom_litmus.specs.declared.step.HardwareStep.TheVariants as Acts
use Rattle.iom_litmus.specs.declared.step.Step.{Step}
use Rattle.iom_litmus.specs.declared.step.Step.TheVariants as Steps
use Rattle.iom_litmus.specs.declared.reply.Reply.{Reply}
use Rattle.iom_litmus.specs.Behaviours.{Behaviour}
use Rattle.iom_litmus.specs.Readings.{Readings}
use Rattle.iom_litmus.specs.Rules.{Rules, Noted}
use Rattle.iom_litmus.specs.Deeds.{is_drop, is_repeat, is_timeout}
use Rattle.iom_litmus.specs.Happenings.{next_cell, times}
use Rattle.iom_litmus.specs.Listed.{IsListed}
use Rattle.iom_litmus.specs.Replies.{RunsLines, no_reply}
use Rattle.iom_litmus.specs.Schedules.{IsSchedule, IsWay, arrived}

-- what hardware can do: no earlier message is equal to one that is delivered
abbrev pub IsFirstSuch : {S : Type 0} → Readings S → S → ℕ → Type 0
IsFirstSuch r system message = (earlier : ℕ) → earlier < message → ¬ r.is_same_message system earlier message

abbrev pub CanCommit : {S : Type 0} → Readings S → Test → Place S → ℕ → Type 0
CanCommit r test place device = IsTrue test.parts.commit × IsListed (r.devices place.system) device × IsTrue (r.is_in_flight place.system device)

abbrev pub CanLoad : {S : Type 0} → Readings S → Test → Place S → ℕ → Type 0
CanLoad r test place device = IsTrue test.parts.load × IsListed (r.devices place.system) device × IsTrue (r.is_in_walk place.system device)

abbrev pub CanDeliver : {S : Type 0} → Readings S → Test → Place S → ℕ → Type 0
CanDeliver r test place message =
    IsTrue test.parts.deliver
    × (message < r.messages place.system)
    × (IsTrue test.parts.in_order → message ≡ 0)
    × IsFirstSuch r place.system message

abbrev pub CanDrop : {S : Type 0} → Readings S → Test → Place S → ℕ → Type 0
CanDrop r test place message = (message < r.messages place.system) × (times is_drop place.happened < test.budgets.drops)

abbrev pub CanRepeat : {S : Type 0} → Readings S → Test → Place S → ℕ → Type 0
CanRepeat r test place message = (message < r.messages place.system) × (times is_repeat place.happened < test.budgets.repeats)

abbrev pub CanTimeOut : {S : Type 0} → Readings S → Test → Place S → Type 0
CanTimeOut r test place = IsTrue (r.times_out place.system) × (times is_timeout place.happened < test.budgets.timeouts)

abbrev pub CanAct : {S : Type 0} → Readings S → Test → Place S → HardwareStep → Type 0
CanAct r test place Acts.Fetch = IsTrue test.parts.fetch × IsTrue (r.fetches place.system)
CanAct r test place (Acts.Commit device) = CanCommit r test place device
CanAct r test place (Acts.Load device) = CanLoad r test place device
CanAct r test place (Acts.Deliver message) = CanDeliver r test place message
CanAct r test place (Acts.Drop message) = CanDrop r test place message
CanAct r test place (Acts.Repeat message) = CanRepeat r test place message
CanAct r test place Acts.Timeout = CanTimeOut r test place

-- what a step does at a place: a column its next cell, where it has one
abbrev pub deed_of_cell : ℕ → Option (ℕ × Cell) → Option Deed
deed_of_cell column None = None
deed_of_cell column (Some (k, cell)) = Some (Deeds.Cell (record { column = column; cell = k }))

abbrev pub deed_of : Test → List Happened → Step → Option Deed
deed_of test happened (Steps.Column column) = deed_of_cell column (next_cell test happened column)
deed_of test happened (Steps.Hardware act) = Some (Deeds.Hardware act)

-- a column has a next cell, and where an answer is awaited the cell is answered like that
abbrev pub IsAnsweredLike : Option Glob → List ℕ → Type 0
IsAnsweredLike None text = Unit {0}
IsAnsweredLike (Some glob) text = Matches glob.parts text

abbrev pub CanRun : (Deed → Reply) → ℕ → Option (ℕ × Cell) → Type 0
CanRun said column None = ⊥
CanRun said column (Some (k, cell)) = IsAnsweredLike cell.awaited (said (Deeds.Cell (record { column = column; cell = k }))).text

-- which steps can be taken at a place, by what is said there
abbrev pub CanStepBy : {S : Type 0} → Readings S → Test → (Deed → Reply) → Place S → Step → Type 0
CanStepBy r test said place (Steps.Column column) = CanRun said column (next_cell test place.happened column)
CanStepBy r test said place (Steps.Hardware act) = CanAct r test place act

abbrev pub CanStep : {S : Type 0} → Readings S → Behaviour S → Test → Place S → Step → Type 0
CanStep r b test place step = CanStepBy r test (b.reply place.happened) place step

-- where a step leads
abbrev pub gone_on : {S : Type 0} → Place S → Deed → Reply → S → Place S
gone_on place deed reply after = record { system = after; happened = place.happened ++ record { deed = deed; reply = reply } ∷ [] }

abbrev pub done : {S : Type 0} → Behaviour S → Place S → Option Deed → Place S
done b place None = place
done b place (Some deed) = gone_on place deed (b.reply place.happened deed) (b.after place.happened deed)

abbrev pub taken : {S : Type 0} → Behaviour S → Test → Place S → Step → Place S
taken b test place step = done b place (deed_of test place.happened step)

-- the place from which a test begins
abbrev pub opening_place : {S : Type 0} → S → Place S
opening_place system = record { system = system; happened = [] }

-- where steps lead from there
abbrev pub place_after : {S : Type 0} → Behaviour S → Test → S → List Step → Place S
place_after b test system steps = arrived (taken b test) (opening_place system) steps

-- steps that can be taken, one after another, from the system that was made
abbrev pub IsWayOf : {S : Type 0} → Readings S → Behaviour S → Test → S → List Step → Type 0
IsWayOf r b test system steps = IsWay (CanStep r b test) (taken b test) (opening_place system) steps

-- and a schedule of the test
abbrev pub IsScheduleOf : {S : Type 0} → Readings S → Behaviour S → Test → S → List Step → Type 0
IsScheduleOf r b test system schedule = IsSchedule (CanStep r b test) (taken b test) (opening_place system) schedule

-- an answer that the system may give to what can be tried at a place
abbrev pub MayAnswer : {S : Type 0} → Rules S → Readings S → Test → Place S → Deed → Reply → S → Type 0
MayAnswer rules r test place (Deeds.Cell spot) reply after =
    (cell : Cell) → next_cell test place.happened spot.column ≡ Some (spot.cell, cell) → RunsLines rules place.system no_reply cell.lines reply after
MayAnswer rules r test place (Deeds.Hardware act) reply after = CanAct r test place act → rules.acts place.system act reply after

-- and where it isn't like the one that is awaited, the system is left as it was, unless the cell is noted
abbrev pub LeavesUnlessNoted : {S : Type 0} → List Spot → Test → Place S → Deed → Reply → S → Type 0
LeavesUnlessNoted cells test place (Deeds.Cell spot) reply after =
    (cell : Cell) → next_cell test place.happened spot.column ≡ Some (spot.cell, cell) → ¬ IsAnsweredLike cell.awaited reply.text
    → (after ≡ place.system) ⊎ IsListed cells spot
LeavesUnlessNoted cells test place (Deeds.Hardware act) reply after = Unit {0}

abbrev pub MayAnswerNoted : {S : Type 0} → Noted S → Readings S → Test → Place S → Deed → Reply → S → Type 0
MayAnswerNoted noted r test place deed reply after = MayAnswer noted.rules r test place deed reply after × LeavesUnlessNoted noted.cells test place deed reply after

-- each answer of a behaviour is one that the system may give there, at each place to which steps lead by it
abbrev pub IsLawful : {S : Type 0} → Noted S → Readings S → Behaviour S → Test → S → Type 0
IsLawful noted r b test system = (steps : List Step) → IsWayOf r b test system steps → (deed : Deed)
    → MayAnswerNoted noted r test (place_after b test system steps) deed
    (b.reply (place_after b test system steps).happened deed) (b.after (place_after b test system steps).happened deed)
