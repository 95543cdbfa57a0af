-- How many loads a walk made.
use Rattle.std.proofs.Common.{◌≡◌, ℕ, ◌+◌, ◌<◌, ◌≤◌, ◌==◌, Bool, true, false, List, [], ◌∷◌, Option, None, Some, if◌then◌else◌, sym, subst, arith}
use Rattle.std.specs.Option.{option_map}
use Rattle.iom_machine.specs.declared.event.Event.{Event}
use Rattle.iom_machine.specs.declared.event.Event.TheVariants as events
use Rattle.iom_machine.specs.declared.outcome.Fetched.TheVariants.{Did}
use Rattle.iom_machine.specs.declared.outcome.Outcome.{Outcome}
use Rattle.iom_machine.specs.declared.outcome.Outcome.TheVariants.{Accepted, Done, Fault, Fetched, Refused, Ticket}
use Rattle.iom_machine.specs.declared.state.State.{State}
use Rattle.iom_machine.specs.Devices.{device_of}
use Rattle.iom_machine.proofs.InFlightLemmas.{some_case}
use Rattle.iom_stepped_machine.specs.Laws.{WalksMakeFewLoads}
use Rattle.iom_stepped_machine.specs.Machine.{Answer, AnswersLoad, BeginsAt, Load, Loaded, NoWalk, Occupied, SteppedEvent, SteppedOutcome, SteppedRun, SteppedState, SteppedStep, Walking, Whole, gives_up_at_detach, walks_after}
use Rattle.iom_stepped_machine.specs.Walks.{Walk, Walks, begins_anew, begun_anew, most_loads, no_walks, with_walk}

-- each walk made few
abbrev pub AreShort : Walks → Type 0
AreShort walks = (id : ℕ) (walk : Walk) → walks id ≡ Some walk → walk.loads ≤ most_loads

short_none : AreShort no_walks
short_none id walk at = cc

-- where one device's is another now, or none
abbrev IsShort : Option Walk → Type 0
IsShort now = (walk : Walk) → now ≡ Some walk → walk.loads ≤ most_loads

short_with : (walks : Walks) (id : ℕ) (now : Option Walk) → AreShort walks → IsShort now → AreShort (with_walk walks id now)
short_with walks id now short its other walk at = by (other == id) at
  where
    by : (b : Bool) → (if b then now else walks other) ≡ Some walk → walk.loads ≤ most_loads
    by true here = its walk here
    by false there = short other walk there

nothing : IsShort None
nothing walk at = cc

this : (now : Walk) → now.loads ≤ most_loads → IsShort (Some now)
this now few walk at = let same : now ≡ walk = cc in subst (λ (w : Walk). w.loads ≤ most_loads) same few

short_anew : (walks : Walks) → AreShort (begun_anew walks)
short_anew walks id walk at = by (walks id) at
  where
    by : (found : Option Walk) → option_map (λ (w : Walk). record w { loads = 0 }) found ≡ Some walk → walk.loads ≤ most_loads
    by None none = cc
    by (Some w) some = let same : record w { loads = 0 } ≡ walk = cc in subst (λ (x : Walk). x.loads ≤ most_loads) same (omega arith)

if_anew : (b : Bool) (walks : Walks) → AreShort walks → AreShort (if b then begun_anew walks else walks)
if_anew true walks short = short_anew walks
if_anew false walks short = short

if_given_up : (b : Bool) (walks : Walks) (id : ℕ) → AreShort walks → AreShort (if b then with_walk walks id None else walks)
if_given_up true walks id short = short_with walks id None short nothing
if_given_up false walks id short = short

short_after : (old : State) (event : Event) (outcome : Outcome) (walks : Walks) → AreShort walks → AreShort (walks_after old event outcome walks)
short_after old events.Fetch (Fetched (Did name)) walks short = if_anew (begins_anew name) walks short
short_after old events.Fetch (Fetched _) walks short = short
short_after old events.Fetch _ walks short = short
short_after old (events.Reset id) Done walks short = short_with walks id None short nothing
short_after old (events.Reset id) _ walks short = short
short_after old (events.Revive id) Done walks short = short_with walks id None short nothing
short_after old (events.Revive id) _ walks short = short
short_after old (events.Queue id size descriptors available used) Done walks short = short_with walks id None short nothing
short_after old (events.Queue id size descriptors available used) _ walks short = short
short_after old (events.Detach id) (Ticket ticket) walks short = if_given_up (gives_up_at_detach (device_of old id)) walks id short
short_after old (events.Detach id) _ walks short = short
short_after old _ outcome walks short = short

begins_short : (old new : SteppedState) (event : Event) → BeginsAt old event new → AreShort old.walks → AreShort new.walks
begins_short old new (events.Read id address len) walk short =
    subst (λ (s : SteppedState). AreShort s.walks) (sym walk.begun) (short_with old.walks id _ short (this _ (omega arith)))
begins_short old new (events.Write id address bytes) walk short =
    subst (λ (s : SteppedState). AreShort s.walks) (sym walk.begun) (short_with old.walks id _ short (this _ (omega arith)))
begins_short old new (events.Step id) (access, wanted, walk) short =
    subst (λ (s : SteppedState). AreShort s.walks) (sym walk.begun) (short_with old.walks id _ short (this _ (omega arith)))
begins_short old new _ walk short = absurd walk

load_short : (old new : SteppedState) (id : ℕ) (outcome : Outcome) → AnswersLoad old id outcome new → AreShort old.walks → AreShort new.walks
load_short old new id (Accepted number) answers short =
    let found = some_case (old.walks id) _ answers in subst AreShort (sym found.2.1) (short_with old.walks id None short nothing)
load_short old new id (Fault cause) answers short =
    let found = some_case (old.walks id) _ answers in subst AreShort (sym found.2.1) (short_with old.walks id None short nothing)
load_short old new id (Refused why) answers short = subst (λ (s : SteppedState). AreShort s.walks) (sym answers.2) short
load_short old new id _ answers short = absurd answers

short_step : (old new : SteppedState) (event : SteppedEvent) (outcome : SteppedOutcome) → SteppedStep old event outcome new → AreShort old.walks → AreShort new.walks
short_step old new (Whole event) (Answer outcome) step short = subst AreShort (sym step.1) (short_after old.ledger event outcome old.walks short)
short_step old new (Whole event) Walking step short = begins_short old new event step short
short_step old new (Whole event) Occupied step short = subst (λ (s : SteppedState). AreShort s.walks) (sym step.1) short
short_step old new (Load id) (Answer outcome) step short = load_short old new id outcome step short
short_step old new (Load id) Loaded step short =
    let found = some_case (old.walks id) _ step in
    let low : found.0.loads < most_loads = found.2.0 in
    subst (λ (s : SteppedState). AreShort s.walks) (sym found.2.1)
    (short_with old.walks id (Some (record found.0 { loads = found.0.loads + 1 })) short (this (record found.0 { loads = found.0.loads + 1 }) (omega (arith, low))))
short_step old new (Load id) NoWalk step short = subst (λ (s : SteppedState). AreShort s.walks) (sym step.2) short
short_step old new (Whole event) Loaded step short = absurd step
short_step old new (Whole event) NoWalk step short = absurd step
short_step old new (Load id) Walking step short = absurd step
short_step old new (Load id) Occupied step short = absurd step

short_run : (old new : SteppedState) (events : List SteppedEvent) (outcomes : List SteppedOutcome) → SteppedRun old events outcomes new → AreShort old.walks → AreShort new.walks
short_run old new [] [] run short = subst (λ (s : SteppedState). AreShort s.walks) (sym run) short
short_run old new [] (outcome ∷ outcomes) run short = absurd run
short_run old new (event ∷ events) [] run short = absurd run
short_run old new (event ∷ events) (outcome ∷ outcomes) (mid, step, rest) short =
    short_run mid new events outcomes rest (short_step old mid event outcome step short)

pub few_loads : WalksMakeFewLoads
few_loads state id walk (events, outcomes, limits, frames, levels, disks, run) at = short_run _ state events outcomes run short_none id walk at
