-- Where no walk takes several events the machine is the ledger machine.
use Rattle.std.proofs.Common.{◌≡◌, ℕ, ◌==◌, Bool, true, false, [], ◌∷◌, Option, None, Some, if◌then◌else◌, refl, sym, ap, subst}
use Rattle.iom_machine.specs.declared.event.Event.{Event}
use Rattle.iom_machine.specs.declared.event.Event.TheVariants as events
use Rattle.iom_machine.specs.declared.outcome.Fetched.TheVariants.{Did}
use Rattle.iom_machine.specs.declared.outcome.Outcome.{Outcome}
use Rattle.iom_machine.specs.declared.outcome.Outcome.TheVariants.{Done, Fetched, Ticket}
use Rattle.iom_machine.specs.declared.state.State.{State}
use Rattle.iom_machine.specs.Devices.{device_of}
use Rattle.iom_machine.specs.Machine.{Step}
use Rattle.iom_stepped_machine.specs.Laws.{WholeRunsAreStepped, without_walks}
use Rattle.iom_stepped_machine.specs.Machine.{Answer, AnswersWhole, SteppedStep, Whole, asker_of, gives_up_at_detach, walk_at, walks_after}
use Rattle.iom_stepped_machine.specs.Walks.{Walk, Walks, begins_anew, begun_anew, no_walks, with_walk}

-- nobody has a walk
none_at : (who : Option ℕ) → walk_at no_walks who ≡ None
none_at None = refl
none_at (Some id) = refl

-- and none comes of an event of the ledger machine
given_up : (id : ℕ) → with_walk no_walks id None ≡ no_walks
given_up id i other = by (other == id) i
  where
    by : (b : Bool) → ◌≡◌ {A = Option Walk} (if b then None else None) None
    by true = refl
    by false = refl

anew : begun_anew no_walks ≡ no_walks
anew i id = None

if_anew : (b : Bool) → ◌≡◌ {A = Walks} (if b then begun_anew no_walks else no_walks) no_walks
if_anew true = anew
if_anew false = refl

if_given_up : (b : Bool) (id : ℕ) → ◌≡◌ {A = Walks} (if b then with_walk no_walks id None else no_walks) no_walks
if_given_up true id = given_up id
if_given_up false id = refl

none_after : (old : State) (event : Event) (outcome : Outcome) → walks_after old event outcome no_walks ≡ no_walks
none_after old events.Fetch (Fetched (Did name)) = if_anew (begins_anew name)
none_after old events.Fetch (Fetched _) = refl
none_after old events.Fetch _ = refl
none_after old (events.Reset id) Done = given_up id
none_after old (events.Reset id) _ = refl
none_after old (events.Revive id) Done = given_up id
none_after old (events.Revive id) _ = refl
none_after old (events.Queue id size descriptors available used) Done = given_up id
none_after old (events.Queue id size descriptors available used) _ = refl
none_after old (events.Detach id) (Ticket ticket) = if_given_up (gives_up_at_detach (device_of old id)) id
none_after old (events.Detach id) _ = refl
none_after old _ outcome = refl

whole_step : (old new : State) (event : Event) (outcome : Outcome) → Step old event outcome new
    → SteppedStep (without_walks old) (Whole event) (Answer outcome) (without_walks new)
whole_step old new event outcome step = (
  subst (λ (found : Option Walk). AnswersWhole found old event outcome new) (sym (none_at (asker_of event))) step,
  sym (none_after old event outcome),
)

pub whole_runs : WholeRunsAreStepped
whole_runs old new [] [] run = ap without_walks run
whole_runs old new [] (outcome ∷ outcomes) run = absurd run
whole_runs old new (event ∷ events) [] run = absurd run
whole_runs old new (event ∷ events) (outcome ∷ outcomes) (mid, step, rest) =
    (without_walks mid, whole_step old mid event outcome step, whole_runs mid new events outcomes rest)
