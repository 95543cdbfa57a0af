-- Runs over events and loads: one more at the end.
use Rattle.std.proofs.Common.{suc, ◌≡◌, ◌+◌, ◌∙◌, ◌<◌, ◌==◌, ℕ, Bool, true, List, [], ◌∷◌, ◌++◌, length, map, take, get_or, refl, sym, ap, subst, arith}
use Rattle.std.proofs.lemmas.Bool.{eq-eqb, eqb-true}
use Rattle.std.proofs.Props.{props}
use Rattle.std.proofs.Math.Logic.{∥∥₁_elim, ∥∥₁_map, ∥∥₁_prop}
use Rattle.std.proofs.lemmas.List.{length-map, length-take-le, take_more}
use Rattle.iom_stepped_machine.specs.Laws.{IsReachedByLoads}
use Rattle.iom_stepped_machine.specs.Machine.{SteppedEvent, SteppedOutcome, SteppedRun, SteppedState, SteppedStep}
use Rattle.iom_stepped_refinement.specs.Runs.{ShowsMoment}
use Rattle.iom_stepped_world.specs.Happens.{Does, SteppedHappens}
use Rattle.iom_stepped_world.specs.Runs.{AreOutcomes, FailsAfter, GoesThrough, RunsTo, TakesAll}
use Rattle.iom_stepped_world.specs.Shown.{SteppedShown, moment}
use Rattle.iom_stepped_world.specs.Told.{said}
use Rattle.iom_stepped_world.specs.declared.event.SteppedEvent as code

-- a run and one event more
run_more : (state mid last : SteppedState) (events : List SteppedEvent) (outcomes : List SteppedOutcome) (event : SteppedEvent) (outcome : SteppedOutcome) → SteppedRun state events outcomes mid
    → SteppedStep mid event outcome last → SteppedRun state (events ++ event ∷ []) (outcomes ++ outcome ∷ []) last
run_more state mid last [] [] event outcome same step = (last, subst (λ s. SteppedStep s event outcome last) same step, refl)
run_more state mid last [] (other ∷ outcomes) event outcome run step = absurd run
run_more state mid last (other ∷ events) [] event outcome run step = absurd run
run_more state mid last (first ∷ events) (reply ∷ outcomes) event outcome (next, does, rest) step = (next, does, run_more next mid last events outcomes event outcome rest step)

-- and a run behind another
run_after : (state mid last : SteppedState) (events later : List SteppedEvent) (outcomes replies : List SteppedOutcome) → SteppedRun state events outcomes mid → SteppedRun mid later replies last
    → SteppedRun state (events ++ later) (outcomes ++ replies) last
run_after state mid last [] later [] replies same rest = subst (λ s. SteppedRun s later replies last) same rest
run_after state mid last [] later (other ∷ outcomes) replies run rest = absurd run
run_after state mid last (other ∷ events) later [] replies run rest = absurd run
run_after state mid last (first ∷ events) later (reply ∷ outcomes) replies (next, does, run) rest = (next, does, run_after next mid last events later outcomes replies run rest)

-- what a run comes to is reached, where it began with what is
reached_after : (state last : SteppedState) (events : List SteppedEvent) (outcomes : List SteppedOutcome) → SteppedRun state events outcomes last → IsReachedByLoads state → IsReachedByLoads last
reached_after state last events outcomes run (before, replies, limits, frames, levels, disks, first) =
    (before ++ events, replies ++ outcomes, limits, frames, levels, disks, run_after _ state last before events replies outcomes first run)

pub are_outcomes : (state last : SteppedState) (old new : SteppedShown) (events : List SteppedEvent) (outcomes : List SteppedOutcome) (run : SteppedRun state events outcomes last)
    → GoesThrough state old events outcomes last run new → AreOutcomes state old events outcomes last new
are_outcomes state last old new events outcomes run through = record { run = run; through = through; reached = reached_after state last events outcomes run }

-- the world shows the state that a run leads to
through_shows : (state last : SteppedState) (old new : SteppedShown) (events : List SteppedEvent) (outcomes : List SteppedOutcome) (run : SteppedRun state events outcomes last)
    → GoesThrough state old events outcomes last run new → ShowsMoment (moment new) last
through_shows state last old new [] [] run through = through.0
through_shows state last old new [] (other ∷ outcomes) run through = absurd run
through_shows state last old new (other ∷ events) [] run through = absurd run
through_shows state last old new (first ∷ events) (reply ∷ outcomes) run through = through_shows run.0 last through.1 new events outcomes run.2 through.3

-- one more outcome
outcomes_more : (state next last : SteppedState) (old mid new : SteppedShown) (events : List SteppedEvent) (outcomes : List SteppedOutcome) (event : SteppedEvent) (outcome : SteppedOutcome)
    → AreOutcomes state old events outcomes next mid → SteppedStep next event outcome last → Does mid event outcome new → ShowsMoment (moment new) last
    → AreOutcomes state old (events ++ event ∷ []) (outcomes ++ outcome ∷ []) last new
outcomes_more state next last old mid new [] [] event outcome so_far step does shows =
    are_outcomes state last old new (event ∷ []) (outcome ∷ []) (last, subst (λ s. SteppedStep s event outcome last) so_far.run step, refl) (
      subst (λ s. ShowsMoment (moment old) s) so_far.run (subst (λ shown. ShowsMoment (moment shown) next) so_far.through.1 so_far.through.0),
      new,
      subst (λ shown. Does shown event outcome new) so_far.through.1 does,
      (shows, refl),
    )
outcomes_more state next last old mid new [] (other ∷ outcomes) event outcome so_far step does shows = absurd so_far.run
outcomes_more state next last old mid new (other ∷ events) [] event outcome so_far step does shows = absurd so_far.run
outcomes_more state next last old mid new (first ∷ events) (reply ∷ outcomes) event outcome so_far step does shows =
    let later : AreOutcomes so_far.run.0 so_far.through.1 events outcomes next mid = are_outcomes so_far.run.0 next so_far.through.1 mid events outcomes so_far.run.2 so_far.through.3 in
    let rest = outcomes_more so_far.run.0 next last so_far.through.1 mid new events outcomes event outcome later step does shows in
    are_outcomes state last old new (first ∷ events ++ event ∷ []) (reply ∷ outcomes ++ outcome ∷ []) (so_far.run.0, so_far.run.1, rest.run)
    (so_far.through.0, so_far.through.1, so_far.through.2, rest.through)

takes_more : {S : Type 0} (takes : S → SteppedOutcome → S → Type 0) (before mid after : S) (outcomes : List SteppedOutcome) (outcome : SteppedOutcome) → TakesAll takes before outcomes mid
    → takes mid outcome after → TakesAll takes before (outcomes ++ outcome ∷ []) after
takes_more takes before mid after [] outcome all put = (after, subst (λ sink. takes sink outcome after) all put, refl)
takes_more takes before mid after (first ∷ outcomes) outcome all put = (all.0, all.1, takes_more takes all.0 mid after outcomes outcome all.2 put)

map_more : (events : List code.SteppedEvent) (event : code.SteppedEvent) → map said (events ++ event ∷ []) ≡ map said events ++ said event ∷ []
map_more [] event = refl
map_more (first ∷ events) event = ap (λ es. said first ∷ es) (map_more events event)

said_more : (events : List code.SteppedEvent) (i : ℕ) (event : code.SteppedEvent) → event ≡ get_or events i event → i < length events
    → map said (take i events) ++ said event ∷ [] ≡ map said (take (i + 1) events)
said_more events i event is lt =
    sym (map_more (take i events) event) ∙ ap (λ (e : code.SteppedEvent). map said (take i events ++ e ∷ [])) is ∙ ap (map said) (sym (take_more events i event lt))

-- there is a run with one more event
ran_more : (state : SteppedState) (events : List code.SteppedEvent) (i : ℕ) (event : code.SteppedEvent) (outcome : SteppedOutcome) (outcomes : List SteppedOutcome) (first old new : SteppedShown)
    → event ≡ get_or events i event → i < length events → SteppedHappens old (said event) outcome new
    → ∥ ((last : SteppedState) × AreOutcomes state first (map said (take i events)) outcomes last old) ∥₁
    → ∥ ((last : SteppedState) × AreOutcomes state first (map said (take (i + 1) events)) (outcomes ++ outcome ∷ []) last new) ∥₁
ran_more state events i event outcome outcomes first old new is lt happens ran =
    ∥∥₁_elim ran ∥∥₁_prop (λ so_far.
    ∥∥₁_map (happens.step so_far.0 (through_shows state so_far.0 first old (map said (take i events)) outcomes so_far.1.run so_far.1.through)) (λ next. (
      next.0,
      subst (λ (es : List SteppedEvent). AreOutcomes state first es (outcomes ++ outcome ∷ []) next.0 new) (said_more events i event is lt)
          (outcomes_more state so_far.0 next.0 first old new (map said (take i events)) outcomes (said event) outcome so_far.1 next.1 happens.does next.2),
    )))

-- what a run with one more event is
pub goes_on : {S : Type 0} (takes : S → SteppedOutcome → S → Type 0) (state : SteppedState) (events : List code.SteppedEvent) (i : ℕ) (event : code.SteppedEvent) (outcome : SteppedOutcome)
    (before mid after : S) (first old new : SteppedShown) → (so_far : RunsTo takes state first (take i events) before mid old) → event ≡ get_or events i event → i < length events
    → SteppedHappens old (said event) outcome new → takes mid outcome after → RunsTo takes state first (take (i + 1) events) before after new
goes_on takes state events i event outcome before mid after first old new so_far is lt happens put = (
  so_far.0 ++ outcome ∷ [],
  takes_more takes before mid after so_far.0 outcome so_far.1 put,
  ran_more state events i event outcome so_far.0 first old new is lt happens so_far.2,
)

-- a run has as many outcomes as events
as_many : (state last : SteppedState) (events : List SteppedEvent) (outcomes : List SteppedOutcome) → SteppedRun state events outcomes last → length outcomes ≡ length events
as_many state last [] [] run = refl
as_many state last [] (other ∷ outcomes) run = absurd run
as_many state last (other ∷ events) [] run = absurd run
as_many state last (first ∷ events) (reply ∷ outcomes) run = ap suc (as_many run.0 last events outcomes run.2)

bool_fact : (a b : Bool) → IsProp (a ≡ b)
bool_fact a b = hlevel props

-- the sink fails at the outcome of the next event
pub ends_at : {S : Type 0} (takes fails : S → SteppedOutcome → S → Type 0) (state : SteppedState) (events : List code.SteppedEvent) (i : ℕ) (event : code.SteppedEvent) (outcome : SteppedOutcome)
    (before mid after : S) (first old new : SteppedShown) → (so_far : RunsTo takes state first (take i events) before mid old) → event ≡ get_or events i event → i < length events
    → SteppedHappens old (said event) outcome new → fails mid outcome after → FailsAfter takes fails state first events before after new
ends_at takes fails state events i event outcome before mid after first old new so_far is lt happens failed =
    let long : length so_far.0 ≡ i =
    eqb-true (length so_far.0) i
    (∥∥₁_elim so_far.2 (bool_fact (length so_far.0 == i) true)
    (λ ran. eq-eqb (length so_far.0) i (as_many state ran.0 (map said (take i events)) so_far.0 ran.1.run ∙ length-map (take i events) said ∙ length-take-le i events (omega (arith, lt))))) in (
      so_far.0,
      outcome,
      mid,
      rw long lt,
      so_far.1,
      failed,
      subst (λ n. ∥ ((last : SteppedState) × AreOutcomes state first (map said (take (n + 1) events)) (so_far.0 ++ outcome ∷ []) last new) ∥₁) (sym long)
          (ran_more state events i event outcome so_far.0 first old new is lt happens so_far.2),
    )

-- no event yet
pub begins : {S : Type 0} (takes : S → SteppedOutcome → S → Type 0) (state : SteppedState) (old : SteppedShown) (sink : S) → ShowsMoment (moment old) state → RunsTo takes state old [] sink sink old
begins takes state old sink shows = ([], refl, ∣ (state, are_outcomes state state old old [] [] refl (shows, refl)) ∣₁)
