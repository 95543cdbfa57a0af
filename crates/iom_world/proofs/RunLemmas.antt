-- Runs that go on by one event, where the outcomes go to a sink, each with its counts.
use Rattle.std.proofs.Common.{suc, ◌≡◌, ◌+◌, ◌<◌, ◌++◌, ◌∙◌, ℕ, Bool, List, [], ◌∷◌, length, take, get_or, Option, is_some, refl, sym, ap, subst, arith}
use Rattle.std.proofs.lemmas.List.{take_more, length-take-le}
use Rattle.iom_machine.specs.declared.event.Event.{Event}
use Rattle.iom_machine.specs.declared.outcome.Outcome.{Outcome}
use Rattle.iom_machine.specs.declared.outcome.Trace.{Trace}
use Rattle.iom_machine.specs.declared.state.State.{State}
use Rattle.iom_machine.specs.Machine.{Step, Run}
use Rattle.iom_machine.proofs.ReclaimLemmas.{reclaims}
use Rattle.iom_world.specs.Shows.{Shows}
use Rattle.iom_world.specs.EachWaits.{EachWaitsInFlight}
use Rattle.iom_world.specs.Happens.{Happens}
use Rattle.iom_world.specs.Runs.{AreCounts, TakesAll, GoesThrough, WaitsThroughout, AreOutcomes, RunsTo, FailsAfter}
use Rattle.iom_world.specs.Shown.{Shown}
use Rattle.iom_world.proofs.WaitLemmas.{each_after}

-- a run has an outcome for each event
pub run_length : (old new : State) (events : List Event) (outcomes : List Outcome) → Run old events outcomes new → length outcomes ≡ length events
run_length old new [] [] ran = refl
run_length old new [] (outcome ∷ outcomes) ran = absurd ran
run_length old new (event ∷ events) [] ran = absurd ran
run_length old new (event ∷ events) (outcome ∷ outcomes) ran = ap (λ n. suc n) (run_length ran.0 new events outcomes ran.2)

-- a world that went through a run shows its last state
pub through_shows : (state last : State) (old new : Shown) (events : List Event) (outcomes : List Outcome) (traces : List (Option Trace)) (run : Run state events outcomes last)
    → GoesThrough state old events outcomes traces last run new → Shows new last
through_shows state last old new [] [] [] run through = through.0
through_shows state last old new [] [] (trace ∷ traces) run through = absurd through
through_shows state last old new [] (other ∷ outcomes) traces run through = absurd run
through_shows state last old new (other ∷ events) [] traces run through = absurd run
through_shows state last old new (first ∷ events) (reply ∷ outcomes) [] run through = absurd through
through_shows state last old new (first ∷ events) (reply ∷ outcomes) (trace ∷ traces) run through = through_shows run.0 last through.1 new events outcomes traces run.2 through.4

-- each block device waits only while its own access is in flight, throughout
pub waits_throughout : (state last : State) (old new : Shown) (events : List Event) (outcomes : List Outcome) (traces : List (Option Trace)) (run : Run state events outcomes last)
    → (through : GoesThrough state old events outcomes traces last run new) → EachWaitsInFlight old → WaitsThroughout state old events outcomes traces last run new through
waits_throughout state last old new [] [] [] run through each = subst (λ (shown : Shown). EachWaitsInFlight shown) (sym through.1) each
waits_throughout state last old new [] [] (trace ∷ traces) run through each = absurd through
waits_throughout state last old new [] (reply ∷ outcomes) traces run through each = absurd run
waits_throughout state last old new (event ∷ events) [] traces run through each = absurd run
waits_throughout state last old new (event ∷ events) (reply ∷ outcomes) [] run through each = absurd through
waits_throughout state last old new (event ∷ events) (reply ∷ outcomes) (trace ∷ traces) (next, step, rest) (shows, mid, happens, counts, later) each =
    (each, waits_throughout next last mid new events outcomes traces rest later (each_after old mid event reply happens each))

-- a run that the world goes through gives outcomes
pub are_outcomes : (state last : State) (old new : Shown) (events : List Event) (outcomes : List Outcome) (traces : List (Option Trace)) (run : Run state events outcomes last)
    → GoesThrough state old events outcomes traces last run new → AreOutcomes state old events outcomes traces last new
are_outcomes state last old new events outcomes traces run through =
    record { run = run; through = through; reclaim = λ reached. reclaims state events outcomes last reached run; waits = waits_throughout state last old new events outcomes traces run through }

-- events have one outcome more by an event at the end
pub outcomes_more : (state next last : State) (old mid new : Shown) (events : List Event) (outcomes : List Outcome) (traces : List (Option Trace)) (event : Event) (outcome : Outcome) (trace : Option Trace)
    → AreOutcomes state old events outcomes traces next mid → Step next event outcome last → Happens mid event outcome new → AreCounts last new trace → Shows new last
    → AreOutcomes state old (events ++ event ∷ []) (outcomes ++ outcome ∷ []) (traces ++ trace ∷ []) last new
outcomes_more state next last old mid new [] [] [] event outcome trace so_far step happens counts shows =
    are_outcomes state last old new (event ∷ []) (outcome ∷ []) (trace ∷ []) (last, subst (λ (s : State). Step s event outcome last) so_far.run step, refl) (
      subst (λ (s : State). Shows old s) so_far.run (subst (λ (shown : Shown). Shows shown next) so_far.through.1 so_far.through.0),
      new,
      subst (λ (shown : Shown). Happens shown event outcome new) so_far.through.1 happens,
      counts,
      (shows, refl),
    )
outcomes_more state next last old mid new [] [] (other ∷ traces) event outcome trace so_far step happens counts shows = absurd so_far.through
outcomes_more state next last old mid new [] (other ∷ outcomes) traces event outcome trace so_far step happens counts shows = absurd so_far.run
outcomes_more state next last old mid new (other ∷ events) [] traces event outcome trace so_far step happens counts shows = absurd so_far.run
outcomes_more state next last old mid new (first ∷ events) (reply ∷ outcomes) [] event outcome trace so_far step happens counts shows = absurd so_far.through
outcomes_more state next last old mid new (first ∷ events) (reply ∷ outcomes) (counted ∷ traces) event outcome trace so_far step happens counts shows =
    let later : AreOutcomes so_far.run.0 so_far.through.1 events outcomes traces next mid =
    are_outcomes so_far.run.0 next so_far.through.1 mid events outcomes traces so_far.run.2 so_far.through.4 in
    let rest = outcomes_more so_far.run.0 next last so_far.through.1 mid new events outcomes traces event outcome trace later step happens counts shows in
    are_outcomes state last old new (first ∷ events ++ event ∷ []) (reply ∷ outcomes ++ outcome ∷ []) (counted ∷ traces ++ trace ∷ [])
    (so_far.run.0, so_far.run.1, rest.run) (so_far.through.0, so_far.through.1, so_far.through.2, so_far.through.3, rest.through)

-- a sink takes one more outcome
pub takes_all_more : {S : Type 0} (wants : S → Bool) (takes : S → Outcome → Option Trace → S → Type 0) (before mid after : S) (outcomes : List Outcome) (traces : List (Option Trace)) (outcome : Outcome) (trace : Option Trace)
    → TakesAll wants takes before outcomes traces mid → is_some trace ≡ wants mid → takes mid outcome trace after
    → TakesAll wants takes before (outcomes ++ outcome ∷ []) (traces ++ trace ∷ []) after
takes_all_more wants takes before mid after [] [] outcome trace all wanted put =
    (after, subst (λ sink. is_some trace ≡ wants sink) all wanted, subst (λ sink. takes sink outcome trace after) all put, refl)
takes_all_more wants takes before mid after [] (other ∷ traces) outcome trace all wanted put = absurd all
takes_all_more wants takes before mid after (first ∷ outcomes) [] outcome trace all wanted put = absurd all
takes_all_more wants takes before mid after (first ∷ outcomes) (counted ∷ traces) outcome trace all wanted put =
    (all.0, all.1, all.2, takes_all_more wants takes all.0 mid after outcomes traces outcome trace all.3 wanted put)

-- the world shows the state that a run leads to
pub shown_so_far : {S : Type 0} (wants : S → Bool) (takes : S → Outcome → Option Trace → S → Type 0) (state : State) (events : List Event) (before after : S) (old new : Shown)
    → (so_far : RunsTo wants takes state old events before after new) → Shows new so_far.2
shown_so_far wants takes state events before after old new so_far = through_shows state so_far.2 old new events so_far.0 so_far.1 so_far.3.run so_far.3.through

-- what a run with one more event is
pub goes_on : {S : Type 0} (wants : S → Bool) (takes : S → Outcome → Option Trace → S → Type 0) (state next : State) (events : List Event) (i : ℕ) (event : Event) (outcome : Outcome) (trace : Option Trace)
    (before mid after : S) (first old new : Shown)
    → (so_far : RunsTo wants takes state first (take i events) before mid old)
    → event ≡ get_or events i event → i < length events
    → Step so_far.2 event outcome next → Happens old event outcome new → AreCounts next new trace → Shows new next → is_some trace ≡ wants mid → takes mid outcome trace after
    → RunsTo wants takes state first (take (i + 1) events) before after new
goes_on wants takes state next events i event outcome trace before mid after first old new so_far is lt step happens counts shows wanted put = (
  so_far.0 ++ outcome ∷ [],
  so_far.1 ++ trace ∷ [],
  next,
  subst (λ (es : List Event). AreOutcomes state first es (so_far.0 ++ outcome ∷ []) (so_far.1 ++ trace ∷ []) next new)
      (ap (λ (e : Event). take i events ++ e ∷ []) is ∙ sym (take_more events i event lt))
      (outcomes_more state so_far.2 next first old new (take i events) so_far.0 so_far.1 event outcome trace so_far.3 step happens counts shows),
  takes_all_more wants takes before mid after so_far.0 so_far.1 outcome trace so_far.4 wanted put,
)

-- the sink fails at the outcome of the next event
pub ends_at : {S : Type 0} (wants : S → Bool) (takes fails : S → Outcome → Option Trace → S → Type 0) (state next : State) (events : List Event) (i : ℕ) (event : Event) (outcome : Outcome) (trace : Option Trace)
    (before mid after : S) (first old new : Shown)
    → (so_far : RunsTo wants takes state first (take i events) before mid old)
    → event ≡ get_or events i event → i < length events → new.events ≡ first.events + i + 1
    → Step so_far.2 event outcome next → Happens old event outcome new → AreCounts next new trace → Shows new next → is_some trace ≡ wants mid → fails mid outcome trace after
    → FailsAfter wants takes fails state first events before after new
ends_at wants takes fails state next events i event outcome trace before mid after first old new so_far is lt count step happens counts shows wanted failed =
    let long : length so_far.0 ≡ i = run_length state so_far.2 (take i events) so_far.0 so_far.3.run ∙ length-take-le i events (omega arith) in (
      so_far.0,
      so_far.1,
      outcome,
      trace,
      next,
      mid,
      rw long lt,
      subst (λ (es : List Event). AreOutcomes state first es (so_far.0 ++ outcome ∷ []) (so_far.1 ++ trace ∷ []) next new)
          (ap (λ (e : Event). take i events ++ e ∷ []) is ∙ sym (take_more events i event lt) ∙ ap (λ n. take (n + 1) events) (sym long))
          (outcomes_more state so_far.2 next first old new (take i events) so_far.0 so_far.1 event outcome trace so_far.3 step happens counts shows),
      so_far.4,
      wanted,
      failed,
      count ∙ ap (λ n. first.events + n + 1) (sym long),
    )
