-- What a run of a world over a list of events gives, where the outcomes go to a sink, each with the counts that stand beside it.
use Rattle.std.specs.Prelude.{◌≡◌, ◌+◌, ◌<◌, Bool, ⊤, List, [], ◌∷◌, ◌++◌, length, take, Option, None, Some, is_some}
use Rattle.iom_machine.specs.declared.event.Event.{Event}
use Rattle.iom_machine.specs.declared.outcome.Outcome.{Outcome}
use Rattle.iom_machine.specs.declared.outcome.Trace.{Trace}
use Rattle.iom_machine.specs.declared.state.State.{State}
use Rattle.iom_machine.specs.Laws.{IsReached}
use Rattle.iom_machine.specs.Machine.{Run}
use Rattle.iom_machine.specs.Reclaim.{Reclaims}
use Rattle.iom_world.specs.Counts.{IsTraceOf}
use Rattle.iom_world.specs.Shows.{Shows}
use Rattle.iom_world.specs.EachWaits.{EachWaitsInFlight}
use Rattle.iom_world.specs.Happens.{Happens}
use Rattle.iom_world.specs.Shown.{Shown}

-- counts, where there are any, are those of the state, and of the messages that are under way in the world
abbrev pub AreCounts : State → Shown → Option Trace → Type 0
AreCounts state shown None = ⊤
AreCounts state shown (Some trace) = IsTraceOf state shown trace

-- the sink takes these outcomes, one after another, each with its counts where it wants them
abbrev pub TakesAll : {S : Type 0} → (S → Bool) → (S → Outcome → Option Trace → S → Type 0) → S → List Outcome → List (Option Trace) → S → Type 0
TakesAll wants takes before [] [] after = after ≡ before
TakesAll wants takes before (outcome ∷ outcomes) (trace ∷ traces) after =
    (mid : _) × (is_some trace ≡ wants before) × takes before outcome trace mid × TakesAll wants takes mid outcomes traces after
TakesAll wants takes before _ _ after = ⊥

-- the world goes through this run of the ledger machine, and is this one in the end: before each event and after the last it shows the state that
-- the run is in, each event does to it what it may, and the counts beside the outcome are those of the state then
abbrev pub GoesThrough : (state : State) → Shown → (events : List Event) (outcomes : List Outcome) → List (Option Trace) → (last : State)
    → Run state events outcomes last → Shown → Type 0
GoesThrough state old [] [] [] last run new = Shows new last × (new ≡ old)
GoesThrough state old (event ∷ events) (outcome ∷ outcomes) (trace ∷ traces) last (next, step, rest) new =
    Shows old state × (mid : Shown) × Happens old event outcome mid × AreCounts next mid trace
    × GoesThrough next mid events outcomes traces last rest new
GoesThrough state old _ _ _ last run new = ⊥

-- before each event and after the last, each block device waits only while its own access is in flight
abbrev pub WaitsThroughout : (state : State) (old : Shown) (events : List Event) (outcomes : List Outcome) (traces : List (Option Trace)) (last : State)
    (run : Run state events outcomes last) (new : Shown) → GoesThrough state old events outcomes traces last run new → Type 0
WaitsThroughout state old [] outcomes traces last run new through = EachWaitsInFlight new
WaitsThroughout state old (event ∷ events) [] traces last run new through = ⊥
WaitsThroughout state old (event ∷ events) (outcome ∷ outcomes) [] last run new through = ⊥
WaitsThroughout state old (event ∷ events) (outcome ∷ outcomes) (trace ∷ traces) last (next, step, rest) new (shows, mid, happens, counts, later) =
    EachWaitsInFlight old × WaitsThroughout next mid events outcomes traces last rest new later

-- no counts beside any of these
abbrev pub uncounted : List Event → List (Option Trace)
uncounted [] = []
uncounted (event ∷ events) = None ∷ uncounted events

-- the events have these outcomes, with these counts: those of a run of the ledger machine to this state, which the world goes through; of that run,
-- where it is from a state that events from power-on lead to, the sentences of the headline hold; and throughout, each block device waits only while its
-- own access is in flight, where it is so at first
pub record AreOutcomes (state : State) (old : Shown) (events : List Event) (outcomes : List Outcome) (traces : List (Option Trace)) (last : State) (new : Shown) : Type 0 where
  pub run : Run state events outcomes last
  pub through : GoesThrough state old events outcomes traces last run new
  pub reclaim : IsReached state → Reclaims state events outcomes last run
  pub waits : EachWaitsInFlight old → WaitsThroughout state old events outcomes traces last run new through

-- all the events have some outcomes, and the sink took each
abbrev pub RunsTo : {S : Type 0} → (S → Bool) → (S → Outcome → Option Trace → S → Type 0) → State → Shown → List Event → S → S → Shown → Type 0
RunsTo wants takes state old events before after new =
    (outcomes : List Outcome) × (traces : List (Option Trace)) × (next : State)
    × AreOutcomes state old events outcomes traces next new × TakesAll wants takes before outcomes traces after

-- the events up to one have some outcomes, at the last of which the sink failed, having taken each before; the world has counted that event with those before
abbrev pub FailsAfter : {S : Type 0} → (S → Bool) → (takes fails : S → Outcome → Option Trace → S → Type 0) → State → Shown → List Event → S → S → Shown → Type 0
FailsAfter wants takes fails state old events before after new =
    (outcomes : List Outcome) × (traces : List (Option Trace)) × (last : Outcome) × (trace : Option Trace) × (next : State) × (middle : _)
    × (length outcomes < length events)
    × AreOutcomes state old (take (length outcomes + 1) events) (outcomes ++ last ∷ []) (traces ++ trace ∷ []) next new
    × TakesAll wants takes before outcomes traces middle × (is_some trace ≡ wants middle) × fails middle last trace after
    × (new.events ≡ old.events + length outcomes + 1)
