-- The sentences of the headline, of every step and of one run.
use Rattle.std.proofs.Common.{ℕ, List, [], ◌∷◌, sym, subst}
use Rattle.iom_ledger.specs.History as ledger
use Rattle.iom_machine.specs.declared.event.Event.{Event}
use Rattle.iom_machine.specs.declared.outcome.Outcome.{Outcome}
use Rattle.iom_machine.specs.declared.state.State.{State}
use Rattle.iom_machine.specs.Headline.{MadeAccessTouchesItsOwn, HeldPageIsAccepted, GrantsFrameTo, GrantsFrame, TouchesFrameBy, TouchesFrame}
use Rattle.iom_machine.specs.Machine.{Step, Run}
use Rattle.iom_machine.specs.Reclaim.{UntouchedUntilGranted, StaysUntouched, Reclaims}
use Rattle.iom_machine.specs.Laws.{IsReached, NoneGrants, MadeAccessesTouchTheirOwn, HeldPagesAreAccepted, FreeFramesAreNotTouched, OnlyGranteesTouch}
use Rattle.iom_machine.proofs.HeadlineLemmas.{touches_its_own, accepted_on_its_frame, CannotReach, barred-step, free-step, untouched_by, untouched}
use Rattle.iom_machine.proofs.InvariantLemmas.{StateInvariant, invariants-step, sound_if_reached, invariants-run}

-- the sentences of a step from a sound state
step_touches_its_own : (old new : State) (event : Event) (outcome : Outcome) → StateInvariant old → Step old event outcome new → MadeAccessTouchesItsOwn old event outcome new
step_touches_its_own old new event outcome invariants step id is = touches_its_own old new id outcome invariants (subst (λ (e : Event). Step old e outcome new) is step)

step_accepts_held : (old new : State) (event : Event) (outcome : Outcome) → Step old event outcome new → HeldPageIsAccepted old event outcome new
step_accepts_held old new event outcome step id frame device access asks there raw one within room held =
    accepted_on_its_frame old new event outcome id frame device access step asks there raw one within room held

-- the sentences of every step
pub made_accesses_touch_their_own : MadeAccessesTouchTheirOwn
made_accesses_touch_their_own old new event outcome reached step = step_touches_its_own old new event outcome (sound_if_reached old reached) step

pub held_pages_are_accepted : HeldPagesAreAccepted
held_pages_are_accepted old new event outcome reached step = step_accepts_held old new event outcome step

-- what a state has, and each step keeps that is no such grant, it has after a run with none
kept_until : (IsGrant : Event → Outcome → Type 0) (IsOut : State → Type 0)
    → ((old new : State) (event : Event) (outcome : Outcome) → Step old event outcome new → ¬ IsGrant event outcome → IsOut old → IsOut new)
    → (old new : State) (events : List Event) (outcomes : List Outcome) → Run old events outcomes new → NoneGrants IsGrant events outcomes → IsOut old → IsOut new
kept_until IsGrant IsOut keeps old new [] [] run none out = subst IsOut (sym run) out
kept_until IsGrant IsOut keeps old new (event ∷ events) (outcome ∷ outcomes) (mid, step, run) (other, none) out =
    kept_until IsGrant IsOut keeps mid new events outcomes run none (keeps old mid event outcome step other out)
kept_until IsGrant IsOut keeps old new [] (outcome ∷ outcomes) run none out = absurd run
kept_until IsGrant IsOut keeps old new (event ∷ events) [] run none out = absurd run

pub free_frames_are_not_touched : FreeFramesAreNotTouched
free_frames_are_not_touched free old new since reply event outcome reached step frame is_free run none =
    untouched frame old event outcome (invariants-run free old since reply (sound_if_reached free reached) run)
    (kept_until (λ its what. GrantsFrame its what frame) (λ (s : State). ledger.NoneMayReach s.history frame) (free-step frame) free old since reply run none is_free.2)

pub only_grantees_touch : OnlyGranteesTouch
only_grantees_touch free old new since reply event outcome reached step id frame is_free run none =
    untouched_by id frame old event outcome (invariants-run free old since reply (sound_if_reached free reached) run)
    (kept_until (λ its what. GrantsFrameTo its what id frame) (λ (s : State). CannotReach s.history id frame) (barred-step id frame) free old since reply run none (is_free.2 id))

-- and where it excludes such a touch, there is none along a run until there is such a grant
untouched_until : (IsTouch : State → Event → Outcome → Type 0) (IsGrant : Event → Outcome → Type 0) (IsOut : State → Type 0)
    → ((old : State) (event : Event) (outcome : Outcome) → StateInvariant old → IsOut old → ¬ IsTouch old event outcome)
    → ((old new : State) (event : Event) (outcome : Outcome) → Step old event outcome new → ¬ IsGrant event outcome → IsOut old → IsOut new)
    → (state : State) (events : List Event) (outcomes : List Outcome) (last : State) (run : Run state events outcomes last)
    → StateInvariant state → IsOut state → UntouchedUntilGranted IsTouch IsGrant state events outcomes last run
untouched_until IsTouch IsGrant IsOut excludes keeps state (event ∷ events) (outcome ∷ outcomes) last (next, step, rest) invariants out = (
  excludes state event outcome invariants out,
  λ other. untouched_until IsTouch IsGrant IsOut excludes keeps next events outcomes last rest (invariants-step state next event outcome invariants step) (keeps state next event outcome step other out),
)
untouched_until IsTouch IsGrant IsOut excludes keeps state _ _ last run invariants out = tt

-- a frame that is free stays untouched along each run from there
stays_untouched : (state : State) (events : List Event) (outcomes : List Outcome) (last : State) (run : Run state events outcomes last) (frame : ℕ)
    → StateInvariant state → ledger.NoneMayReach state.history frame → StaysUntouched state events outcomes last run frame
stays_untouched state events outcomes last run frame invariants free = record {
  by_any = untouched_until (λ old event outcome. TouchesFrame old event outcome frame) (λ event outcome. GrantsFrame event outcome frame)
      (λ (s : State). ledger.NoneMayReach s.history frame) (untouched frame) (free-step frame) state events outcomes last run invariants free;
  by_each = λ id. untouched_until (λ old event outcome. TouchesFrameBy old event outcome id frame) (λ event outcome. GrantsFrameTo event outcome id frame)
      (λ (s : State). CannotReach s.history id frame) (untouched_by id frame) (barred-step id frame) state events outcomes last run invariants (free id);
}

-- the sentences hold along a run from a sound state
reclaims_along : (state : State) (events : List Event) (outcomes : List Outcome) (last : State) (run : Run state events outcomes last)
    → StateInvariant state → Reclaims state events outcomes last run
reclaims_along state [] [] last run invariants = (subst StateInvariant (sym run) invariants).reaches
reclaims_along state [] (outcome ∷ outcomes) last run invariants = absurd run
reclaims_along state (event ∷ events) [] last run invariants = absurd run
reclaims_along state (event ∷ events) (outcome ∷ outcomes) last (next, step, rest) invariants = (
  record {
    may = invariants.reaches;
    made = step_touches_its_own state next event outcome invariants step;
    accepted = step_accepts_held state next event outcome step;
  },
  (λ frame free. stays_untouched state (event ∷ events) (outcome ∷ outcomes) last (next, step, rest) frame invariants free.2),
  reclaims_along next events outcomes last rest (invariants-step state next event outcome invariants step),
)

-- the sentences hold of every run from a state that is reached
pub reclaims : (state : State) (events : List Event) (outcomes : List Outcome) (last : State) → IsReached state
    → (run : Run state events outcomes last) → Reclaims state events outcomes last run
reclaims state events outcomes last reached run = reclaims_along state events outcomes last run (sound_if_reached state reached)
