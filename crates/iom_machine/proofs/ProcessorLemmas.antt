-- What the processor does, and a question whether a frame is free, has an answer in every state.
use Rattle.std.proofs.Common.{◌≡◌, ◌+◌, ◌/◌, ◌%◌, ◌<◌, ◌≤◌, ◌⊎◌, inl, inr, ℕ, Bool, true, false, not, List, length, slice_range, nat_le, Option, Some, None, MatchOption, refl, sym, ap, ◌∙◌, subst, arith}
use Rattle.std.proofs.lemmas.Bool.{cases_lt}
use Rattle.std.proofs.lemmas.Bool.Decides.{nat_tests}
use Rattle.iom_base.specs.Spans.{FitsInPage}
use Rattle.iom_base.specs.declared.refusal.Refusal.{Refusal}
use Rattle.iom_machine.specs.declared.outcome.Outcome.{Outcome}
use Rattle.iom_machine.specs.declared.outcome.Outcome.TheVariants.{Done, Refused, BadSpan, Bytes, Free}
use Rattle.iom_machine.specs.declared.state.Frame.{Frame}
use Rattle.iom_machine.specs.declared.state.State.{State}
use Rattle.iom_machine.specs.Frames.{is_reserved, bytes_of, stored}
use Rattle.iom_machine.specs.Laws.{IsReached}
use Rattle.iom_machine.specs.Judging.{anyone_reaches_in}
use Rattle.iom_machine.specs.Machine.{Pokes, Peeks, TellsFree}
use Rattle.iom_base.specs.Refusals.{first_that_applies, NoneApplies, IsRefusedBy}
use Rattle.iom_machine.specs.Refusals.{NeverElse, frame_reasons, poke_reasons}
use Rattle.iom_machine.proofs.ByteLemmas.{length-range}
use Rattle.iom_machine.proofs.HeadlineLemmas.{element_at, bytes_there}
use Rattle.iom_machine.proofs.InFlightLemmas.{All-at}
use Rattle.iom_machine.proofs.JudgeLemmas.{out_of_reach_test}
use Rattle.iom_machine.proofs.InvariantLemmas.{sound_if_reached}
use Rattle.iom_machine.proofs.ReasonLemmas.{none_applies}

fits_or_not : (address len : ℕ) → FitsInPage address len ⊎ (¬ FitsInPage address len)
fits_or_not address len =
    elim (cases_lt len 1) [
      | inl empty ↦ inr (λ fits. let some : 1 ≤ len = fits.0 in omega arith)
      | inr some ↦ elim (cases_lt 4096 (address % 4096 + len)) [
        | inl past ↦ inr (λ fits. let within : address % 4096 + len ≤ 4096 = fits.1 in omega arith)
        | inr within ↦ inl (some, within)
      ]
    ]

-- the first refusal that applies is lawful
refused_first : (reasons : List (Bool × Refusal)) (why : Refusal) → first_that_applies reasons ≡ Some why → IsRefusedBy reasons NeverElse why
refused_first reasons why some = subst (λ found. MatchOption found (NeverElse why) (λ first. why ≡ first)) (sym some) refl

pub poke_is_answered : (state : State) (address : ℕ) (bytes : List ℕ) → (outcome : Outcome) × (new : State) × Pokes state address bytes outcome new
poke_is_answered state address bytes = elim (fits_or_not address (length bytes)) [
  | inl fits ↦ by fits (first_that_applies (poke_reasons state (address / 4096))) refl
  | inr leaves ↦ (BadSpan, state, (leaves, refl))
]
  where
    by : FitsInPage address (length bytes) → (found : Option Refusal) → first_that_applies (poke_reasons state (address / 4096)) ≡ found
        → (outcome : Outcome) × (new : State) × Pokes state address bytes outcome new
    by fits None none = (Done, record state { frames = stored state.frames (address / 4096) (address % 4096) bytes }, (fits, none, refl))
    by fits (Some why) some = (Refused why, state, (fits, refused_first (poke_reasons state (address / 4096)) why some, refl))

-- a frame that is named is one of the memory, where nothing refuses it
frame_in_memory : (state : State) (frame : ℕ) → NoneApplies (frame_reasons state frame) → frame < length state.frames
frame_in_memory state frame none =
    let low : nat_le (length state.frames) frame ≡ false = (none_applies (frame_reasons state frame) none).0 in grind (arith, nat_tests)

pub peek_is_answered : (state : State) (address len : ℕ) → IsReached state → (outcome : Outcome) × (new : State) × Peeks state address len outcome new
peek_is_answered state address len reached = elim (fits_or_not address len) [
  | inl fits ↦ by fits (first_that_applies (frame_reasons state (address / 4096))) refl
  | inr leaves ↦ (BadSpan, state, (leaves, refl))
]
  where
    long : FitsInPage address len → NoneApplies (frame_reasons state (address / 4096))
        → length (slice_range (bytes_of state.frames (address / 4096)) (address % 4096) (address % 4096 + len)) ≡ len
    long fits none =
        let found = element_at state.frames (address / 4096) (frame_in_memory state (address / 4096) none) in
        let whole : length found.0.bytes ≡ 4096 = All-at (λ (f : Frame). length f.bytes ≡ 4096) state.frames (address / 4096) found.0 (sound_if_reached state reached).frames found.1 in
        ap (λ (l : List ℕ). length (slice_range l (address % 4096) (address % 4096 + len))) (bytes_there state.frames (address / 4096) found.0 found.1)
        ∙ length-range found.0.bytes (address % 4096) len (subst (λ n. address % 4096 + len ≤ n) (sym whole) fits.1)

    by : FitsInPage address len → (found : Option Refusal) → first_that_applies (frame_reasons state (address / 4096)) ≡ found
        → (outcome : Outcome) × (new : State) × Peeks state address len outcome new
    by fits None none =
        (Bytes (record { items = slice_range (bytes_of state.frames (address / 4096)) (address % 4096) (address % 4096 + len) }), state, (fits, none, (long fits none, (λ open_. refl)), refl))
    by fits (Some why) some = (Refused why, state, (fits, refused_first (frame_reasons state (address / 4096)) why some, refl))

pub free_is_answered : (state : State) (frame : ℕ) → (outcome : Outcome) × (new : State) × TellsFree state frame outcome new
free_is_answered state frame = by (first_that_applies (frame_reasons state frame)) refl
  where
    reach : NoneApplies (frame_reasons state frame) → is_reserved state.frames frame ≡ false → (b : Bool) → not (anyone_reaches_in state.history state.history frame) ≡ b
        → (outcome : Outcome) × (new : State) × TellsFree state frame outcome new
    reach none unreserved true out =
        (Free true, state, (none, ((λ yes. (frame_in_memory state frame none, unreserved, (out_of_reach_test state.history frame).0 out)), (λ is. refl)), refl))
    reach none unreserved false within =
        (Free false, state, (none, ((λ yes. cc), (λ is. let out = (out_of_reach_test state.history frame).1 is.2 in cc)), refl))

    owned : NoneApplies (frame_reasons state frame) → (b : Bool) → is_reserved state.frames frame ≡ b → (outcome : Outcome) × (new : State) × TellsFree state frame outcome new
    owned none true reserved = (Free false, state, (none, ((λ yes. cc), (λ is. let other : is_reserved state.frames frame ≡ false = is.1 in cc)), refl))
    owned none false unreserved = reach none unreserved (not (anyone_reaches_in state.history state.history frame)) refl

    by : (found : Option Refusal) → first_that_applies (frame_reasons state frame) ≡ found → (outcome : Outcome) × (new : State) × TellsFree state frame outcome new
    by None none = owned none (is_reserved state.frames frame) refl
    by (Some why) some = (Refused why, state, (refused_first (frame_reasons state frame) why some, refl))
