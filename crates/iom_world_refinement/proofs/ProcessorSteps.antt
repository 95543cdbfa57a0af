-- What the processor writes and reads, and what it is told of a frame: lawful steps of the ledger machine.
use Rattle.std.proofs.Common.{◌≡◌, ◌/◌, ◌%◌, ◌+◌, ◌<◌, ◌≤◌, ◌∙◌, ℕ, true, false, List, length, nat_le, Option, Some, None, slice_range, refl, sym, ap, subst}
use Rattle.std.proofs.lemmas.Bool.{le-leb, lt-leb}
use Rattle.iom_walk_coherence.specs.Walks.{Walk}
use Rattle.iom_world_effects.proofs.SoundFrom.{unmarked}
use Rattle.iom_base.specs.declared.refusal.Refusal.{Refusal}
use Rattle.iom_base.specs.declared.refusal.Refusal.TheVariants.{FrameOutOfRange, FrameReserved}
use Rattle.iom_machine.specs.declared.outcome.Outcome.{Outcome}
use Rattle.iom_machine.specs.declared.outcome.Outcome.TheVariants.{Done, Refused, BadSpan, Bytes, Free}
use Rattle.iom_machine.specs.declared.state.State.{State}
use Rattle.iom_machine.specs.Frames.{stored}
use Rattle.iom_machine.specs.Machine.{Pokes, Peeks, TellsFree, ShowsBytes}
use Rattle.iom_machine.specs.Refusals.{NeverElse, frame_reasons, poke_reasons}
use Rattle.iom_base.specs.Refusals.{IsRefusedBy, NoneApplies}
use Rattle.iom_world_effects.specs.Parts.{Parts}
use Rattle.iom_world_effects.specs.Processor.{PokesBytes, PeeksBytes, AsksFree, StoresIfAny, ShowsAt, IsNoPlace}
use Rattle.iom_world_effects.specs.Shows.{PartsShow}
use Rattle.iom_world_effects.specs.Invariant.{InvariantWith}
use Rattle.iom_world_effects.proofs.FrameLemmas.{reserved_shown}
use Rattle.iom_world_refinement.proofs.FreeLemmas.{free_in_machine, free_in_world}
use Rattle.iom_driver.proofs.Lists.{get_within}
use Rattle.iom_world_invariant.proofs.ProcessorKeeps.{stored_free}
use Rattle.iom_world_effects.proofs.PartsLemmas.{parts_are}
use Rattle.iom_world_invariant.proofs.RequestStep.{shows_same}
use Rattle.iom_world_refinement.proofs.StoreLemmas.{bytes_shown, frames_stored}

module _ (old : Parts) (state : State) (shows : PartsShow old state) where
  is_inside : (frame : ℕ) → frame < length old.memory → nat_le (length state.frames) frame ≡ false
  is_inside frame below = lt-leb (length state.frames) frame (rw (shows.frames.size) below)

  is_outside : (frame : ℕ) → length old.memory ≤ frame → nat_le (length state.frames) frame ≡ true
  is_outside frame above = le-leb (length state.frames) frame (rw (shows.frames.size) above)

  -- a frame is named that memory has, or hasn't
  none_applies : (frame : ℕ) → frame < length old.memory → NoneApplies (frame_reasons state frame)
  none_applies frame below = rw (is_inside frame below) refl

  refused_outside : (frame : ℕ) (why : Refusal) → why ≡ FrameOutOfRange → length old.memory ≤ frame → IsRefusedBy (frame_reasons state frame) NeverElse why
  refused_outside frame why is above = rw (is_outside frame above) is

  -- why a poke is refused
  no_place : (frame : ℕ) (why : Refusal) → IsNoPlace old frame why → IsRefusedBy (poke_reasons state frame) NeverElse why
  no_place frame FrameOutOfRange above = rw (is_outside frame above) refl
  no_place frame FrameReserved place = rw (is_inside frame place.0, reserved_shown old.memory old.driver.owners state.frames frame shows.frames ∙ place.1) refl
  no_place frame _ place = absurd place

  step_if_any : {walks : List Walk} (events address : ℕ) (bytes : List ℕ) (reply : Outcome) (memory : List (List ℕ)) → InvariantWith walks old events → StoresIfAny old address bytes reply memory
      → (next : State) × Pokes state address bytes reply next × PartsShow (record old { memory = memory }) next
  step_if_any events address bytes Done memory invariants stores =
      let frame = address / 4096 in
      let free = stored_free old events address bytes memory invariants stores in (
        record state { frames = stored state.frames frame (address % 4096) bytes },
        (stores.fits, rw (is_inside frame stores.inside, reserved_shown old.memory old.driver.owners state.frames frame shows.frames ∙ stores.unreserved) refl, refl),
        subst (λ m. PartsShow (record old { memory = m }) (record state { frames = stored state.frames frame (address % 4096) bytes })) (sym stores.stored) (record {
          ledger = shows.ledger;
          frames = frames_stored old.memory old.driver.owners state.frames frame (address % 4096) stores.before bytes shows.frames free stores.there;
          devices = shows.devices;
          given = shows.given;
          confirmed = shows.confirmed;
          all_earlier = shows.all_earlier;
          none_later = shows.none_later;
          levels = shows.levels;
          limits = shows.limits;
        }),
      )
  step_if_any events address bytes BadSpan memory invariants stores =
      (state, (stores.0, refl), subst (λ m. PartsShow (record old { memory = m }) state) (sym stores.1) shows)
  step_if_any events address bytes (Refused why) memory invariants stores =
      (state, (stores.0, no_place (address / 4096) why stores.1, refl), subst (λ m. PartsShow (record old { memory = m }) state) (sym stores.2) shows)
  step_if_any events address bytes _ memory invariants stores = absurd stores

  -- what is read of a frame that is nobody's is what the machine has
  shown_bytes : {walks : List Walk} (events address len : ℕ) (shown : List ℕ) → InvariantWith walks old events → ShowsAt old address len shown → address / 4096 < length old.memory → ShowsBytes state address len shown
  shown_bytes events address len shown invariants at below = (
    at.long,
    (λ unreserved.
        let frame = address / 4096 in
        let free = unmarked old.driver.owners frame (rw (sym invariants.ready.stand.size) below) (sym (reserved_shown old.memory old.driver.owners state.frames frame shows.frames) ∙ unreserved) in
        at.part ∙ ap (λ b. slice_range b (address % 4096) (address % 4096 + len)) (sym (bytes_shown old.memory old.driver.owners state.frames frame at.bytes shows.frames free at.there))),
  )

  peeks : {walks : List Walk} (events address len : ℕ) (reply : Outcome) → InvariantWith walks old events → PeeksBytes old address len reply → Peeks state address len reply state
  peeks events address len (Bytes shown) invariants at =
      let below = get_within old.memory (address / 4096) at.bytes at.there in
      (at.fits, none_applies (address / 4096) below, shown_bytes events address len shown.items invariants at below, refl)
  peeks events address len BadSpan invariants bad = (bad, refl)
  peeks events address len (Refused why) invariants refused = (refused.0, refused_outside (address / 4096) why refused.1 refused.2, refl)
  peeks events address len _ invariants never = absurd never

  -- a frame is free in the machine exactly where the driver finds it free
  tells_free : {walks : List Walk} (events frame : ℕ) (reply : Outcome) → InvariantWith walks old events → AsksFree old frame reply → TellsFree state frame reply state
  tells_free events frame (Free is_free) invariants asks = (
    none_applies frame asks.0,
    (
      (λ is. let free = asks.1.0 is in free_in_machine old.memory old.driver.owners old.driver.ledger state frame shows.ledger shows.frames asks.0 free.unreserved free.ungranted),
      (λ free. let there = free_in_world old.memory old.driver.owners old.driver.ledger state None frame shows.ledger shows.frames (λ named. none named) free in
          asks.1.1 (record { inside = rw (sym invariants.ready.stand.size) (asks.0); unreserved = there.1.unmarked; ungranted = there.1.ungranted })),
    ),
    refl,
  )
    where
      none : ◌≡◌ {A = Option ℕ} None (Some frame) → ⊥
      none named = cc
  tells_free events frame (Refused why) invariants asks = (refused_outside frame why asks.0 asks.1, refl)
  tells_free events frame _ invariants asks = absurd asks

pub poked_step : {walks : List Walk} (old new : Parts) (events address : ℕ) (bytes : List ℕ) (reply : Outcome) → InvariantWith walks old events → PokesBytes old address bytes reply new
    → (state : State) → PartsShow old state → (next : State) × Pokes state address bytes reply next × PartsShow new next
poked_step old new events address bytes reply invariants pokes state shows =
    let step = step_if_any old state shows events address bytes reply new.memory invariants pokes.memory in
    (step.0, step.1, shows_same (record old { memory = new.memory }) new step.0 (parts_are new new.memory old.iommu old.driver old.devices old.fabric refl pokes.iommu pokes.driver pokes.devices pokes.fabric) step.2)

pub peeked_step : {walks : List Walk} (old : Parts) (events address len : ℕ) (reply : Outcome) → InvariantWith walks old events → PeeksBytes old address len reply
    → (state : State) → PartsShow old state → Peeks state address len reply state
peeked_step old events address len reply invariants shown state shows = peeks old state shows events address len reply invariants shown

pub asked_free_step : {walks : List Walk} (old : Parts) (events frame : ℕ) (reply : Outcome) → InvariantWith walks old events → AsksFree old frame reply
    → (state : State) → PartsShow old state → TellsFree state frame reply state
asked_free_step old events frame reply invariants asks state shows = tells_free old state shows events frame reply invariants asks
