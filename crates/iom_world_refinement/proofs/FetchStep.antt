-- A fetch is a step of the ledger machine, which sees nothing of it: no frame changes but that of the completion word, which is the system's.
use Rattle.std.proofs.Common.{◌≡◌, ◌∙◌, ℕ, Bool, true, false, List, length, Option, Some, None, slice_get, refl, sym, ap, subst, arith}
use Rattle.iom_walk_coherence.specs.Walks.{Walk}
use Rattle.iom_base.specs.declared.owner.Owner.{Owner}
use Rattle.iom_base.specs.declared.owner.Owner.TheVariants.{System}
use Rattle.iom_driver.specs.Fences.{last_fence}
use Rattle.iom_iommu.specs.declared.fetched.Fetched.{Fetched}
use Rattle.iom_iommu.specs.declared.fetched.Fetched.TheVariants.{Did, Waiting, Empty, Stopped}
use Rattle.iom_iommu.specs.Effects.{FetchesByAnswer, StopsFetching}
use Rattle.iom_iommu.proofs.ByAnswer.{by_answer}
use Rattle.iom_iommu.specs.Parts.{registers_of, flights_of}
use Rattle.iom_iommu.proofs.FetchLemmas.{leaves_frames}
use Rattle.iom_machine.specs.declared.outcome.Outcome.{Outcome}
use Rattle.iom_machine.specs.declared.state.Frame.{Frame}
use Rattle.iom_machine.specs.declared.state.State.{State}
use Rattle.iom_machine.specs.Machine as machine
use Rattle.iom_registers.specs.Queues.{is_processing_commands}
use Rattle.iom_world_effects.specs.Effect.{FetchesNext}
use Rattle.iom_world_effects.specs.Frames.{ShowsFrames}
use Rattle.iom_world_effects.specs.Parts.{Parts}
use Rattle.iom_world_effects.specs.Queued.{completed_in}
use Rattle.iom_world_effects.specs.Shows.{PartsShow}
use Rattle.iom_world_effects.specs.Invariant.{InvariantWith}
use Rattle.iom_world_effects.proofs.DriverLemmas.{DriverInvariant}
use Rattle.iom_world_invariant.proofs.FetchKeeps.{head_next, never_stops, stored_there}
use Rattle.iom_world_effects.proofs.FrameLemmas.{shows_kept}

-- a frame of the system's isn't one that is nobody's
not_free : (owners : List (Option Owner)) (n : ℕ) → slice_get owners n ≡ Some (Some System) → slice_get owners n ≡ Some None → ⊥
not_free owners n system free = let both : ◌≡◌ {A = Option (Option Owner)} (Some (Some System)) (Some None) = sym system ∙ free in cc

-- the machine's frames are shown still, and nothing is accepted or made
pub record Unseen (old new : Parts) (frames : List Frame) : Type 0 where
  pub shown : ShowsFrames new.memory old.driver.owners frames
  pub flights : flights_of new.iommu ≡ flights_of old.iommu

-- a fetch that is stopped changes nothing: no command of the driver's stops it, so it had stopped before
stopped_unseen : {walks : List Walk} (old new : Parts) (events : ℕ) (state : State) → InvariantWith walks old events → DriverInvariant old.driver → (on : Bool)
    → StopsFetching on old.memory old.iommu new.iommu → new.memory ≡ old.memory → ShowsFrames old.memory old.driver.owners state.frames → Unseen old new state.frames
stopped_unseen old new events state invariants own true stops memory shows =
    absurd (never_stops old events new.iommu invariants (let m = own.sizes.size.0 in let size = invariants.ready.stand.size in omega (arith, size, m)) stops)
stopped_unseen old new events state invariants own false stops memory shows = record { shown = rw memory shows; flights = ap flights_of stops }

fetched_unseen : {walks : List Walk} (old new : Parts) (events : ℕ) (answer : Fetched) (state : State) → InvariantWith walks old events → DriverInvariant old.driver
    → FetchesByAnswer old.memory old.iommu answer new.memory new.iommu → ShowsFrames old.memory old.driver.owners state.frames → Unseen old new state.frames
fetched_unseen old new events (Did command) state invariants own fetches shows =
    let size : length old.memory ≡ length old.driver.owners = invariants.ready.stand.size in
    let next = head_next old events invariants command fetches.1 in
    let frames = leaves_frames old.memory new.memory old.iommu new.iommu command fetches in
    record {
      shown = shows_kept old.memory new.memory old.driver.owners state.frames shows
          (λ k free. frames.0 k (λ at. not_free old.driver.owners k
          (subst (λ n. slice_get old.driver.owners n ≡ Some (Some System)) (sym (stored_there (length old.memory) (completed_in old.memory) (last_fence old.driver) command k next at)) (rw size own.fixed.completion)) free))
          frames.1;
      flights = fetches.5.flights;
    }
fetched_unseen old new events Waiting state invariants own fetches shows = record { shown = rw fetches.2 shows; flights = ap flights_of fetches.3 }
fetched_unseen old new events Empty state invariants own fetches shows = record { shown = rw fetches.2 shows; flights = ap flights_of fetches.3 }
fetched_unseen old new events Stopped state invariants own fetches shows =
    stopped_unseen old new events state invariants own (is_processing_commands (registers_of old.iommu)) fetches.0 fetches.1 shows

pub fetch_step : {walks : List Walk} (old new : Parts) (events : ℕ) (reply : Outcome) → InvariantWith walks old events → DriverInvariant old.driver → FetchesNext old reply new
    → (state : State) → PartsShow old state → (next : State) × machine.Fetches state reply next × PartsShow new next
fetch_step old new events reply invariants own effect state shows =
    let unseen = fetched_unseen old new events effect.answer state invariants own (by_answer old.memory new.memory old.iommu new.iommu effect.answer effect.call) shows.frames in (
      state,
      rw effect.reply_is refl,
      record {
        ledger = rw effect.driver shows.ledger;
        frames = rw effect.driver unseen.shown;
        devices = rw (effect.driver, effect.devices, unseen.flights) shows.devices;
        given = rw effect.driver shows.given;
        confirmed = rw effect.driver shows.confirmed;
        all_earlier = rw effect.driver shows.all_earlier;
        none_later = rw effect.driver shows.none_later;
        levels = rw effect.driver shows.levels;
        limits = shows.limits;
      },
    )
