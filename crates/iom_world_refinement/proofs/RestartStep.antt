-- A restart of the driver is one of the ledger machine, which sees nothing of it; and a refusal changes nothing.
use Rattle.std.proofs.Common.{◌≡◌, ◌+◌, ◌∙◌, ℕ, Bool, true, false, nat_le, [], ◌∷◌, length, Some, Result, Ok, Err, slice_get, refl, sym, ap, subst, List}
use Rattle.iom_walk_coherence.specs.Walks.{Walk}
use Rattle.iom_base.specs.declared.owner.Owner.TheVariants.{System}
use Rattle.iom_driver.specs.Fences.{last_fence}
use Rattle.iom_driver.specs.Layout.{command_frame, completion_address}
use Rattle.iom_driver.specs.Reasons.{why_not_restart}
use Rattle.iom_driver.specs.Restarts.{turned_off_and_on, restart_commands, QueuesRestart, AnswersRestart}
use Rattle.iom_driver.specs.State.{DriverState}
use Rattle.iom_iommu.specs.Parts.{mmio, flights_of}
use Rattle.iom_inflight.specs.Flights.{Flights}
use Rattle.iom_base.specs.declared.refusal.Refusal.{Refusal}
use Rattle.iom_base.specs.declared.refusal.Refusal.TheVariants.{NotStarted, NumbersUsedUp}
use Rattle.iom_base.specs.Refusals.{first_that_applies}
use Rattle.iom_machine.specs.declared.outcome.Outcome.{Outcome}
use Rattle.iom_machine.specs.declared.outcome.Outcome.TheVariants as outcome
use Rattle.iom_machine.specs.declared.state.State.{State}
use Rattle.iom_machine.specs.Machine as machine
use Rattle.iom_machine.specs.Refusals.{MayRefuseRestart}
use Rattle.iom_world_effects.specs.Answers.{outcome_of_done}
use Rattle.iom_world_effects.specs.Frames.{ShowsFrames}
use Rattle.iom_world_effects.specs.Unchanged.{AreSame, SameIfRefused}
use Rattle.iom_iommu.specs.OwnIommu.{Iommu}
use Rattle.iom_world_effects.specs.Parts.{Parts}
use Rattle.iom_world_effects.specs.Recovery.{RestartsQueue}
use Rattle.iom_world_effects.specs.Shows.{PartsShow}
use Rattle.iom_world_effects.specs.Invariant.{InvariantWith}
use Rattle.iom_world_effects.proofs.CallRefused.{same_of}
use Rattle.iom_world_effects.proofs.DriverLemmas.{DriverInvariant}
use Rattle.iom_world_effects.proofs.FrameLemmas.{shows_kept}
use Rattle.iom_world_refinement.proofs.ReleaseStep.{flights_appended, not_ring}
use Rattle.iom_world_effects.proofs.UnchangedLemmas.{shows_same}

-- a driver that is started refuses a restart only where its fences have no more numbers
refused_so : (d : DriverState) (why : Refusal) → d.started ≡ true → first_that_applies (why_not_restart d) ≡ Some why → MayRefuseRestart why
refused_so d why started first = by (nat_le 4294967295 (last_fence d)) (rw started at first)
  where
    by : (used : Bool) → first_that_applies ((false, NotStarted) ∷ (used, NumbersUsedUp) ∷ []) ≡ Some why → MayRefuseRestart why
    by true is = let same : NumbersUsedUp ≡ why = cc in subst MayRefuseRestart same tt
    by false is = cc

shows_restarted : {walks : List Walk} (old new : Parts) (events : ℕ) → InvariantWith walks old events → DriverInvariant old.driver → length new.memory ≡ length old.memory
    → (queues : QueuesRestart mmio old.driver old.memory old.iommu new.driver new.memory new.iommu) → new.devices ≡ old.devices
    → (state : State) → PartsShow old state → PartsShow new state
shows_restarted old new events invariants own size queues devices state shows =
    let d = old.driver in
    let commands = restart_commands d.devices (completion_address (length old.memory)) (last_fence d + 1) in
    let flights : flights_of new.iommu ≡ flights_of old.iommu = flights_appended commands old.memory new.memory (turned_off_and_on mmio old.iommu) new.iommu queues.queued in
    let ring = subst (λ n. slice_get d.owners (command_frame n) ≡ Some (Some System)) (sym invariants.ready.stand.size) own.fixed.command in
    let frames = shows_kept old.memory new.memory d.owners state.frames shows.frames (λ k free. queues.others k (not_ring d.owners k (length old.memory) ring free)) size in
    record {
      ledger = rw (ap (λ (x : DriverState). x.ledger) queues.driver) shows.ledger;
      frames = subst (λ ms. ShowsFrames new.memory ms state.frames) (sym (ap (λ (x : DriverState). x.owners) queues.driver)) frames;
      devices = rw (devices, ap (λ (f : Flights). f.rows) flights, ap (λ (x : DriverState). x.devices) queues.driver) shows.devices;
      given = shows.given ∙ sym (ap (λ (x : DriverState). x.given) queues.driver);
      confirmed = shows.confirmed ∙ sym (ap (λ (x : DriverState). x.confirmed) queues.driver);
      all_earlier = rw (ap (λ (x : DriverState). x.confirmed) queues.driver) shows.all_earlier;
      none_later = rw (ap (λ (x : DriverState). x.confirmed) queues.driver) shows.none_later;
      levels = shows.levels ∙ sym (ap (λ (x : DriverState). x.levels) queues.driver);
      limits = shows.limits;
    }

pub restart_step : {walks : List Walk} (old new : Parts) (events : ℕ) (reply : Outcome) → InvariantWith walks old events → DriverInvariant old.driver → length new.memory ≡ length old.memory
    → RestartsQueue old reply new → (state : State) → PartsShow old state → machine.Restarts state reply state × PartsShow new state
restart_step old new events reply invariants own size effect state shows = by effect.answer effect.reply_is effect.call
  where
    by : (answer : Result (Unit {0}) Refusal) → reply ≡ outcome_of_done answer → AnswersRestart mmio old.driver old.memory old.iommu answer new.driver new.memory new.iommu
        → machine.Restarts state reply state × PartsShow new state
    by (Ok done) is call = (subst (λ t. machine.Restarts state t state) (sym is) refl, shows_restarted old new events invariants own size call.1 effect.devices state shows)
    by (Err why) is call = (
      subst (λ t. machine.Restarts state t state) (sym is) (refused_so old.driver why invariants.started call.0, refl),
      shows_same old new state call.2 (ap (λ (i : Iommu). flights_of i) call.3) effect.devices call.1 shows,
    )

-- what is done isn't refused
done_refused : (why : Refusal) → outcome.Done ≡ outcome.Refused why → ⊥
done_refused why same = cc

pub restart_refused : (old new : Parts) (reply : Outcome) → RestartsQueue old reply new → SameIfRefused reply old new
restart_refused old new reply effect why is = by effect.answer (sym effect.reply_is ∙ is) effect.call
  where
    by : (answer : Result (Unit {0}) Refusal) → outcome_of_done answer ≡ outcome.Refused why → AnswersRestart mmio old.driver old.memory old.iommu answer new.driver new.memory new.iommu → AreSame old new
    by (Ok done) refused call = absurd (done_refused why refused)
    by (Err reason) refused call = same_of old new call.2 call.3 effect.devices effect.fabric call.1
