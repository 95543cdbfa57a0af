-- What each event does to the parts of a world is a lawful step of the ledger machine, which shows the parts then.
use Rattle.std.proofs.Common.{◌≡◌, ◌∙◌, inl, inr, ℕ, List, length, Result, Ok, Err, sym, ap}
use Rattle.iom_base.specs.Accesses.{read_of, write_of}
use Rattle.iom_driver.specs.Restarts.{AnswersRestart}
use Rattle.iom_driver.specs.State.{DriverState}
use Rattle.iom_iommu.specs.Parts.{mmio}
use Rattle.iom_base.specs.declared.refusal.Refusal.{Refusal}
use Rattle.iom_machine.specs.declared.event.Event.{Event}
use Rattle.iom_machine.specs.declared.event.Event.TheVariants as events
use Rattle.iom_machine.specs.declared.outcome.Outcome.{Outcome}
use Rattle.iom_machine.specs.declared.state.State.{State}
use Rattle.iom_machine.specs.Machine.{Step}
use Rattle.iom_world_effects.specs.Below.{AddressFits}
use Rattle.iom_base.specs.DeviceKinds.{sends_untranslated, sends_through_cache}
use Rattle.iom_virtqueue.specs.Layouts.{layout_of}
use Rattle.iom_world_effects.specs.Effect.{Effect}
use Rattle.iom_world_effects.specs.Parts.{Parts}
use Rattle.iom_world_effects.specs.Recovery.{RestartsQueue}
use Rattle.iom_world_effects.specs.Shows.{PartsShow}
use Rattle.iom_world_effects.specs.Invariant.{InvariantWith}
use Rattle.iom_world_refinement.proofs.AttachStep.{attach_step}
use Rattle.iom_world_refinement.proofs.BlockSteps.{medium_step, queue_step, begin_step, rest_step, status_step}
use Rattle.iom_world_refinement.proofs.CommitStep.{commit_step}
use Rattle.iom_world_refinement.proofs.DeliverStep.{delivered_step}
use Rattle.iom_world_refinement.proofs.DetachStep.{detach_step}
use Rattle.iom_world_effects.proofs.DriverLemmas.{DriverInvariant}
use Rattle.iom_world_refinement.proofs.FetchStep.{fetch_step}
use Rattle.iom_world_refinement.proofs.FlightMay.{each_may}
use Rattle.iom_world_refinement.proofs.GrantStep.{grant_step}
use Rattle.iom_world_refinement.proofs.MessageSteps.{question_step, forged_step, dropped_step, repeated_step}
use Rattle.iom_world_refinement.proofs.PlugStep.{plug_step}
use Rattle.iom_world_refinement.proofs.PollStep.{poll_step}
use Rattle.iom_world_refinement.proofs.ProcessorSteps.{poked_step, peeked_step, asked_free_step}
use Rattle.iom_world_refinement.proofs.QuarantineStep.{quarantine_step}
use Rattle.iom_world_refinement.proofs.ReleaseStep.{release_step}
use Rattle.iom_world_invariant.proofs.RequestStep.{request_step}
use Rattle.iom_world_invariant.proofs.ResetKeeps.{reset_step}
use Rattle.iom_world_refinement.proofs.RestartStep.{restart_step}
use Rattle.iom_world_refinement.proofs.RevivalStep.{revival_step}
use Rattle.iom_world_invariant.proofs.TimeoutKeeps.{timeout_step}
use Rattle.iom_world_refinement.proofs.ThroughCacheStep.{through_cache_step}
use Rattle.iom_world_refinement.proofs.TranslatedStep.{translated_step}
use Rattle.iom_world_refinement.proofs.EventLemmas.{no_choice, frame_chosen, access_chosen, question_chosen, frames_taken, pages_taken}
use Rattle.iom_world_effects.proofs.ServedLemmas.{ServiceLaws}
use Rattle.iom_world_effects.proofs.PartsLemmas.{StaysReported}
use Rattle.iom_world_invariant.proofs.ReportKeeps.{taken_step}
use Rattle.iom_walk_coherence.specs.Walks.{Walk}

-- a restart leaves memory as large as it was
restart_size : {walks : List Walk} (old new : Parts) (before counted : ℕ) (reply : Outcome) → InvariantWith walks old before → InvariantWith walks new counted → RestartsQueue old reply new → length new.memory ≡ length old.memory
restart_size old new before counted reply invariants invariants' effect = by effect.answer effect.call
  where
    by : (answer : Result (Unit {0}) Refusal) → AnswersRestart mmio old.driver old.memory old.iommu answer new.driver new.memory new.iommu → length new.memory ≡ length old.memory
    by (Ok done) (admitted, queues) = invariants'.ready.stand.size ∙ ap (λ (d : DriverState). length d.owners) queues.driver ∙ sym invariants.ready.stand.size
    by (Err why) (refused, driver, memory, iommu) = ap (λ m. length m) memory

-- A STEP, by the event
module _ {walks : List Walk} (laws : ServiceLaws) (disks : List ℕ) (old new : Parts) (counted before : ℕ) (invariants : InvariantWith walks old before) (own : DriverInvariant old.driver) (reported : StaysReported old.driver) (invariants' : InvariantWith walks new counted) where
  pub steps : (event : Event) (reply : Outcome) → AddressFits event → Effect disks old event reply new → (state : State) → PartsShow old state → state.disks ≡ disks → (next : State) × Step state event reply next × PartsShow new next
  steps (events.Plug id what) reply fits effect state shows at_hand =
      let step = plug_step disks old new before id what reply invariants effect state shows at_hand in (step.0, (no_choice, step.1), step.2)
  steps (events.Medium id disk) reply fits effect state shows at_hand =
      let step = medium_step disks old new id disk reply effect state shows at_hand in (step.0, (no_choice, step.1), step.2)
  steps (events.Attach id mode ats) reply fits effect state shows at_hand =
      let step = attach_step old new before id mode ats reply invariants own effect state shows in (step.2, (pages_taken step.0 step.1, step.3), step.4)
  steps (events.Detach id) reply fits effect state shows at_hand =
      let step = detach_step old new before id reply invariants own effect state shows in (step.0, (no_choice, step.1), step.2)
  steps (events.Grant id page frame rights) reply fits effect state shows at_hand =
      let step = grant_step old new before id page frame rights reply invariants effect state shows in (step.1, (frames_taken step.0, step.2), step.3)
  steps (events.Release id page) reply fits effect state shows at_hand =
      let step = release_step old new before id page reply invariants own effect state shows in (step.0, (no_choice, step.1), step.2)
  steps (events.Quarantine id) reply fits effect state shows at_hand =
      let step = quarantine_step old new before id reply invariants own effect state shows in (step.0, (no_choice, step.1), step.2)
  steps (events.Revive id) reply fits effect state shows at_hand =
      let step = revival_step old new before id reply invariants own effect state shows in (step.0, (no_choice, step.1), step.2)
  steps events.Restart reply fits effect state shows at_hand =
      let step = restart_step old new before reply invariants own (restart_size old new before counted reply invariants invariants' effect) effect state shows in (state, (no_choice, step.0), step.1)
  steps events.Timeout reply fits effect state shows at_hand = let step = timeout_step old new reply effect state shows in (state, (no_choice, step.0), step.1)
  steps (events.Reset id) reply fits effect state shows at_hand = let step = reset_step old new id reply effect state shows in (state, (no_choice, step.0), step.1)
  steps events.Fetch reply fits effect state shows at_hand =
      let step = fetch_step old new before reply invariants own effect state shows in (step.0, (no_choice, step.1), step.2)
  steps events.Poll reply fits effect state shows at_hand =
      let step = poll_step old new before counted reply invariants own invariants' effect (each_may new counted invariants') state shows in (step.0, (no_choice, step.1), step.2)
  steps events.Faults reply fits effect state shows at_hand =
      let step = taken_step old new before reply invariants effect state shows in (state, (no_choice, step.0), step.1)
  steps (events.Read id address len) reply fits effect state shows at_hand =
      let step = request_step sends_untranslated laws old new before id (read_of address len) reply invariants own reported fits effect state shows in (step.1, (frame_chosen step.0, step.2), step.3)
  steps (events.Write id address bytes) reply fits effect state shows at_hand =
      let step = request_step sends_untranslated laws old new before id (write_of address bytes) reply invariants own reported fits effect state shows in (step.1, (frame_chosen step.0, step.2), step.3)
  steps (events.Commit id) reply fits effect state shows at_hand =
      let step = commit_step old new before id reply invariants effect state shows in (step.0, (no_choice, step.1), step.2)
  steps (events.Poke address bytes) reply fits effect state shows at_hand =
      let step = poked_step old new before address bytes reply invariants effect state shows in (step.0, (no_choice, step.1), step.2)
  steps (events.Peek address len) reply fits effect state shows at_hand =
      (state, (no_choice, peeked_step old before address len reply invariants effect.0 state shows), rw effect.1 shows)
  steps (events.Free frame) reply fits effect state shows at_hand =
      (state, (no_choice, asked_free_step old before frame reply invariants effect.0 state shows), rw effect.1 shows)
  steps (events.ReadTranslated id address len) reply fits effect state shows at_hand =
      let step = translated_step laws old new before id (read_of address len) reply invariants own reported effect state shows in (state, (no_choice, step.0), step.1)
  steps (events.WriteTranslated id address bytes) reply fits effect state shows at_hand =
      let step = translated_step laws old new before id (write_of address bytes) reply invariants own reported effect state shows in (state, (no_choice, step.0), step.1)
  steps (events.ReadThroughCache id address len) reply fits effect state shows at_hand =
      let step = through_cache_step sends_through_cache laws old new before id (read_of address len) reply invariants own reported effect state shows in (step.1, (frame_chosen step.0, step.2), step.3)
  steps (events.WriteThroughCache id address bytes) reply fits effect state shows at_hand =
      let step = through_cache_step sends_through_cache laws old new before id (write_of address bytes) reply invariants own reported effect state shows in (step.1, (frame_chosen step.0, step.2), step.3)
  steps (events.Ask id page) reply fits effect state shows at_hand = let step = question_step old new id page reply effect state shows in (state, (no_choice, step.0), step.1)
  steps (events.Forge id serial) reply fits effect state shows at_hand = let step = forged_step old new id serial reply effect state shows in (state, (no_choice, step.0), step.1)
  steps (events.Deliver place) reply fits effect state shows at_hand =
      let step = delivered_step laws old new before place reply invariants own reported effect state shows in (state, (question_chosen step.0 step.1, step.2), step.3)
  steps (events.Drop place) reply fits effect state shows at_hand = let step = dropped_step old new place reply effect state shows in (state, (no_choice, step.0), step.1)
  steps (events.Repeat place) reply fits effect state shows at_hand = let step = repeated_step old new place reply effect state shows in (state, (no_choice, step.0), step.1)
  steps (events.Queue id size descriptors available used) reply fits effect state shows at_hand =
      let step = queue_step old new id (layout_of size descriptors available used) reply effect state shows in (state, (no_choice, step.0), step.1)
  steps (events.Step id) reply fits (inl (access, low, may, begins)) state shows at_hand =
      let step = begin_step laws old new before id access reply invariants own reported low may begins state shows in (step.1, (access_chosen access step.0, step.2), step.3)
  steps (events.Step id) reply fits (inr (block, rest, rests)) state shows at_hand =
      let step = rest_step old new id block reply rest rests state shows in (state, (no_choice, step.0), step.1)
  steps (events.Status id) reply fits effect state shows at_hand = let step = status_step old new id effect.0 reply effect.1 state shows in (state, (no_choice, step.0), step.1)
