-- A release of the driver is one of the ledger machine.
use Rattle.std.proofs.Common.{◌≡◌, ◌≢◌, ◌+◌, ◌∙◌, ℕ, inl, List, [], ◌∷◌, length, Option, Some, None, Result, Ok, Err, slice_get, refl, sym, ap, subst, arith}
use Rattle.iom_walk_coherence.specs.Walks.{Walk}
use Rattle.iom_base.specs.Modes.{size_in}
use Rattle.iom_base.specs.declared.owner.Owner.{Owner}
use Rattle.iom_base.specs.declared.owner.Owner.TheVariants.{System, OneDevice}
use Rattle.iom_driver.specs.declared.answers.Ticket.{Ticket}
use Rattle.iom_driver.specs.Calls.{AnswersRelease, QueuesRelease}
use Rattle.iom_driver.specs.Fences.{last_fence}
use Rattle.iom_driver.specs.Layout.{command_frame, completion_address}
use Rattle.iom_driver.specs.State.{DriverState}
use Rattle.iom_iommu.specs.OwnIommu.{Iommu}
use Rattle.iom_iommu.specs.Parts.{mmio, flights_of}
use Rattle.iom_inflight.specs.Flights.{Flights}
use Rattle.iom_command_queue.specs.declared.command.Command.{Command}
use Rattle.iom_driver.specs.Appends.{AppendsAll, release_commands}
use Rattle.iom_page_table.specs.FirstTables.{unmapped}
use Rattle.iom_ledger.specs.declared.entry.HistoryEntry.TheVariants as entry
use Rattle.iom_base.specs.declared.refusal.Refusal.{Refusal}
use Rattle.iom_machine.specs.declared.outcome.Outcome.{Outcome}
use Rattle.iom_machine.specs.declared.state.State.{State}
use Rattle.iom_machine.specs.Machine as machine
use Rattle.iom_world_effects.specs.Answers.{outcome_of_ticket}
use Rattle.iom_world_effects.specs.Effect.{ReleasesPage}
use Rattle.iom_world_effects.specs.Frames.{ShowsFrames}
use Rattle.iom_world_effects.specs.Parts.{Parts}
use Rattle.iom_world_effects.specs.Shows.{PartsShow}
use Rattle.iom_world_effects.specs.Invariant.{InvariantWith}
use Rattle.iom_world_effects.proofs.DriverLemmas.{DriverInvariant}
use Rattle.iom_world_effects.proofs.FrameLemmas.{shows_kept}
use Rattle.iom_world_refinement.proofs.ReasonLemmas.{release_refused_by, may_release}
use Rattle.iom_world_effects.proofs.UnchangedLemmas.{shows_same, not_owned, length-unmapped}

-- memory has as many frames after commands are appended
pub size_appended : (commands : List Command) (memory memory' : List (List ℕ)) (io io' : Iommu) → AppendsAll mmio memory io commands memory' io' → length memory' ≡ length memory
size_appended [] memory memory' io io' all = ap (λ m. length m) all.0
size_appended (command ∷ later) memory memory' io io' (mid, between, first, rest) = size_appended later mid memory' between io' rest ∙ first.written.frames

-- and after a release
size_released : (d d' : DriverState) (memory memory' : List (List ℕ)) (io io' : Iommu) (id page ticket : ℕ) → QueuesRelease mmio d memory io id page ticket d' memory' io' → length memory' ≡ length memory
size_released d d' memory memory' io io' id page ticket queues =
    size_appended (release_commands id queues.stage page (completion_address (length memory)) (last_fence d + 1)) (unmapped (size_in queues.stage.mode) memory queues.stage.root page) memory' io io' queues.queued
    ∙ length-unmapped (size_in queues.stage.mode) memory queues.stage.root page

-- the accesses in flight stay, through writes of registers
pub flights_appended : (commands : List Command) (memory memory' : List (List ℕ)) (io io' : Iommu) → AppendsAll mmio memory io commands memory' io' → flights_of io' ≡ flights_of io
flights_appended [] memory memory' io io' all = ap flights_of all.1
flights_appended (command ∷ later) memory memory' io io' (mid, between, first, rest) =
    flights_appended later mid memory' between io' rest ∙ ap (λ (i : Iommu). flights_of i) first.rung

-- a frame that is nobody's isn't the ring's
pub not_ring : (owners : List (Option Owner)) (frame frames : ℕ) → slice_get owners (command_frame frames) ≡ Some (Some System) → slice_get owners frame ≡ Some None → frame ≢ command_frame frames
not_ring owners frame frames ring free same = not_owned owners (command_frame frames) System (subst (λ f. slice_get owners f ≡ Some None) same free) ring

-- the machine's state after it
abbrev pub released : State → ℕ → ℕ → ℕ → State
released state id page ticket = record state { history = entry.Released id page ticket ∷ state.history; last_ticket = ticket }

shows_released : (old new : Parts) (id page ticket : ℕ) → length old.memory ≡ length old.driver.owners → DriverInvariant old.driver
    → QueuesRelease mmio old.driver old.memory old.iommu id page ticket new.driver new.memory new.iommu → new.devices ≡ old.devices
    → (state : State) → PartsShow old state → PartsShow new (released state id page ticket)
shows_released old new id page ticket many invariants queues devices state shows =
    let d = old.driver in
    let flights = flights_appended (release_commands id queues.stage page (completion_address (length old.memory)) (last_fence d + 1)) (unmapped (size_in queues.stage.mode) old.memory queues.stage.root page) new.memory old.iommu new.iommu queues.queued in
    let next : ticket ≡ d.given + 1 = queues.next in
    let ordered = invariants.tickets.ordered in
    let ring = subst (λ n. slice_get d.owners (command_frame n) ≡ Some (Some System)) (sym many) invariants.fixed.command in
    let frames = shows_kept old.memory new.memory d.owners state.frames shows.frames
    (λ k free. queues.others k (not_owned d.owners k (OneDevice id) free) (not_ring d.owners k (length old.memory) ring free))
    (size_released d new.driver old.memory new.memory old.iommu new.iommu id page ticket queues) in
    record {
      ledger = queues.agrees state.history shows.ledger (shows.none_later ticket (omega (arith, next, ordered)));
      frames = subst (λ ms. ShowsFrames new.memory ms state.frames) (sym (ap (λ (x : DriverState). x.owners) queues.driver)) frames;
      devices = rw (devices, ap (λ (f : Flights). f.rows) flights, ap (λ (x : DriverState). x.devices) queues.driver) shows.devices;
      given = sym (ap (λ (x : DriverState). x.given) queues.driver);
      confirmed = shows.confirmed ∙ sym (ap (λ (x : DriverState). x.confirmed) queues.driver);
      all_earlier = rw (ap (λ (x : DriverState). x.confirmed) queues.driver) shows.all_earlier;
      none_later = rw (ap (λ (x : DriverState). x.confirmed) queues.driver) shows.none_later;
      levels = shows.levels ∙ sym (ap (λ (x : DriverState). x.levels) queues.driver);
      limits = shows.limits;
    }

pub release_step : {walks : List Walk} (old new : Parts) (events id page : ℕ) (reply : Outcome) → InvariantWith walks old events → DriverInvariant old.driver → ReleasesPage old id page reply new
    → (state : State) → PartsShow old state → (next : State) × machine.Releases state id page reply next × PartsShow new next
release_step old new events id page reply invariants driver_invariant effect state shows = by effect.answer effect.reply_is effect.call
  where
    by : (answer : Result Ticket Refusal) → reply ≡ outcome_of_ticket answer → AnswersRelease mmio old.driver old.memory old.iommu id page answer new.driver new.memory new.iommu
        → (next : State) × machine.Releases state id page reply next × PartsShow new next
    by (Ok ticket) is call = (
      released state id page ticket.0,
      subst (λ t. machine.Releases state id page t (released state id page ticket.0)) (sym is)
          (may_release old events state id page invariants shows call.0, inl (call.1.next ∙ ap (λ n. n + 1) (sym shows.given)), refl),
      shows_released old new id page ticket.0 invariants.ready.stand.size driver_invariant call.1 effect.devices state shows,
    )
    by (Err why) is call = (
      state,
      subst (λ t. machine.Releases state id page t state) (sym is) (release_refused_by old events state id page why invariants shows call.0, refl),
      shows_same old new state call.2 (ap (λ (i : Iommu). flights_of i) call.3) effect.devices call.1 shows,
    )
