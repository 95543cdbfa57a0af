-- A fence that waits for devices is given up: what stays true of a world, of what waits in it, and of what it shows.
use Rattle.std.proofs.Common.{◌≡◌, ◌∙◌, ℕ, Bool, true, false, List, [], None, refl, sym, ap, subst, if◌then◌else◌}
use Rattle.std.proofs.Math.Logic.{∥∥₁_map}
use Rattle.iom_command_queue.specs.Waiting.{commands_in}
use Rattle.iom_coherence.specs.Transitions.{TimeOut}
use Rattle.iom_coherence.specs.Scene.{Scene}
use Rattle.iom_walk_coherence.specs.Walks.{Walk}
use Rattle.iom_world_effects.proofs.FactsKept.{facts_kept}
use Rattle.iom_driver.specs.Ready.{IsReady}
use Rattle.iom_driver.specs.State.{DriverState}
use Rattle.iom_fault_queue.specs.Ring.{records_in}
use Rattle.iom_iommu.specs.Parts.{registers_of, flights_of}
use Rattle.iom_iommu.specs.Timeouts.{timed_out, TimesFenceOut}
use Rattle.iom_machine.specs.declared.outcome.Outcome.{Outcome}
use Rattle.iom_machine.specs.declared.outcome.Outcome.TheVariants as outcome
use Rattle.iom_machine.specs.declared.state.State.{State}
use Rattle.iom_machine.specs.Machine as machine
use Rattle.iom_registers.specs.declared.registers.Registers.{Registers}
use Rattle.iom_registers.specs.Queues.{with_cmd_to}
use Rattle.iom_world_effects.specs.Unchanged.{waiting_in}
use Rattle.iom_iommu.specs.OwnIommu.{Iommu}
use Rattle.iom_world_effects.specs.Parts.{Parts}
use Rattle.iom_world_effects.specs.Read.{values_of}
use Rattle.iom_world_effects.specs.Recovery.{TimesOutFence}
use Rattle.iom_world_effects.specs.Scenes.{Values, HasSceneWith}
use Rattle.iom_world_effects.specs.Shows.{PartsShow}
use Rattle.iom_world_effects.specs.Invariant.{InvariantWith}
use Rattle.iom_world_effects.specs.Traffic.{Traffic}
use Rattle.iom_world_effects.proofs.PartsLemmas.{parts_are}
use Rattle.iom_world_effects.proofs.UnchangedLemmas.{shows_same}

-- the values once a fence was given up
abbrev pub stopped_values : Values → Values
stopped_values values = record values { fence_snapshot = None; is_stopped = true; traffic = record values.traffic { slots = [] } }

timed_out_scene : (values : Values) (walks : List Walk) → HasSceneWith values walks → HasSceneWith (stopped_values values) walks
timed_out_scene values walks (scene, shows, facts) =
    let next : Scene = record scene { slots = []; fence_snapshot = None; is_stopped = true } in (
      next,
      record {
        ledger = shows.ledger;
        waiting = shows.waiting;
        completed = shows.completed;
        last_fence = shows.last_fence;
        pending = shows.pending;
        given = shows.given;
        confirmed = shows.confirmed;
        accepted = shows.accepted;
        in_flight = shows.in_flight;
        kinds = shows.kinds;
        attachments = shows.attachments;
        contexts = shows.contexts;
        translations = shows.translations;
        fence_snapshot = tt;
        leaving = shows.leaving;
        traffic = ap (λ (t : Traffic). record t { slots = [] }) shows.traffic;
        stopped = refl;
      },
      facts_kept TimeOut scene next walks walks refl facts refl,
    )

-- A FENCE IS GIVEN UP: the slots are closed, and no command is taken
pub timeout_scene : (old new : Values) → new ≡ stopped_values old → (walks : List Walk) → HasSceneWith old walks → HasSceneWith new walks
timeout_scene old new is walks has = subst (λ values. HasSceneWith values walks) (sym is) (timed_out_scene old walks has)

-- the world then
abbrev pub stopped_parts : Parts → Parts
stopped_parts parts = record parts { iommu = timed_out parts.iommu }

same_list : (memory : List (List ℕ)) (r : Registers) → commands_in memory (with_cmd_to r) ≡ commands_in memory r
unfolding commands_in
same_list memory r = refl

same_reports : (memory : List (List ℕ)) (r : Registers) → records_in memory (with_cmd_to r) ≡ records_in memory r
unfolding records_in
same_reports memory r = refl

-- the driver is ready still
ready_still : (d : DriverState) (memory : List (List ℕ)) (r : Registers) → IsReady d memory r → IsReady d memory (with_cmd_to r)
ready_still d memory r ready = record {
  stand = ready.stand;
  ring = λ started. let ring = ready.ring started in record { on = ring.on; base = ring.base; entries = ring.entries };
  faults = λ started.
      let ring = ready.faults started in
      record { on = ring.on; base = ring.base; entries = ring.entries; reports = rw (same_reports memory r) ring.reports };
  directory = λ started. let names = ready.directory started in record { mode = names.mode; root = names.root };
}

stopped_sound : {walks : List Walk} (parts : Parts) (events : ℕ) → InvariantWith walks parts events → InvariantWith walks (stopped_parts parts) events
stopped_sound {walks = walks} parts events invariants = record {
  ready = ready_still parts.driver parts.memory (registers_of parts.iommu) invariants.ready;
  started = invariants.started;
  unmarked = record { loaded = invariants.unmarked.loaded; legal = invariants.unmarked.legal };
  size = invariants.size;
  known = record {
    own_ids = invariants.known.own_ids;
    driver = invariants.known.driver;
    iommu = invariants.known.iommu;
    caches = invariants.known.caches;
    trusted = invariants.known.trusted;
    askers = invariants.known.askers;
  };
  small = invariants.small;
  counted = invariants.counted;
  serials = invariants.serials;
  epochs = invariants.epochs;
  contexts = invariants.contexts;
  copies = ∥∥₁_map invariants.copies
      (timeout_scene (values_of parts) (values_of (stopped_parts parts)) (ap (λ l. record (stopped_values (values_of parts)) { waiting = l }) (same_list parts.memory (registers_of parts.iommu))) walks);
}

-- the parts are the same, or those of a fence that was given up
stopped_or_same : (old new : Parts) (reply : Outcome) (answer : Bool) → TimesOutFence old reply new → TimesFenceOut old.iommu answer new.iommu
    → new ≡ (if answer then stopped_parts old else old)
stopped_or_same old new reply true effect call = parts_are new old.memory (timed_out old.iommu) old.driver old.devices old.fabric effect.memory call.1 effect.driver effect.devices effect.fabric
stopped_or_same old new reply false effect call = parts_are new old.memory old.iommu old.driver old.devices old.fabric effect.memory call.1 effect.driver effect.devices effect.fabric

pub keeps_timed_out : {walks : List Walk} (old new : Parts) (events : ℕ) (reply : Outcome) → InvariantWith walks old events → TimesOutFence old reply new → InvariantWith walks new events
keeps_timed_out {walks = walks} old new events reply invariants effect =
    subst (λ (p : Parts). InvariantWith walks p events) (sym (stopped_or_same old new reply effect.answer effect effect.call)) (by effect.answer)
  where
    by : (answer : Bool) → InvariantWith walks (if answer then stopped_parts old else old) events
    by true = stopped_sound old events invariants
    by false = invariants

-- the same commands wait
pub timeout_commands : (old new : Parts) (reply : Outcome) → TimesOutFence old reply new → waiting_in new ≡ waiting_in old
timeout_commands old new reply effect = ap waiting_in (stopped_or_same old new reply effect.answer effect effect.call) ∙ by effect.answer
  where
    by : (answer : Bool) → waiting_in (if answer then stopped_parts old else old) ≡ waiting_in old
    by true = same_list old.memory (registers_of old.iommu)
    by false = refl

-- THE MACHINE SEES NOTHING of it
pub timeout_step : (old new : Parts) (reply : Outcome) → TimesOutFence old reply new → (state : State) → PartsShow old state
    → machine.TimesOut state reply state × PartsShow new state
timeout_step old new reply effect state shows = (
  subst (λ t. machine.TimesOut state t state) (sym effect.reply_is) (by effect.answer),
  shows_same old new state effect.memory (flights effect.answer effect.call) effect.devices effect.driver shows,
)
  where
    by : (answer : Bool) → machine.TimesOut state (if answer then outcome.TimedOut else outcome.NoEffect) state
    by true = refl
    by false = refl

    flights : (answer : Bool) → TimesFenceOut old.iommu answer new.iommu → flights_of new.iommu ≡ flights_of old.iommu
    flights true call = ap (λ (i : Iommu). flights_of i) call.1
    flights false call = ap (λ (i : Iommu). flights_of i) call.1
