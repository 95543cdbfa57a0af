-- What stays true of a world where only messages, the devices' caches and the open requests to invalidate change.
use Rattle.std.proofs.Common.{◌≡◌, ◌^◌, ◌<◌, ◌≤◌, ◌⊎◌, ◌∙◌, ℕ, is_some, List, length, Contains, Some, refl, sym, ap, subst}
use Rattle.std.specs.Option.{option_map}
use Rattle.std.specs.List.{All}
use Rattle.std.proofs.Math.Logic.{∥∥₁_map}
use Rattle.iom_walk_coherence.specs.Walks.{Walk}
use Rattle.iom_command_queue.specs.Waiting.{commands_in}
use Rattle.iom_coherence.specs.Deliveries.{MayBeSent}
use Rattle.iom_coherence.specs.Faithful.{IsFaithful}
use Rattle.iom_coherence.specs.Scene.{AtsMessage, Scene}
use Rattle.iom_driver.specs.Fences.{last_fence, fence_of}
use Rattle.iom_driver.specs.Devices.{attachment_by_id, owned_stages_of}
use Rattle.iom_driver.specs.Directory.{context_for}
use Rattle.iom_driver.specs.Layout.{completion_address}
use Rattle.iom_driver.specs.Ready.{IsReady}
use Rattle.iom_driver.specs.State.{DriverState}
use Rattle.iom_fabric.specs.declared.fabric.OnLink.{OnLink}
use Rattle.iom_inflight.specs.Flights.{Flights}
use Rattle.iom_iommu.specs.Parts.{registers_of, contexts_of, translations_of, flights_of, fence_snapshot_of, slots_of, frames_of}
use Rattle.iom_registers.specs.declared.registers.Registers.{Registers}
use Rattle.iom_registers.specs.Queues.{command_status}
use Rattle.iom_tlb.specs.Content.{Key}
use Rattle.iom_device.specs.Caches.{epoch_in, kind_in}
use Rattle.iom_world_effects.specs.Devices.{shown_attachment}
use Rattle.iom_iommu.specs.OwnIommu.{Iommu}
use Rattle.iom_world_effects.specs.Parts.{Parts}
use Rattle.iom_world_effects.specs.Queued.{completed_in}
use Rattle.iom_world_effects.specs.Read.{space_at, values_of, accesses_of}
use Rattle.iom_world_effects.specs.Scenes.{IsSceneOf, HasSceneWith}
use Rattle.iom_world_effects.specs.Invariant.{InvariantWith, AreKnown, HasAsker}
use Rattle.iom_world_effects.specs.Traffic.{messages_in}
use Rattle.iom_world_effects.proofs.InvariantLemmas.{still_unmarked}
use Rattle.iom_world_effects.proofs.MessageScenes.{KeepsRest, carry_scene}

-- of the IOMMU nothing changes but which requests to invalidate are open
pub record KeepsIommu (old new : Iommu) : Type 0 where
  pub registers : registers_of new ≡ registers_of old
  pub contexts : (id : ℕ) → contexts_of new id ≡ contexts_of old id
  pub translations : (key : Key) → translations_of new key ≡ translations_of old key
  pub flights : flights_of new ≡ flights_of old
  pub fence_snapshot : fence_snapshot_of new ≡ fence_snapshot_of old
  pub frames : frames_of new ≡ frames_of old
  pub last : (slots_of new).last ≡ (slots_of old).last

pub keeps_iommu : (old new : Iommu) → new ≡ old → KeepsIommu old new
keeps_iommu old new same = record {
  registers = ap registers_of same;
  contexts = λ id. ap (λ (i : Iommu). contexts_of i id) same;
  translations = λ key. ap (λ (i : Iommu). translations_of i key) same;
  flights = ap flights_of same;
  fence_snapshot = ap fence_snapshot_of same;
  frames = ap frames_of same;
  last = ap (λ (i : Iommu). (slots_of i).last) same;
}

-- memory and driver are the same, and so is what each device is
pub record KeepsParts (old new : Parts) : Type 0 where
  pub memory : new.memory ≡ old.memory
  pub driver : new.driver ≡ old.driver
  pub iommu : KeepsIommu old.iommu new.iommu
  pub kinds : (d : ℕ) → kind_in new.devices d ≡ kind_in old.devices d

pub rest_kept : (old new : Parts) → KeepsParts old new → KeepsRest (values_of old) (values_of new)
rest_kept old new keeps = record {
  grants = record {
    ledger = ap (λ (d : DriverState). d.ledger) keeps.driver;
    address = ap (λ m. completion_address (length m)) keeps.memory;
    given = ap (λ (d : DriverState). d.given) keeps.driver;
    confirmed = ap (λ (d : DriverState). d.confirmed) keeps.driver;
    last_fence = ap (λ (d : DriverState). last_fence d) keeps.driver;
    fences = ap (λ (d : DriverState). fence_of d) keeps.driver;
    stopped = ap (λ (r : Registers). (command_status r).cmd_to) keeps.iommu.registers;
    kinds = keeps.kinds;
    attachments = λ id. ap (λ (d : DriverState). shown_attachment (attachment_by_id d.devices id)) keeps.driver;
    spaces = λ id. ap (λ (d : DriverState). space_at d.devices id) keeps.driver;
  };
  waiting = ap (λ m. commands_in m (registers_of new.iommu)) keeps.memory ∙ ap (commands_in old.memory) keeps.iommu.registers;
  completed = ap completed_in keeps.memory;
  fence_snapshot = keeps.iommu.fence_snapshot;
  so_far = ap (λ (f : Flights). f.so_far) keeps.iommu.flights;
  in_flight = ap (λ (f : Flights). accesses_of f.rows) keeps.iommu.flights;
  contexts = λ d is. sym (ap is_some (keeps.iommu.contexts d)) ∙ is;
  translations = λ key translation at. sym (keeps.iommu.translations key) ∙ at;
}

-- SO ALL STAYS TRUE, where the facts on copies do
pub traffic_sound : {walks left : List Walk} (old new : Parts) (events : ℕ) → InvariantWith walks old events → KeepsParts old new → AreKnown new → ((id : ℕ) → epoch_in new.devices id ≤ events)
    → (HasSceneWith (values_of old) walks → HasSceneWith (values_of new) left) → InvariantWith left new events
traffic_sound old new events invariants keeps known epochs scenes = record {
  ready = subst (IsReady new.driver new.memory) (sym keeps.iommu.registers)
      (subst (λ m. IsReady new.driver m (registers_of old.iommu)) (sym keeps.memory) (subst (λ (d : DriverState). IsReady d old.memory (registers_of old.iommu)) (sym keeps.driver) invariants.ready));
  started = ap (λ (d : DriverState). d.started) keeps.driver ∙ invariants.started;
  unmarked = still_unmarked (registers_of old.iommu) (registers_of new.iommu) (ap command_status keeps.iommu.registers) invariants.unmarked;
  size = keeps.iommu.frames ∙ invariants.size ∙ sym (ap (λ m. length m) keeps.memory);
  known = known;
  small = subst (λ (d : DriverState). d.given < 2 ^ 32) (sym keeps.driver) invariants.small;
  counted = subst (λ (f : Flights). f.so_far ≤ events) (sym keeps.iommu.flights) invariants.counted;
  serials = subst (λ (n : ℕ). n ≤ events) (sym keeps.iommu.last) invariants.serials;
  epochs = epochs;
  contexts = λ id context at.
      subst (λ (d : DriverState). option_map context_for (owned_stages_of d.devices id) ≡ Some context) (sym keeps.driver)
      (invariants.contexts id context (sym (keeps.iommu.contexts id) ∙ at));
  copies = ∥∥₁_map invariants.copies scenes;
}

-- MESSAGES ALONE CHANGE: each that is under way then may be sent, or was under way before; questions are those of devices that are plugged in
pub carried_sound : {walks : List Walk} (old : Parts) (fabric : List OnLink) (events : ℕ) → InvariantWith walks old events → All (HasAsker old.devices) fabric
    → ((scene : Scene) → IsSceneOf (values_of old) scene → IsFaithful scene → (message : AtsMessage) → Contains (messages_in fabric) message → MayBeSent scene message ⊎ Contains scene.messages message)
    → InvariantWith walks (record old { fabric = fabric }) events
carried_sound {walks = walks} old fabric events invariants askers may =
    let new : Parts = record old { fabric = fabric } in
    let keeps : KeepsParts old new = record { memory = refl; driver = refl; iommu = keeps_iommu old.iommu old.iommu refl; kinds = λ d. refl } in
    traffic_sound old new events invariants keeps
    (record {
      own_ids = invariants.known.own_ids;
      driver = invariants.known.driver;
      iommu = invariants.known.iommu;
      caches = invariants.known.caches;
      trusted = invariants.known.trusted;
      askers = askers;
    })
    invariants.epochs (carry_scene (values_of old) (values_of new) (messages_in fabric) (rest_kept old new keeps) refl may walks)
