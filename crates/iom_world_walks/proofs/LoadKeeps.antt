-- What stays true of a world at a load of a request: by what it leaves in the caches, and by the answer that ends it.
use Rattle.std.proofs.Common.{◌≡◌, ℕ, ◌+◌, ◌/◌, ◌<◌, ◌≤◌, inl, ◌∙◌, Bool, is_some, List, length, Result, Ok, slice_get, sym, ap, subst, arith}
use Rattle.iom_base.specs.Sizes.{page_size}
use Rattle.iom_base.specs.declared.access.Access.{Access}
use Rattle.iom_base.specs.declared.cause.Cause.{Cause}
use Rattle.iom_coherence.specs.Among.{AreAmongWith}
use Rattle.iom_driver.specs.Devices.{attachment_by_id}
use Rattle.iom_fault_queue.specs.Fields.{untranslated_of}
use Rattle.iom_fault_queue.specs.Records.{record_of}
use Rattle.iom_inflight.specs.Calls.{with_access}
use Rattle.iom_inflight.specs.Flights.{Flights}
use Rattle.iom_iommu.specs.Parts.{iommu_parts, registers_of, contexts_of, translations_of, flights_of, frames_of, slots_of}
use Rattle.iom_iommu.specs.Requests.{faulted_of, fault_of}
use Rattle.iom_iommu.specs.Stepped.{AcceptsTranslation, RecordsFault}
use Rattle.iom_stage_walk.specs.declared.walked.WalkFault.{WalkFault}
use Rattle.iom_tlb.specs.Chosen.{ioatc}
use Rattle.iom_tlb.specs.Content.{TranslationsUnchanged}
use Rattle.iom_tlb.specs.declared.trans_cache.Translation.{Translation}
use Rattle.iom_walk_coherence.specs.Walks.{Walk}
use Rattle.iom_world_effects.specs.Invariant.{InvariantWith, row_ids}
use Rattle.iom_world_effects.specs.Parts.{Parts}
use Rattle.iom_world_effects.specs.Read.{values_of, accesses_of}
use Rattle.iom_world_effects.proofs.DriverLemmas.{DriverInvariant}
use Rattle.iom_world_effects.proofs.PartsLemmas.{StaysReady, StaysReported}
use Rattle.iom_world_effects.proofs.RowLemmas.{accepted_among, row_ids_kept}
use Rattle.iom_world_effects.proofs.SceneSteps.{source_there, accept_scene}
use Rattle.iom_world_effects.proofs.ServedLemmas.{IsAnswered}
use Rattle.iom_world_effects.proofs.SoundFrom.{Leaves, sound_from, queue_kept, grants_kept, report_grants, report_queue, report_sound}
use Rattle.iom_world_invariant.proofs.ContextKeeps.{KeepsAttached, contexts_kept}
use Rattle.iom_world_invariant.proofs.RequestKeeps.{between_values, between_scene, change_of, grants_on, queue_on, record_leaves, served_from, settled_scene}

module _ {walks : List Walk} (old new : Parts) (events id : ℕ) (invariants : InvariantWith walks old events) (own : DriverInvariant old.driver) (driver : new.driver ≡ old.driver)
    (devices : new.devices ≡ old.devices) (fabric : new.fabric ≡ old.fabric) (keeps : KeepsAttached (attachment_by_id old.driver.devices id) id (contexts_of old.iommu) (contexts_of new.iommu)) where
  -- memory and registers stay, and whose rows there are
  leaves_all : new.memory ≡ old.memory → registers_of new.iommu ≡ registers_of old.iommu → frames_of new.iommu ≡ frames_of old.iommu → slots_of new.iommu ≡ slots_of old.iommu
      → row_ids (flights_of new.iommu).rows ≡ row_ids (flights_of old.iommu).rows → Leaves old new
  leaves_all memory registers frames slots rows = record {
    size = ap (λ m. length m) memory;
    reserved = λ frame owner mark. ap (λ m. slice_get m frame) memory;
    registers = registers;
    frames = frames;
    slots = slots;
    rows = rows;
    driver = driver;
    devices = devices;
    fabric = fabric;
  }

  -- NOTHING CHANGES but what is cached of contexts
  pub quiet : StaysReady old.driver → new.memory ≡ old.memory → iommu_parts new.iommu ≡ record (iommu_parts old.iommu) { contexts = new.iommu.contexts; translations = new.iommu.translations }
      → TranslationsUnchanged (translations_of old.iommu) (translations_of new.iommu) → InvariantWith walks new events
  quiet stays_ready memory rest unchanged =
      let flights : flights_of new.iommu ≡ flights_of old.iommu = ap (λ parts. parts.flights) rest in
      let leaves = leaves_all memory (ap (λ parts. parts.registers) rest) (ap (λ parts. parts.frames) rest) (ap (λ parts. parts.slots) rest) (ap (λ (f : Flights). row_ids f.rows) flights) in
      sound_from old new events invariants own leaves stays_ready (subst (λ (f : Flights). f.so_far ≤ events) (sym flights) invariants.counted)
      (contexts_kept old new id invariants.contexts keeps driver)
      (settled_scene old new id (grants_kept old new events invariants own leaves) (queue_kept old new events invariants own leaves (ap (λ parts. parts.fence_snapshot) rest)) flights keeps
      (inl (λ key translation at. sym (unchanged key) ∙ at)) walks)

  -- A FAULT IS RECORDED
  pub recorded : StaysReported old.driver → (access : Access) (translated : Result Translation WalkFault) (cause : Cause)
      → RecordsFault old.memory old.iommu id access translated cause new.memory new.iommu → TranslationsUnchanged (translations_of old.iommu) (translations_of new.iommu) → InvariantWith walks new events
  recorded reported access translated cause call unchanged =
      let flights : flights_of new.iommu ≡ flights_of old.iommu = ap (λ parts. parts.flights) call.rest in
      let leaves = record_leaves old new events (record_of (faulted_of id (untranslated_of access.kind) access.address) (fault_of call.fault)) call.answer invariants reported driver devices fabric
      (ap (λ parts. parts.frames) call.rest) (ap (λ parts. parts.slots) call.rest) flights call.recorded in
      report_sound old new events invariants own leaves (subst (λ (f : Flights). f.so_far ≤ events) (sym flights) invariants.counted) (contexts_kept old new id invariants.contexts keeps driver)
      (settled_scene old new id (report_grants old new events invariants own leaves) (report_queue old new events invariants own leaves (ap (λ parts. parts.fence_snapshot) call.rest)) flights keeps
      (inl (λ key translation at. sym (unchanged key) ∙ at)) walks)

  -- AN ACCESS IS ACCEPTED, as a whole request may be answered
  pub accepted : StaysReady old.driver → (flights_of old.iommu).so_far < events → (access : Access) (translated : Result Translation WalkFault) (number : ℕ)
      → (call : AcceptsTranslation old.memory old.iommu id access translated number new.memory new.iommu)
      → IsAnswered ioatc.SURE old.driver id access.address access.kind (translations_of old.iommu) (Ok call.translation) (translations_of new.iommu) → InvariantWith walks new events
  accepted stays_ready below access translated number call answers =
      let is = call.accepted in
      let so_far = (flights_of old.iommu).so_far in
      let cached : ℕ → Bool = λ d. is_some (contexts_of new.iommu d) in
      let translations = translations_of new.iommu in
      let from = served_from old id access.address access.kind cached translations call.translation own answers in
      let leaves = leaves_all call.memory_stays (ap (λ parts. parts.registers) call.rest) (ap (λ parts. parts.frames) call.rest) (ap (λ parts. parts.slots) call.rest)
      (ap (λ (f : Flights). row_ids f.rows) is.after ∙ row_ids_kept (flights_of old.iommu).rows (with_access is.row (record { access = access; frame = call.translation.frame }) (so_far + 1))) in
      let more : so_far + 1 ≤ events = omega (arith, below) in
      let frame : call.translation.frame ≡ from.1.frame = ap (λ (t : Translation). t.frame) from.2 in
      sound_from old new events invariants own leaves stays_ready (subst (λ (f : Flights). f.so_far ≤ events) (sym is.after) more) (contexts_kept old new id invariants.contexts keeps driver)
      (λ has. accept_scene (between_values old new) (values_of new) id (access.address / page_size) from.1 access.kind
      (grants_on (values_of old) (values_of new) cached translations (grants_kept old new events invariants own leaves))
      (queue_on (values_of old) (values_of new) cached translations (queue_kept old new events invariants own leaves (ap (λ parts. parts.fence_snapshot) call.rest))) (ap (λ (f : Flights). f.so_far) is.after)
      (subst (λ n. AreAmongWith (accesses_of (flights_of new.iommu).rows) (record { device = id; frame = n; kind = access.kind; number = so_far + 1 }) (accesses_of (flights_of old.iommu).rows)) frame
      (subst (λ (f : Flights). AreAmongWith (accesses_of f.rows) (record { device = id; frame = call.translation.frame; kind = access.kind; number = so_far + 1 }) (accesses_of (flights_of old.iommu).rows)) (sym is.after)
      (accepted_among (flights_of old.iommu).rows id is.row (record { access = access; frame = call.translation.frame }) (so_far + 1) is.stands)))
      (λ d there. there) (λ key translation at. at) (λ scene shows. source_there (between_values old new) scene id (access.address / page_size) from.0 from.1 shows from.4) from.3 walks
      (between_scene old new id keeps (change_of old id access.address access.kind translations call.translation answers) walks has))
