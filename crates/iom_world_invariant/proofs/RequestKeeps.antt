-- What stays true of a world when a device asks for an access: what is translated is held, and so no copy outlives it.
use Rattle.std.proofs.Common.{◌≡◌, ◌+◌, ◌/◌, ◌^◌, ◌<◌, ◌≤◌, ◌⊎◌, ◌∙◌, inl, inr, ℕ, Bool, true, is_some, length, Option, Some, None, option_map, Result, Ok, Err, slice_get, refl, sym, ap, subst, arith, List}
use Rattle.iom_base.specs.declared.access.Access.{Access}
use Rattle.iom_base.specs.declared.access.AccessKind.{AccessKind}
use Rattle.iom_base.specs.declared.cause.Cause.{Cause}
use Rattle.iom_base.specs.Rights.{allows}
use Rattle.iom_coherence.specs.Among.{AreAmong, AreAmongWith}
use Rattle.iom_driver.specs.declared.device.Stages.{Stages}
use Rattle.iom_driver.specs.Devices.{attachment_by_id, owned_stages}
use Rattle.iom_fault_queue.specs.declared.ring.Put.{Put}
use Rattle.iom_fault_queue.specs.Calls.{PutsRecord}
use Rattle.iom_fault_queue.specs.Records.{record_of}
use Rattle.iom_inflight.specs.Calls.{with_access}
use Rattle.iom_inflight.specs.Flights.{Flights}
use Rattle.iom_iommu.specs.declared.reply.Reply.{Reply}
use Rattle.iom_iommu.specs.declared.reply.Reply.TheVariants.{Accepted, Busy, BadSpan, Fault}
use Rattle.iom_iommu.specs.Parts.{registers_of, contexts_of, translations_of, flights_of, frames_of, slots_of}
use Rattle.iom_fault_queue.specs.declared.transaction.Transaction.{Transaction}
use Rattle.iom_fault_queue.specs.Fields.{Fields}
use Rattle.iom_iommu.specs.Requests.{IommuAccepts, Refuses, faulted_of, fault_of, AnswersRequest, AcceptsRequest, RefusesRequest}
use Rattle.iom_machine.specs.declared.outcome.Outcome.{Outcome}
use Rattle.iom_stage_walk.specs.declared.walked.WalkFault.{WalkFault}
use Rattle.iom_machine.specs.declared.state.Attachment.TheVariants as shown
use Rattle.iom_base.specs.declared.device_kind.DeviceKind.{DeviceKind}
use Rattle.iom_base.specs.declared.mode.Mode.{Mode}
use Rattle.iom_tlb.specs.declared.space.Space.{Space}
use Rattle.iom_tlb.specs.declared.trans_cache.Translation.{Translation}
use Rattle.iom_tlb.specs.Chosen.{ioatc}
use Rattle.iom_tlb.specs.Content.{Key, Translations, Keeps, TranslationsUnchanged}
use Rattle.iom_tlb.proofs.KeyLemmas.{one_or_other}
use Rattle.iom_world_effects.specs.Devices.{shown_attachment}
use Rattle.iom_world_effects.specs.Parts.{Parts}
use Rattle.iom_world_effects.specs.Read.{space_in, values_of, accesses_of}
use Rattle.iom_world_effects.specs.Requests.{AsksAccess}
use Rattle.iom_walk_coherence.specs.Walks.{Walk}
use Rattle.iom_world_effects.specs.Scenes.{Values, copy_of, HasSceneWith}
use Rattle.iom_world_effects.specs.Invariant.{InvariantWith, row_ids}
use Rattle.iom_world_invariant.proofs.ContextKeeps.{KeepsAttached, keeps_attached, cached_or, contexts_kept}
use Rattle.iom_world_effects.proofs.DriverLemmas.{DriverInvariant}
use Rattle.iom_world_effects.proofs.CachedMay.{one_space}
use Rattle.iom_world_effects.proofs.PartsLemmas.{StaysReady, StaysReported, parts_are}
use Rattle.iom_world_effects.proofs.RowLemmas.{accepted_among, row_ids_kept}
use Rattle.iom_world_effects.proofs.SceneSteps.{KeepsGrants, KeepsQueue, KeepsWalked, IsServedFrom, HasSource, source_there, keep_scene, walk_scene, accept_scene, make_scene}
use Rattle.iom_world_effects.proofs.ServedLemmas.{ServiceLaws, IsAnswered, served}
use Rattle.iom_world_effects.proofs.SoundFrom.{Leaves, sound_from, queue_kept, grants_kept, LeavesReport, report_grants, report_queue, report_sound}

-- the values of a world where these contexts and translations are cached, and else nothing changed
abbrev pub cached_so : Values → (ℕ → Bool) → Translations → Values
cached_so values cached translations = record values { is_cached = cached; translations = translations }

grants_same : (values : Values) (cached : ℕ → Bool) (translations : Translations) → KeepsGrants values (cached_so values cached translations)
grants_same values cached translations = record { ledger = refl; address = refl; given = refl; confirmed = refl; last_fence = refl; fences = refl; stopped = refl; kinds = λ d. refl; attachments = λ d. refl; spaces = λ d. refl }

queue_same : (values : Values) (cached : ℕ → Bool) (translations : Translations) → KeepsQueue values (cached_so values cached translations)
queue_same values cached translations = record { waiting = refl; completed = refl; fence_snapshot = refl; traffic = refl }

-- a scene of a world stays one where a request kept a context
kept_scene : (values : Values) (cached : ℕ → Bool) (id : ℕ) → (((d : ℕ) → cached d ≡ true → values.is_cached d ≡ true)
    ⊎ ((mode : Mode) × (ats : Bool) × (values.attachment_of id ≡ shown.Attached mode ats) × ((d : ℕ) → cached d ≡ true → (values.is_cached d ≡ true) ⊎ (d ≡ id))))
    → (walks : List Walk) → HasSceneWith values walks → HasSceneWith (cached_so values cached values.translations) walks
kept_scene values cached id (inl before) walks has =
    make_scene values (cached_so values cached values.translations) (grants_same values cached values.translations) (queue_same values cached values.translations)
    refl (λ x there. there) before (λ key translation at. at) walks has
kept_scene values cached id (inr (mode, ats, attached, either)) walks has =
    keep_scene values (cached_so values cached values.translations) id mode ats (grants_same values cached values.translations) (queue_same values cached values.translations)
    refl refl (λ key translation at. at) attached either walks has

-- and one where it kept a translation
abbrev pub TranslationsChange : Values → ℕ → Translations → Type 0
TranslationsChange values id translations =
    ((key : Key) (translation : Translation) → translations key ≡ Some translation → values.translations key ≡ Some translation)
    ⊎ ((page : ℕ) × (space : Space) × (translation : Translation) × KeepsWalked values (record values { translations = translations }) id page space translation)

translated_scene : (values : Values) (translations : Translations) (id : ℕ) → TranslationsChange values id translations
    → (walks : List Walk) → HasSceneWith values walks → HasSceneWith (cached_so values values.is_cached translations) walks
translated_scene values translations id (inl less) walks has =
    make_scene values (cached_so values values.is_cached translations) (grants_same values values.is_cached translations) (queue_same values values.is_cached translations)
    refl (λ x there. there) (λ d is. is) less walks has
translated_scene values translations id (inr (page, space, translation, walked)) walks has =
    walk_scene values (cached_so values values.is_cached translations) id page space translation (grants_same values values.is_cached translations)
    (queue_same values values.is_cached translations) refl refl (λ d is. is) walked walks has

-- what a keep leaves: what was there, or the translation that is kept
kept_or : (sure : Bool) (old new : Translations) (at : Key) (translation : Translation) → Keeps sure old at translation new
    → (key : Key) (other : Translation) → new key ≡ Some other → (old key ≡ Some other) ⊎ ((key ≡ at) × (other ≡ translation))
kept_or sure old new at translation (inr (unsure, none, unchanged)) key other there = inl (sym (unchanged key) ∙ there)
kept_or sure old new at translation (inl sets) key other there = elim (one_or_other key at) [
  | inl same ↦ inr (same, some_same other translation (sym there ∙ ap new same ∙ sets.kept))
  | inr apart ↦ elim (sets.others.1 key apart) [
    | inl unchanged ↦ inl (sym unchanged ∙ there)
    | inr gone ↦ absurd (none_some (sym gone.1 ∙ there))
  ]
]
  where
    some_same : (x y : Translation) → Some x ≡ Some y → x ≡ y
    some_same x y same = cc

    none_some : ◌≡◌ {A = Option Translation} None (Some other) → ⊥
    none_some same = cc

-- the values of a world where contexts and translations are cached as then, and else nothing changed
abbrev pub between_values : Parts → Parts → Values
between_values old new = cached_so (values_of old) (λ d. is_some (contexts_of new.iommu d)) (translations_of new.iommu)

-- by what is kept of contexts and of translations
pub between_scene : (old new : Parts) (id : ℕ) → KeepsAttached (attachment_by_id old.driver.devices id) id (contexts_of old.iommu) (contexts_of new.iommu)
    → TranslationsChange (values_of old) id (translations_of new.iommu) → (walks : List Walk) → HasSceneWith (values_of old) walks → HasSceneWith (between_values old new) walks
between_scene old new id keeps change walks has =
    kept_scene (cached_so (values_of old) (values_of old).is_cached (translations_of new.iommu)) (λ d. is_some (contexts_of new.iommu d)) id (by keeps) walks
    (translated_scene (values_of old) (translations_of new.iommu) id change walks has)
  where
    by : KeepsAttached (attachment_by_id old.driver.devices id) id (contexts_of old.iommu) (contexts_of new.iommu)
        → ((d : ℕ) → is_some (contexts_of new.iommu d) ≡ true → is_some (contexts_of old.iommu d) ≡ true)
        ⊎ ((mode : Mode) × (ats : Bool) × (shown_attachment (attachment_by_id old.driver.devices id) ≡ shown.Attached mode ats)
        × ((d : ℕ) → is_some (contexts_of new.iommu d) ≡ true → (is_some (contexts_of old.iommu d) ≡ true) ⊎ (d ≡ id)))
    by (inl same) = inl (λ d there. ap is_some (sym (same d)) ∙ there)
    by (inr (stage, is, one)) = inr (
      stage.mode,
      stage.ats,
      ap shown_attachment is,
      cached_or (attachment_by_id old.driver.devices id) id (contexts_of old.iommu) (contexts_of new.iommu) (inr (stage, is, one)),
    )

-- between those values and the new ones little lies
pub grants_on : (old new : Values) (cached : ℕ → Bool) (translations : Translations) → KeepsGrants old new → KeepsGrants (cached_so old cached translations) new
grants_on old new cached translations grants =
    record {
      ledger = grants.ledger;
      address = grants.address;
      given = grants.given;
      confirmed = grants.confirmed;
      last_fence = grants.last_fence;
      fences = grants.fences;
      stopped = grants.stopped;
      kinds = grants.kinds;
      attachments = grants.attachments;
      spaces = grants.spaces;
    }

pub queue_on : (old new : Values) (cached : ℕ → Bool) (translations : Translations) → KeepsQueue old new → KeepsQueue (cached_so old cached translations) new
queue_on old new cached translations queue = record { waiting = queue.waiting; completed = queue.completed; fence_snapshot = queue.fence_snapshot; traffic = queue.traffic }

-- what becomes of the cached translations where the service answers so: they stay, or that of a held page is kept
pub change_of : (old : Parts) (id address : ℕ) (kind : AccessKind) (translations : Translations) (answer : Translation)
    → IsAnswered ioatc.SURE old.driver id address kind (translations_of old.iommu) (Ok answer) translations → TranslationsChange (values_of old) id translations
change_of old id address kind translations answer (inl reaches) = inr (
  address / 4096,
  space_in reaches.stage.mode reaches.stage.number,
  reaches.translation,
  record {
    mode = reaches.stage.mode;
    ats = reaches.stage.ats;
    attached = ap shown_attachment reaches.attached;
    own = ap (λ a. option_map (λ (stage : Stages). space_in stage.mode stage.number) (owned_stages a)) reaches.attached;
    held = reaches.held;
    either = kept_or ioatc.SURE (translations_of old.iommu) translations (space_in reaches.stage.mode reaches.stage.number, address / 4096) reaches.translation reaches.kept;
  },
)
change_of old id address kind translations answer (inr finds) = inl (λ key translation at. sym (finds.unchanged key) ∙ at)

-- what it is served from, whatever contexts are cached
pub served_from : (old : Parts) (id address : ℕ) (kind : AccessKind) (cached : ℕ → Bool) (translations : Translations) (answer : Translation) → DriverInvariant old.driver
    → IsAnswered ioatc.SURE old.driver id address kind (translations_of old.iommu) (Ok answer) translations
    → (space : Space) × (translation : Translation) × (answer ≡ translation) × (allows translation.rights kind ≡ true)
    × IsServedFrom (cached_so (values_of old) cached translations) id (address / 4096) space translation
served_from old id address kind cached translations answer own (inl reaches) = (
  space_in reaches.stage.mode reaches.stage.number,
  reaches.translation,
  reaches.answer_is,
  reaches.allowed,
  inl (reaches.stage.mode, reaches.stage.ats, ap shown_attachment reaches.attached, reaches.held),
)
served_from old id address kind cached translations answer own (inr finds) = (
  space_in finds.stage.mode finds.stage.number,
  finds.translation,
  finds.answer_is,
  finds.allowed,
  inr (
    finds.unchanged (space_in finds.stage.mode finds.stage.number, address / 4096) ∙ finds.cached,
    (λ d at. one_space old.driver own id d finds.stage finds.owned at),
  ),
)

-- where nothing else changed but what is cached, and perhaps the fault queue, the facts on copies stay
pub settled_scene : (old new : Parts) (id : ℕ) → KeepsGrants (values_of old) (values_of new) → KeepsQueue (values_of old) (values_of new) → flights_of new.iommu ≡ flights_of old.iommu
    → KeepsAttached (attachment_by_id old.driver.devices id) id (contexts_of old.iommu) (contexts_of new.iommu) → TranslationsChange (values_of old) id (translations_of new.iommu)
    → (walks : List Walk) → HasSceneWith (values_of old) walks → HasSceneWith (values_of new) walks
settled_scene old new id grants queue flights keeps change walks has =
    let cached : ℕ → Bool = λ d. is_some (contexts_of new.iommu d) in
    make_scene (between_values old new) (values_of new) (grants_on (values_of old) (values_of new) cached (translations_of new.iommu) grants)
    (queue_on (values_of old) (values_of new) cached (translations_of new.iommu) queue) (ap (λ (f : Flights). f.so_far) flights)
    (subst (λ (f : Flights). AreAmong (accesses_of f.rows) (accesses_of (flights_of old.iommu).rows)) (sym flights) (λ x there. there))
    (λ d there. there) (λ key translation at. at) walks (between_scene old new id keeps change walks has)

-- where a record is put into the fault queue, memory changes in its frame alone
pub record_leaves : {walks : List Walk} (old new : Parts) (events : ℕ) (fields : Fields) (answer : Put) → InvariantWith walks old events → StaysReported old.driver → new.driver ≡ old.driver → new.devices ≡ old.devices
    → new.fabric ≡ old.fabric → frames_of new.iommu ≡ frames_of old.iommu → slots_of new.iommu ≡ slots_of old.iommu → flights_of new.iommu ≡ flights_of old.iommu
    → PutsRecord old.memory (registers_of old.iommu) fields answer new.memory (registers_of new.iommu) → LeavesReport old new
record_leaves old new events fields answer invariants reported driver devices fabric frames slots flights recorded =
    let after = reported old.memory new.memory (registers_of old.iommu) (registers_of new.iommu) fields answer invariants.ready invariants.started recorded in
    record {
      ready = rw driver after.0;
      else_same = after.1;
      frames = frames;
      slots = slots;
      flights = flights;
      driver = driver;
      devices = devices;
      fabric = fabric;
    }

-- as where a request is refused, of whatever transaction
pub report_leaves : {walks : List Walk} {Served : Result Translation WalkFault → Translations → Type 0} {transaction : Transaction} (old new : Parts) (events id : ℕ) (access : Access) → InvariantWith walks old events
    → StaysReported old.driver → new.driver ≡ old.driver → new.devices ≡ old.devices → new.fabric ≡ old.fabric
    → (cause : Cause) → Refuses Served transaction old.memory old.iommu id access cause new.memory new.iommu → LeavesReport old new
report_leaves {transaction = transaction} old new events id access invariants reported driver devices fabric cause call =
    record_leaves old new events (record_of (faulted_of id transaction access.address) (fault_of call.fault)) call.answer invariants reported driver devices fabric
    (ap (λ parts. parts.frames) call.rest) (ap (λ parts. parts.slots) call.rest) (ap (λ parts. parts.flights) call.rest) call.recorded

module _ {walks : List Walk} (laws : ServiceLaws) (old new : Parts) (events id : ℕ) (access : Access) (invariants : InvariantWith walks old events) (own : DriverInvariant old.driver) (stays_ready : StaysReady old.driver) (report_ready : StaysReported old.driver)
    (driver : new.driver ≡ old.driver) (devices : new.devices ≡ old.devices) (fabric : new.fabric ≡ old.fabric) (below : (flights_of old.iommu).so_far < events) where
  abbrev cached : ℕ → Bool
  cached d = is_some (contexts_of new.iommu d)

  abbrev translations : Translations
  translations = translations_of new.iommu

  leaves_asked : new.memory ≡ old.memory → registers_of new.iommu ≡ registers_of old.iommu → frames_of new.iommu ≡ frames_of old.iommu → slots_of new.iommu ≡ slots_of old.iommu → row_ids (flights_of new.iommu).rows ≡ row_ids (flights_of old.iommu).rows → Leaves old new
  leaves_asked memory registers frames slots rows = record {
    size = ap (λ m. length m) memory;
    reserved = λ frame owner mark. ap (λ m. slice_get m frame) memory;
    registers = registers;
    frames = frames;
    slots = slots;
    rows = rows;
    driver = driver;
    devices = devices;
    fabric = fabric;
  }

  -- a request is refused, of whatever transaction: what is cached of translations stays, and the context that was found is kept
  pub keeps_refused : {Served : Result Translation WalkFault → Translations → Type 0} {transaction : Transaction} (cause : Cause) → Refuses Served transaction old.memory old.iommu id access cause new.memory new.iommu
      → TranslationsUnchanged (translations_of old.iommu) (translations_of new.iommu) → InvariantWith walks new events
  keeps_refused cause call unchanged =
      let keeps = keeps_attached laws old events invariants own id (contexts_of new.iommu) call.contexts in
      let leaves = report_leaves old new events id access invariants report_ready driver devices fabric cause call in
      report_sound old new events invariants own leaves (subst (λ (f : Flights). f.so_far ≤ events) (sym (ap (λ parts. parts.flights) call.rest)) invariants.counted)
      (contexts_kept old new id invariants.contexts keeps driver)
      (settled_scene old new id (report_grants old new events invariants own leaves) (report_queue old new events invariants own leaves (ap (λ parts. parts.fence_snapshot) call.rest)) (ap (λ parts. parts.flights) call.rest) keeps
      (inl (λ key translation at. sym (unchanged key) ∙ at)) walks)

  keeps_fault : access.address < 2 ^ 64 → (cause : Cause) → RefusesRequest old.memory old.iommu id access cause new.memory new.iommu → InvariantWith walks new events
  keeps_fault fits cause call =
      keeps_refused cause call
      (served laws old events invariants own id access.address access.kind ioatc.SURE (translations_of old.iommu) (translations_of new.iommu) (Err call.fault) fits call.served).1

  -- an access is accepted on the frame of a copy, which the scene has to serve it from
  pub keeps_accepted : {Served : Result Translation WalkFault → Translations → Type 0} (page : ℕ) (translation : Translation) → new.memory ≡ old.memory → (number : ℕ)
      → (call : IommuAccepts Served old.memory old.iommu id access number new.iommu) → call.frame ≡ translation.frame → allows translation.rights access.kind ≡ true
      → TranslationsChange (values_of old) id (translations_of new.iommu) → HasSource (cached_so (values_of old) (λ d. is_some (contexts_of new.iommu d)) (translations_of new.iommu)) (copy_of id page translation) → InvariantWith walks new events
  keeps_accepted page translation memory number call frame allowed change source =
      let keeps = keeps_attached laws old events invariants own id (contexts_of new.iommu) call.contexts in
      let is = call.accepted in
      let so_far = (flights_of old.iommu).so_far in
      let leaves = leaves_asked memory (ap (λ parts. parts.registers) call.rest) (ap (λ parts. parts.frames) call.rest) (ap (λ parts. parts.slots) call.rest)
      (ap (λ (f : Flights). row_ids f.rows) is.after ∙ row_ids_kept (flights_of old.iommu).rows (with_access is.row (record { access = access; frame = call.frame }) (so_far + 1))) in
      let more : so_far + 1 ≤ events = omega (arith, below) in
      sound_from old new events invariants own leaves stays_ready (subst (λ (f : Flights). f.so_far ≤ events) (sym is.after) more)
      (contexts_kept old new id invariants.contexts keeps driver)
      (λ has. accept_scene (between_values old new) (values_of new) id page translation access.kind
      (grants_on (values_of old) (values_of new) cached translations (grants_kept old new events invariants own leaves))
      (queue_on (values_of old) (values_of new) cached translations (queue_kept old new events invariants own leaves (ap (λ parts. parts.fence_snapshot) call.rest))) (ap (λ (f : Flights). f.so_far) is.after)
      (subst (λ n. AreAmongWith (accesses_of (flights_of new.iommu).rows) (record { device = id; frame = n; kind = access.kind; number = so_far + 1 }) (accesses_of (flights_of old.iommu).rows)) frame
      (subst (λ (f : Flights). AreAmongWith (accesses_of f.rows) (record { device = id; frame = call.frame; kind = access.kind; number = so_far + 1 }) (accesses_of (flights_of old.iommu).rows)) (sym is.after)
      (accepted_among (flights_of old.iommu).rows id is.row (record { access = access; frame = call.frame }) (so_far + 1) is.stands)))
      (λ d there. there) (λ key translation at. at) source allowed walks (between_scene old new id keeps change walks has))

  keeps_accept : access.address < 2 ^ 64 → new.memory ≡ old.memory → (number : ℕ) → AcceptsRequest old.memory old.iommu id access number new.iommu → InvariantWith walks new events
  keeps_accept fits memory number call =
      let answer : Translation = record { frame = call.frame; rights = call.rights; order = call.order } in
      let answers = served laws old events invariants own id access.address access.kind ioatc.SURE (translations_of old.iommu) (translations_of new.iommu) (Ok answer) fits call.served in
      let from = served_from old id access.address access.kind cached translations answer own answers in
      keeps_accepted (access.address / 4096) from.1 memory number call (ap (λ (t : Translation). t.frame) from.2) from.3 (change_of old id access.address access.kind translations answer answers)
      (λ scene shows. source_there (between_values old new) scene id (access.address / 4096) from.0 from.1 shows from.4)

  -- nothing changes
  pub keeps_same : new.memory ≡ old.memory → new.iommu ≡ old.iommu → InvariantWith walks new events
  keeps_same memory iommu =
      subst (λ parts. InvariantWith walks parts events) (sym (parts_are new old.memory old.iommu old.driver old.devices old.fabric memory iommu driver devices fabric)) invariants

  keeps_replied : access.address < 2 ^ 64 → (reply : Reply) → AnswersRequest old.memory old.iommu id access reply new.memory new.iommu → InvariantWith walks new events
  keeps_replied fits (Accepted number) call = keeps_accept fits call.1 number call.0
  keeps_replied fits Busy call = keeps_same call.3 call.2
  keeps_replied fits BadSpan call = keeps_same call.2 call.1
  keeps_replied fits (Fault cause) call = keeps_fault fits cause call

pub keeps_asked : {walks : List Walk} (can : DeviceKind → Bool) → ServiceLaws → (old new : Parts) (events id : ℕ) (access : Access) (response : Outcome) → InvariantWith walks old events → DriverInvariant old.driver → StaysReady old.driver
    → StaysReported old.driver → (flights_of old.iommu).so_far < events → access.address < 2 ^ 64 → AsksAccess can old id access response new → InvariantWith walks new events
keeps_asked {walks = walks} can laws old new events id access response invariants own unchanged reported below fits asks = elim asks [
  | inl unknown ↦ subst (λ parts. InvariantWith walks parts events) (sym unknown.same) invariants
  | inr (inl unable) ↦ subst (λ parts. InvariantWith walks parts events) (sym unable.same) invariants
  | inr (inr answered) ↦ keeps_replied laws old new events id access invariants own unchanged reported answered.1.driver answered.1.devices answered.1.fabric below fits answered.1.reply answered.1.call
]
