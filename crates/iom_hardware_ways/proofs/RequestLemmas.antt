-- Requests of devices: untranslated ones, translated ones, and those through a device's own cache.
use Rattle.std.proofs.Common.{◌≡◌, ◌∙◌, ◌+◌, ◌*◌, ◌/◌, ◌%◌, ◌==◌, inl, inr, ℕ, Bool, true, false, List, map, slice_get, Contains, Option, None, Some, is_some, option_map, Result, Ok, Err, refl, sym, ap, subst, arith, if◌then◌else◌}
use Rattle.std.specs.List.{find, position_or_len}
use Rattle.std.proofs.lemmas.List.Folds.{find_at}
use Rattle.std.specs.Option.{option_and_then}
use Rattle.std.proofs.lemmas.List.Elements.{All-contains}
use Rattle.iom_ats_cache.specs.Cache.{Cache, entry_for_page, frame_if_allowed, frame_for}
use Rattle.iom_ats_cache.specs.declared.entry.Entry.{Entry}
use Rattle.iom_base.specs.Accesses.{page_of, at_frame}
use Rattle.iom_base.specs.DeviceKinds.{forges, has_cache}
use Rattle.iom_base.specs.Rights.{allows}
use Rattle.iom_base.specs.declared.access.Access.{Access}
use Rattle.iom_base.specs.declared.access.AccessKind.{AccessKind}
use Rattle.iom_base.specs.declared.cause.Cause.{Cause}
use Rattle.iom_base.specs.declared.device_kind.DeviceKind.{DeviceKind}
use Rattle.iom_base.specs.declared.device_kind.DeviceKind.TheVariants as kinds
use Rattle.iom_base.specs.declared.refusal.Refusal.{Refusal}
use Rattle.iom_device.specs.Caches.{IsAble, HasItsCache, HaveTheirCaches, device_with, kind_in, cache_in, cache_of}
use Rattle.iom_device.specs.declared.device.Device.{Device}
use Rattle.iom_device_dir.specs.declared.context.Context.{Context as DeviceContext}
use Rattle.iom_fault_queue.specs.Fields.{untranslated_of, translated_of}
use Rattle.iom_fault_queue.specs.Records.{record_of}
use Rattle.iom_fault_queue.specs.declared.transaction.Transaction.{Transaction}
use Rattle.iom_board.specs.BoardParts.{BoardParts}
use Rattle.iom_board.specs.Requests.{Replies, RequestsAccess, RequestsTranslatedAccess}
use Rattle.iom_board.specs.ThroughCache.{frame_in_cache, GoesByCachedFrame, GoesByCache, RequestsAccessThroughCache}
use Rattle.iom_board.specs.declared.answers.CacheReply.{CacheReply}
use Rattle.iom_board.specs.declared.answers.CacheReply.TheVariants.{Miss, Replied}
use Rattle.iom_inflight.specs.Calls.{with_access}
use Rattle.iom_inflight.specs.Flights.{Flights, row_of, with_row}
use Rattle.iom_iommu.specs.Parts.{registers_of, contexts_of, translations_of, flights_of}
use Rattle.iom_iommu.specs.Requests.{IommuAccepts, Refuses, Answers, AnswersRequest, ServesRequest, faulted_of, fault_of}
use Rattle.iom_iommu.specs.Service.{context_or_cause, ats_context_for, ServesBy, ServesIn}
use Rattle.iom_iommu.specs.Translated.{physical_page, ServesTranslated, AnswersTranslated}
use Rattle.iom_iommu.specs.declared.reply.Reply.{Reply}
use Rattle.iom_iommu.specs.declared.reply.Reply.TheVariants.{Accepted, Busy, Fault, BadSpan}
use Rattle.iom_registers.specs.declared.directory.DirectoryMode.{DirectoryMode}
use Rattle.iom_registers.specs.declared.directory.DirectoryMode.TheVariants as mode
use Rattle.iom_registers.specs.Queues.{directory_mode, directory_root}
use Rattle.iom_stage_walk.specs.declared.walked.WalkFault.{WalkFault}
use Rattle.iom_tlb.specs.Content.{Translations, TranslationsUnchanged}
use Rattle.iom_tlb.specs.declared.trans_cache.Translation.{Translation}
use Rattle.iom_reach.specs.Memory.{WalkStep}
use Rattle.iom_reach.specs.Transitions.{IsAdmitted, InModeBare, Requested, FromEntry, Forged, Accept}
use Rattle.iom_reach.specs.Scene.{Mapping, AddressSpace, SpacePage, PendingAccess, Forges, Caches, Message, HardwareScene, HasDevice}
use Rattle.iom_reach.specs.Ways.{WalkBegins, AtRoot, PartWay}
use Rattle.iom_hardware_ways.specs.Formats.{context_of}
use Rattle.iom_hardware_ways.specs.Scenes.{ats_kind, directory_by, contexts_in, mappings_in, mapping_of, kept_entry, kept_entries, flights_in, scene_of}
use Rattle.iom_hardware_ways.proofs.CarryLemmas.{by_device}
use Rattle.iom_hardware_ways.proofs.Changes.{TranslationsChange, all_change}
use Rattle.iom_hardware_ways.proofs.ContextLemmas.{HasDirectory, context_kept, may_find, may_find_ats}
use Rattle.iom_hardware_ways.proofs.FlightLemmas.{accepted_among}
use Rattle.iom_hardware_ways.proofs.ListLemmas.{contains_map, get_contains}
use Rattle.iom_hardware_ways.proofs.RecordLemmas.{recorded_alike, recorded_there}
use Rattle.iom_hardware_ways.proofs.SceneParts.{scene_is}
use Rattle.iom_hardware_ways.proofs.TranslationLemmas.{answered_by, faulted_by, own_frame, stays_shown}
use Rattle.iom_hardware_ways.proofs.Turns.{Comes, nothing, one, in_succession, ends_as}

-- a device that does something is plugged in
pub plugged : (trusted : ℕ → Bool) (old : BoardParts) (can : DeviceKind → Bool) (id : ℕ) → IsAble can old.devices id → HasDevice (scene_of trusted old) id
plugged trusted old can id (kind, there, able) = (ats_kind kind, ap (option_map ats_kind) there)

-- what is kept of a walk is so too where other accesses and messages are under way
begins_so : (s : HardwareScene) (f : ℕ → List PendingAccess) (m : List Message) (space : AddressSpace) (table : ℕ) (steps_to : ℕ → List WalkStep) → WalkBegins s space table steps_to
    → WalkBegins (record s { in_flight = f; messages = m }) space table steps_to
begins_so s f m space table steps_to (AtRoot device context tables find is decide root all) = AtRoot device context tables find is decide root all
begins_so s f m space table steps_to (PartWay device there) = PartWay device there

pub change_so : (s : HardwareScene) (f : ℕ → List PendingAccess) (m : List Message) (kept : SpacePage → Option Mapping) → TranslationsChange s kept
    → TranslationsChange (record s { in_flight = f; messages = m }) kept
change_so s f m kept (inl part) = inl part
change_so s f m kept (inr (space, table, steps_to, page, mapping, begins, walked, part)) =
    inr (space, table, steps_to, page, mapping, begins_so s f m space table steps_to begins, walked, part)

-- AN ACCESS IS ACCEPTED
accepted : (trusted : ℕ → Bool) (old new : BoardParts) (id : ℕ) (access : Access) (number : ℕ) (Served : Result Translation WalkFault → Translations → Type 0)
    → HasDevice (scene_of trusted old) id → IommuAccepts Served old.memory old.iommu id access number new.iommu → new.memory ≡ old.memory → new.devices ≡ old.devices → new.fabric ≡ old.fabric
    → ((answer : Translation) (kept : Translations) → Served (Ok answer) kept
    → IsAdmitted (scene_of trusted old) id answer.frame access.kind × TranslationsChange (scene_of trusted old) (mappings_in kept))
    → Comes (scene_of trusted old) (scene_of trusted new)
accepted trusted old new id access number Served there accepts memory devices fabric why =
    let s = scene_of trusted old in
    let rows = (flights_of old.iommu).rows in
    let is = accepts.accepted in
    let after = with_row rows (with_access is.row (record { access = access; frame = accepts.frame }) ((flights_of old.iommu).so_far + 1)) in
    let flights : ℕ → List PendingAccess = λ d. flights_in (row_of after d) in
    let own : PendingAccess = record { frame = accepts.frame; kind = access.kind } in
    let t = record s { in_flight = flights } in
    let (served, change) = why (record { frame = accepts.frame; rights = accepts.rights; order = accepts.order }) (translations_of new.iommu) accepts.served in
    let mode = directory_mode (registers_of old.iommu) in
    let last = record t { translations = mappings_in (translations_of new.iommu); contexts = contexts_in mode (contexts_of new.iommu); memory = slice_get old.memory } in
    ends_as s last (scene_of trusted new)
    (scene_is trusted new old.memory (registers_of old.iommu) (contexts_of new.iommu) (translations_of new.iommu) after old.devices old.fabric
    memory (ap (λ parts. parts.registers) accepts.rest) refl refl (ap (λ (f : Flights). f.rows) is.after) devices fabric)
    (in_succession s t last
    (one (Accept id own) tt s t
    (flights, served, accepted_among rows id is.row (record { access = access; frame = accepts.frame }) ((flights_of old.iommu).so_far + 1) is.stands, refl))
    (all_change t id (mappings_in (translations_of new.iommu)) (contexts_in mode (contexts_of new.iommu)) (slice_get old.memory)
    (change_so s flights s.messages (mappings_in (translations_of new.iommu)) change)
    (context_kept trusted old id (contexts_of new.iommu) there accepts.contexts) (inl refl)))

-- IT IS REFUSED
refused : (trusted : ℕ → Bool) (old new : BoardParts) (id : ℕ) (access : Access) (cause : Cause) (Served : Result Translation WalkFault → Translations → Type 0) (transaction : Transaction)
    → HasDevice (scene_of trusted old) id → Refuses Served transaction old.memory old.iommu id access cause new.memory new.iommu → new.devices ≡ old.devices → new.fabric ≡ old.fabric
    → ((fault : WalkFault) (kept : Translations) → Served (Err fault) kept → TranslationsUnchanged (translations_of old.iommu) kept)
    → Comes (scene_of trusted old) (scene_of trusted new)
refused trusted old new id access cause Served transaction there refuses devices fabric why =
    let s = scene_of trusted old in
    let mode = directory_mode (registers_of old.iommu) in
    let fields = record_of (faulted_of id transaction access.address) (fault_of refuses.fault) in
    let last = record s { translations = mappings_in (translations_of new.iommu); contexts = contexts_in mode (contexts_of new.iommu); memory = slice_get new.memory } in
    ends_as s last (scene_of trusted new)
    (scene_is trusted new new.memory (registers_of new.iommu) (contexts_of new.iommu) (translations_of new.iommu) (flights_of old.iommu).rows old.devices old.fabric
    refl refl refl refl (ap (λ (f : Flights). f.rows) (ap (λ parts. parts.flights) refuses.rest)) devices fabric
    ∙ recorded_alike old.memory (registers_of old.iommu) fields refuses.answer new.memory (registers_of new.iommu) refuses.recorded
    trusted new.memory (contexts_of new.iommu) (translations_of new.iommu) (flights_of old.iommu).rows old.devices old.fabric)
    (all_change s id (mappings_in (translations_of new.iommu)) (contexts_in mode (contexts_of new.iommu)) (slice_get new.memory)
    (inl (stays_shown (translations_of old.iommu) (translations_of new.iommu) (why refuses.fault (translations_of new.iommu) refuses.served)))
    (context_kept trusted old id (contexts_of new.iommu) there refuses.contexts)
    (recorded_there old.memory (registers_of old.iommu) fields refuses.answer new.memory (registers_of new.iommu) refuses.recorded))

-- nothing changes
unchanged : (trusted : ℕ → Bool) (old new : BoardParts) → new.iommu ≡ old.iommu → new.memory ≡ old.memory → new.devices ≡ old.devices → new.fabric ≡ old.fabric
    → Comes (scene_of trusted old) (scene_of trusted new)
unchanged trusted old new same memory devices fabric =
    nothing (scene_of trusted old) (scene_of trusted new)
    (scene_is trusted new old.memory (registers_of old.iommu) (contexts_of old.iommu) (translations_of old.iommu) (flights_of old.iommu).rows old.devices old.fabric
    memory (ap (λ i. registers_of i) same) (ap (λ i. contexts_of i) same) (ap (λ i. translations_of i) same) (ap (λ i. (flights_of i).rows) same) devices fabric)

-- WHATEVER THE ANSWER
answered : (trusted : ℕ → Bool) (old new : BoardParts) (id : ℕ) (access : Access) (Served : Result Translation WalkFault → Translations → Type 0) (transaction : Transaction) (reply : Reply)
    → HasDevice (scene_of trusted old) id → Replies (Answers Served transaction old.memory old.iommu id access) old reply new
    → ((answer : Translation) (kept : Translations) → Served (Ok answer) kept
    → IsAdmitted (scene_of trusted old) id answer.frame access.kind × TranslationsChange (scene_of trusted old) (mappings_in kept))
    → ((fault : WalkFault) (kept : Translations) → Served (Err fault) kept → TranslationsUnchanged (translations_of old.iommu) kept)
    → Comes (scene_of trusted old) (scene_of trusted new)
answered trusted old new id access Served transaction BadSpan there replies served faults = unchanged trusted old new replies.call.1 replies.call.2 replies.devices replies.fabric
answered trusted old new id access Served transaction Busy there replies served faults = unchanged trusted old new replies.call.2 replies.call.3 replies.devices replies.fabric
answered trusted old new id access Served transaction (Accepted number) there replies served faults =
    accepted trusted old new id access number Served there replies.call.0 replies.call.1 replies.devices replies.fabric served
answered trusted old new id access Served transaction (Fault cause) there replies served faults =
    refused trusted old new id access cause Served transaction there replies.call replies.devices replies.fabric faults

-- UNTRANSLATED REQUESTS

-- by the context that was found
served_by : (trusted : ℕ → Bool) (old : BoardParts) (id address : ℕ) (kind : AccessKind) (sure : Bool) (found : Result DeviceContext Cause) (answer : Translation) (kept : Translations)
    → HasDevice (scene_of trusted old) id → HasDirectory trusted old → found ≡ context_or_cause old.memory (registers_of old.iommu) (contexts_of old.iommu) id
    → ServesBy sure found old.memory address kind (translations_of old.iommu) (Ok answer) kept
    → IsAdmitted (scene_of trusted old) id answer.frame kind × TranslationsChange (scene_of trusted old) (mappings_in kept)
served_by trusted old id address kind sure (Err cause) answer kept there directory is (response, unchanged) = absurd (cc)
served_by trusted old id address kind sure (Ok context) answer kept there directory is serves =
    let find = may_find trusted old id context there directory (sym is) in
    let so = answered_by trusted old id context context.first_stage context.second_stage sure address kind answer kept find refl serves in
    (Requested (context_of context) (address / 4096) (mapping_of answer) find so.translates (refl, so.allowed), so.change)

served_in : (trusted : ℕ → Bool) (old : BoardParts) (id address : ℕ) (kind : AccessKind) (sure : Bool) (answer : Translation) (kept : Translations)
    → HasDevice (scene_of trusted old) id → (m : DirectoryMode) → m ≡ directory_mode (registers_of old.iommu)
    → ServesIn sure m (context_or_cause old.memory (registers_of old.iommu) (contexts_of old.iommu) id) old.memory address kind (translations_of old.iommu) (Ok answer) kept
    → IsAdmitted (scene_of trusted old) id answer.frame kind × TranslationsChange (scene_of trusted old) (mappings_in kept)
served_in trusted old id address kind sure answer kept there mode.Off is (response, unchanged) = absurd (cc)
served_in trusted old id address kind sure answer kept there mode.Bare is (response, unchanged) =
    (InModeBare there (ap (λ k. directory_by k (directory_root (registers_of old.iommu))) (sym is)), inl (stays_shown (translations_of old.iommu) kept unchanged))
served_in trusted old id address kind sure answer kept there mode.OneLevel is serves =
    served_by trusted old id address kind sure (context_or_cause old.memory (registers_of old.iommu) (contexts_of old.iommu) id) answer kept there
    (record { root = directory_root (registers_of old.iommu); levels = 1 }, ap (λ k. directory_by k (directory_root (registers_of old.iommu))) (sym is)) refl serves
served_in trusted old id address kind sure answer kept there mode.TwoLevels is serves =
    served_by trusted old id address kind sure (context_or_cause old.memory (registers_of old.iommu) (contexts_of old.iommu) id) answer kept there
    (record { root = directory_root (registers_of old.iommu); levels = 2 }, ap (λ k. directory_by k (directory_root (registers_of old.iommu))) (sym is)) refl serves
served_in trusted old id address kind sure answer kept there mode.ThreeLevels is serves =
    served_by trusted old id address kind sure (context_or_cause old.memory (registers_of old.iommu) (contexts_of old.iommu) id) answer kept there
    (record { root = directory_root (registers_of old.iommu); levels = 3 }, ap (λ k. directory_by k (directory_root (registers_of old.iommu))) (sym is)) refl serves

pub faults_by : (sure : Bool) (found : Result DeviceContext Cause) (memory : List (List ℕ)) (address : ℕ) (kind : AccessKind) (old : Translations) (fault : WalkFault) (kept : Translations)
    → ServesBy sure found memory address kind old (Err fault) kept → TranslationsUnchanged old kept
faults_by sure (Err cause) memory address kind old fault kept (response, unchanged) = unchanged
faults_by sure (Ok context) memory address kind old fault kept serves = faulted_by context context.first_stage context.second_stage sure memory address kind old kept fault serves

faults_in : (sure : Bool) (m : DirectoryMode) (found : Result DeviceContext Cause) (memory : List (List ℕ)) (address : ℕ) (kind : AccessKind) (old : Translations) (fault : WalkFault) (kept : Translations)
    → ServesIn sure m found memory address kind old (Err fault) kept → TranslationsUnchanged old kept
faults_in sure mode.Off found memory address kind old fault kept (response, unchanged) = unchanged
faults_in sure mode.Bare found memory address kind old fault kept (response, unchanged) = unchanged
faults_in sure mode.OneLevel found memory address kind old fault kept serves = faults_by sure found memory address kind old fault kept serves
faults_in sure mode.TwoLevels found memory address kind old fault kept serves = faults_by sure found memory address kind old fault kept serves
faults_in sure mode.ThreeLevels found memory address kind old fault kept serves = faults_by sure found memory address kind old fault kept serves

pub requests : (trusted : ℕ → Bool) (can : DeviceKind → Bool) (old : BoardParts) (id : ℕ) (access : Access) (answer : Result Reply Refusal) (new : BoardParts)
    → RequestsAccess can old id access answer new → Comes (scene_of trusted old) (scene_of trusted new)
requests trusted can old id access answer new call =
    by_device trusted can (λ old reply new. Replies (AnswersRequest old.memory old.iommu id access) old reply new) old id answer new call
    (λ reply able response replies. answered trusted old new id access (ServesRequest old.memory old.iommu id access) (untranslated_of access.kind) reply (plugged trusted old can id able) replies
    (λ found kept serves. served_in trusted old id access.address access.kind true found kept (plugged trusted old can id able) (directory_mode (registers_of old.iommu)) refl serves)
    (λ fault kept serves. faults_in true (directory_mode (registers_of old.iommu)) (context_or_cause old.memory (registers_of old.iommu) (contexts_of old.iommu) id) old.memory access.address access.kind
    (translations_of old.iommu) fault kept serves))

-- TRANSLATED REQUESTS

-- at the address itself, by a context that lets it through
module _ (trusted : ℕ → Bool) (old : BoardParts) (id : ℕ) (access : Access) (there : HasDevice (scene_of trusted old) id)
    (why : (context : DeviceContext) (answer : Translation) → ats_context_for old.memory (registers_of old.iommu) (contexts_of old.iommu) id ≡ Ok context
    → answer.frame ≡ access.address / 4096 → IsAdmitted (scene_of trusted old) id answer.frame access.kind) where
  let_through : (found : Result DeviceContext Cause) → found ≡ ats_context_for old.memory (registers_of old.iommu) (contexts_of old.iommu) id
      → (answer : Translation) → Ok answer ≡ physical_page found old.memory access.address access.kind → IsAdmitted (scene_of trusted old) id answer.frame access.kind
  let_through (Err cause) is answer response = absurd (cc)
  let_through (Ok context) is answer response = why context answer (sym is) (own_frame old.memory access.address access.kind answer response).0

  pub translated : (reply : Reply) (new : BoardParts) → Replies (AnswersTranslated old.memory old.iommu id access) old reply new → Comes (scene_of trusted old) (scene_of trusted new)
  translated reply new replies =
      answered trusted old new id access (ServesTranslated old.memory old.iommu id access) (translated_of access.kind) reply there replies
      (λ answer kept serves. (let_through (ats_context_for old.memory (registers_of old.iommu) (contexts_of old.iommu) id) refl answer serves.0, inl (stays_shown (translations_of old.iommu) kept serves.1)))
      (λ fault kept serves. serves.1)

-- a raw device forges
forges_all : (kind : DeviceKind) → forges kind ≡ true → ats_kind kind ≡ Forges
forges_all kinds.Raw able = refl
forges_all kinds.Ats able = absurd (cc)
forges_all kinds.Block able = absurd (cc)
forges_all kinds.CachedBlock able = absurd (cc)

pub requests_translated : (trusted : ℕ → Bool) (old : BoardParts) (id : ℕ) (access : Access) (answer : Result Reply Refusal) (new : BoardParts)
    → RequestsTranslatedAccess old id access answer new → Comes (scene_of trusted old) (scene_of trusted new)
requests_translated trusted old id access answer new call =
    by_device trusted forges (λ old reply new. Replies (AnswersTranslated old.memory old.iommu id access) old reply new) old id answer new call
    (λ reply able response replies. translated trusted old id access (plugged trusted old forges id able)
    (λ context given found frame.
    let (find, set) = may_find_ats trusted old id context (plugged trusted old forges id able) found in
    Forged (context_of context) find set (ap (option_map ats_kind) able.1 ∙ ap Some (forges_all able.0 able.2)))
    reply new replies)

-- THROUGH A CACHE

has_caches : (kind : DeviceKind) → has_cache kind ≡ true → ats_kind kind ≡ Caches
has_caches kinds.Raw able = absurd (cc)
has_caches kinds.Ats able = refl
has_caches kinds.Block able = absurd (cc)
has_caches kinds.CachedBlock able = refl

found_there : {X : Type 0} (p : X → Bool) (xs : List X) (x : X) → find p xs ≡ Some x → Contains xs x
found_there p xs x is = get_contains xs (position_or_len p xs) x (sym (find_at p xs) ∙ is)

-- a device that has a cache is of a kind that has one
caches_kind : (devices : List Device) (id : ℕ) (cache : Cache) → HaveTheirCaches devices → cache_of devices id ≡ Some cache
    → option_map ats_kind (kind_in devices id) ≡ Some Caches
caches_kind devices id cache own is = by (device_with devices id) refl is
  where
    by : (found : Option Device) → device_with devices id ≡ found → cache_in found ≡ Some cache
        → option_map ats_kind (option_map (λ (device : Device). device.kind) found) ≡ Some Caches
    by None e there = absurd (cc)
    by (Some device) e there =
        let its : HasItsCache device = All-contains HasItsCache devices device own (found_there (λ (d : Device). d.id == id) devices device e) in
        ap Some (has_caches device.kind (sym its ∙ ap is_some there))

-- a frame from a cache is that of an entry that allows the access
entry_gives : (found : Option Entry) (kind : AccessKind) (frame : ℕ) → frame_if_allowed found kind ≡ Some frame
    → (entry : Entry) × (found ≡ Some entry) × (entry.frame ≡ frame) × (allows entry.rights kind ≡ true)
entry_gives None kind frame is = absurd (cc)
entry_gives (Some entry) kind frame is = by (allows entry.rights kind) refl is
  where
    by : (b : Bool) → allows entry.rights kind ≡ b → (if b then Some entry.frame else None) ≡ Some frame
        → (own : Entry) × (◌≡◌ {A = Option Entry} (Some entry) (Some own)) × (own.frame ≡ frame) × (allows own.rights kind ≡ true)
    by true e response = (entry, refl, (let same : entry.frame ≡ frame = cc in same), e)
    by false e response = absurd (cc)

cache_gives : (devices : List Device) (id page : ℕ) (kind : AccessKind) (frame : ℕ) → option_and_then (λ (cache : Cache). frame_for cache page kind) (cache_of devices id) ≡ Some frame
    → (cache : Cache) × (cache_of devices id ≡ Some cache) × (frame_for cache page kind ≡ Some frame)
cache_gives devices id page kind frame is = by (cache_of devices id) refl is
  where
    by : (found : Option Cache) → cache_of devices id ≡ found → option_and_then (λ (cache : Cache). frame_for cache page kind) found ≡ Some frame
        → (cache : Cache) × (cache_of devices id ≡ Some cache) × (frame_for cache page kind ≡ Some frame)
    by None e response = absurd (cc)
    by (Some cache) e response = (cache, e, response)

back_at : (frame offset : ℕ) → (frame * 4096 + offset % 4096) / 4096 ≡ frame
back_at frame offset = omega arith

goes_by_cache : (trusted : ℕ → Bool) (old : BoardParts) (id : ℕ) (access : Access) (there : HasDevice (scene_of trusted old) id) → HaveTheirCaches old.devices
    → (found : Option ℕ) → found ≡ frame_in_cache old id access → (reply : CacheReply) (new : BoardParts) → GoesByCachedFrame found id access old reply new
    → Comes (scene_of trusted old) (scene_of trusted new)
goes_by_cache trusted old id access there caches None is Miss new same = nothing (scene_of trusted old) (scene_of trusted new) (ap (scene_of trusted) same)
goes_by_cache trusted old id access there caches None is (Replied reply) new never = absurd never
goes_by_cache trusted old id access there caches (Some frame) is Miss new never = absurd never
goes_by_cache trusted old id access there caches (Some frame) is (Replied reply) new replies =
    let (cache, at, gives) = cache_gives old.devices id (page_of access) access.kind frame (sym is) in
    let (entry, found, same, allowed) = entry_gives (entry_for_page cache.entries (page_of access)) access.kind frame gives in
    let kept : Contains (map kept_entry cache.entries) (kept_entry entry) =
    contains_map kept_entry cache.entries entry (found_there (λ (e : Entry). e.page == page_of access) cache.entries entry found) in
    translated trusted old id (at_frame frame access) there
    (λ context answer response own.
    let (find, set) = may_find_ats trusted old id context there response in
    FromEntry (context_of context) entry.page (record { frame = entry.frame; rights = entry.rights }) find set (caches_kind old.devices id cache caches at)
    (subst (λ o. Contains (kept_entries o) (kept_entry entry)) (sym at) kept) (same ∙ sym (own ∙ back_at frame access.address), allowed))
    reply new replies

pub requests_through_cache : (trusted : ℕ → Bool) (can : DeviceKind → Bool) (old : BoardParts) (id : ℕ) (access : Access) (answer : Result CacheReply Refusal) (new : BoardParts)
    → HaveTheirCaches old.devices → RequestsAccessThroughCache can old id access answer new → Comes (scene_of trusted old) (scene_of trusted new)
requests_through_cache trusted can old id access answer new caches call =
    by_device trusted can (GoesByCache id access) old id answer new call (λ reply able response goes. by reply (plugged trusted old can id able) goes)
  where
    by : (reply : CacheReply) → HasDevice (scene_of trusted old) id → GoesByCache id access old reply new → Comes (scene_of trusted old) (scene_of trusted new)
    by reply there (inl (outside, response, same)) = nothing (scene_of trusted old) (scene_of trusted new) (ap (scene_of trusted) same)
    by reply there (inr (inl (within, full, response, same))) = nothing (scene_of trusted old) (scene_of trusted new) (ap (scene_of trusted) same)
    by reply there (inr (inr (within, room, looks))) = goes_by_cache trusted old id access there caches (frame_in_cache old id access) refl reply new looks
