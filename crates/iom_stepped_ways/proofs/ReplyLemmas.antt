-- What a reply leaves of the board, beside what is under way: an access is accepted, or a fault is recorded.
use Rattle.std.proofs.Common.{◌≡◌, ◌⊎◌, inl, inr, ℕ, ◌+◌, ◌++◌, Bool, List, slice_get, Contains, Option, Result, Ok, refl, sym, ap, ◌∙◌, subst}
use Rattle.std.proofs.lemmas.List.Elements.{Contains-append_right}
use Rattle.iom_base.specs.declared.access.Access.{Access}
use Rattle.iom_base.specs.declared.access.AccessKind.{AccessKind}
use Rattle.iom_base.specs.declared.cause.Cause.{Cause}
use Rattle.iom_board.specs.BoardParts.{BoardParts}
use Rattle.iom_fault_queue.specs.Fields.{untranslated_of}
use Rattle.iom_fault_queue.specs.Records.{record_of}
use Rattle.iom_inflight.specs.Calls.{with_access}
use Rattle.iom_inflight.specs.Flights.{Flights, row_of, with_row}
use Rattle.iom_iommu.specs.Parts.{registers_of, contexts_of, translations_of, flights_of}
use Rattle.iom_iommu.specs.Requests.{fault_of, faulted_of}
use Rattle.iom_iommu.specs.Stepped.{AcceptsTranslation, RecordsFault, Replies}
use Rattle.iom_iommu.specs.declared.reply.Reply.{Reply}
use Rattle.iom_iommu.specs.declared.reply.Reply.TheVariants.{Accepted, Busy, Fault, BadSpan}
use Rattle.iom_registers.specs.Queues.{directory_mode}
use Rattle.iom_stage_walk.specs.declared.walked.WalkFault.{WalkFault}
use Rattle.iom_tlb.specs.declared.trans_cache.Translation.{Translation}
use Rattle.iom_reach.specs.Scene.{Context, PendingAccess, HardwareScene}
use Rattle.iom_reach.specs.Transitions.{AreAmongWithOf, Accept, GoOn, IsAdmitted}
use Rattle.iom_hardware_ways.specs.Scenes.{contexts_in, flights_in, mappings_in, scene_of}
use Rattle.iom_hardware_ways.proofs.Changes.{ContextsChange, TranslationsChange, all_change}
use Rattle.iom_hardware_ways.proofs.FlightLemmas.{accepted_among}
use Rattle.iom_hardware_ways.proofs.RecordLemmas.{recorded_alike, recorded_there}
use Rattle.iom_hardware_ways.proofs.RequestLemmas.{change_so}
use Rattle.iom_hardware_ways.proofs.SceneParts.{scene_is}
use Rattle.iom_hardware_ways.proofs.Turns.{Comes, one, in_succession, ends_as}
use Rattle.iom_stepped_ways.proofs.FrameLemmas.{accepted_beside}
use Rattle.iom_stepped_ways.specs.Scenes.{Added, access_on, with_added}

-- an access is admitted by the scene, or had its answer before
abbrev pub IsLetIn : HardwareScene → Added → ℕ → ℕ → AccessKind → Type 0
IsLetIn scene added id frame kind = IsAdmitted (with_added scene added) id frame kind ⊎ Contains (added.let_through id) (access_on frame kind)

-- it is in flight then
let_in : (s : HardwareScene) (a : Added) (flights : ℕ → List PendingAccess) (id frame : ℕ) (kind : AccessKind) → IsLetIn s a id frame kind
    → AreAmongWithOf flights id (access_on frame kind) s.in_flight
    → Comes (with_added s a) (record (with_added s a) { in_flight = λ d. flights d ++ a.let_through d })
let_in s a flights id frame kind (inl admitted) among =
    one (Accept id (access_on frame kind)) tt (with_added s a) (record (with_added s a) { in_flight = λ d. flights d ++ a.let_through d })
    ((λ d. flights d ++ a.let_through d), admitted, accepted_beside s a flights id (access_on frame kind) among, refl)
let_in s a flights id frame kind (inr there) among =
    one GoOn tt (with_added s a) (record (with_added s a) { in_flight = λ d. flights d ++ a.let_through d }) (
      s.partial_walks ++ a.partial_walks,
      s.directory_walks ++ a.directory_walks,
      (λ d. flights d ++ a.let_through d),
      (λ walk old. inr old),
      (λ walk old. inr old),
      (λ d access flies. elim (accepted_beside s a flights id (access_on frame kind) among d access flies) [
        | inl (own, same) ↦ Contains-append_right (s.in_flight d) (a.let_through d) access
            (subst (λ k. Contains (a.let_through k) access) (sym own) (subst (Contains (a.let_through id)) (sym same) there))
        | inr old ↦ old
      ]),
      refl,
    )

module _ (trusted : ℕ → Bool) (old new : BoardParts) (a : Added) (id : ℕ) (access : Access) (translated : Result Translation WalkFault)
    (devices : new.devices ≡ old.devices) (fabric : new.fabric ≡ old.fabric) where
  abbrev s : HardwareScene
  s = scene_of trusted old

  abbrev shown_contexts : ℕ → Option Context
  shown_contexts = contexts_in (directory_mode (registers_of old.iommu)) (contexts_of new.iommu)

  accepted : (number device : ℕ) → AcceptsTranslation old.memory old.iommu id access translated number new.memory new.iommu
      → TranslationsChange (with_added s a) (mappings_in (translations_of new.iommu)) → ContextsChange (with_added s a) device shown_contexts
      → ((t : Translation) → translated ≡ Ok t → IsLetIn s a id t.frame access.kind) → Comes (with_added s a) (with_added (scene_of trusted new) a)
  accepted number device accepts translations contexts why =
      let is = accepts.accepted in
      let rows = (flights_of old.iommu).rows in
      let after = with_row rows (with_access is.row (record { access = access; frame = accepts.translation.frame }) ((flights_of old.iommu).so_far + 1)) in
      let flights : ℕ → List PendingAccess = λ d. flights_in (row_of after d) in
      let through : ℕ → List PendingAccess = λ d. flights d ++ a.let_through d in
      let t = record (with_added s a) { in_flight = through } in
      let last = record t { translations = mappings_in (translations_of new.iommu); contexts = shown_contexts; memory = slice_get old.memory } in
      ends_as (with_added s a) last (with_added (scene_of trusted new) a)
      (ap (λ x. with_added x a) (scene_is trusted new old.memory (registers_of old.iommu) (contexts_of new.iommu) (translations_of new.iommu) after old.devices old.fabric
      accepts.memory_stays (ap (λ parts. parts.registers) accepts.rest) refl refl (ap (λ (f : Flights). f.rows) is.after) devices fabric))
      (in_succession (with_added s a) t last
      (let_in s a flights id accepts.translation.frame access.kind (why accepts.translation accepts.is)
      (accepted_among rows id is.row (record { access = access; frame = accepts.translation.frame }) ((flights_of old.iommu).so_far + 1) is.stands))
      (all_change t device (mappings_in (translations_of new.iommu)) shown_contexts (slice_get old.memory)
      (change_so (with_added s a) through s.messages (mappings_in (translations_of new.iommu)) translations) contexts (inl refl)))

  recorded : (cause : Cause) (device : ℕ) → RecordsFault old.memory old.iommu id access translated cause new.memory new.iommu
      → TranslationsChange (with_added s a) (mappings_in (translations_of new.iommu)) → ContextsChange (with_added s a) device shown_contexts
      → Comes (with_added s a) (with_added (scene_of trusted new) a)
  recorded cause device records translations contexts =
      let fields = record_of (faulted_of id (untranslated_of access.kind) access.address) (fault_of records.fault) in
      let last = record (with_added s a) { translations = mappings_in (translations_of new.iommu); contexts = shown_contexts; memory = slice_get new.memory } in
      ends_as (with_added s a) last (with_added (scene_of trusted new) a)
      (ap (λ x. with_added x a) (scene_is trusted new new.memory (registers_of new.iommu) (contexts_of new.iommu) (translations_of new.iommu) (flights_of old.iommu).rows old.devices old.fabric
      refl refl refl refl (ap (λ (f : Flights). f.rows) (ap (λ parts. parts.flights) records.rest)) devices fabric
      ∙ recorded_alike old.memory (registers_of old.iommu) fields records.answer new.memory (registers_of new.iommu) records.recorded
      trusted new.memory (contexts_of new.iommu) (translations_of new.iommu) (flights_of old.iommu).rows old.devices old.fabric))
      (all_change (with_added s a) device (mappings_in (translations_of new.iommu)) shown_contexts (slice_get new.memory) translations contexts
      (recorded_there old.memory (registers_of old.iommu) fields records.answer new.memory (registers_of new.iommu) records.recorded))

  -- WHATEVER THE REPLY
  pub replied : (reply : Reply) (device : ℕ) → Replies old.memory old.iommu id access translated reply new.memory new.iommu
      → TranslationsChange (with_added s a) (mappings_in (translations_of new.iommu)) → ContextsChange (with_added s a) device shown_contexts
      → ((t : Translation) → translated ≡ Ok t → IsLetIn s a id t.frame access.kind) → Comes (with_added s a) (with_added (scene_of trusted new) a)
  replied (Accepted number) device replies translations contexts why = accepted number device replies translations contexts why
  replied (Fault cause) device replies translations contexts why = recorded cause device replies translations contexts
  replied Busy device replies translations contexts why = absurd replies
  replied BadSpan device replies translations contexts why = absurd replies

-- the caches alone change
pub cached_alone : (trusted : ℕ → Bool) (old new : BoardParts) (a : Added) (device : ℕ) → new.memory ≡ old.memory → registers_of new.iommu ≡ registers_of old.iommu
    → (flights_of new.iommu).rows ≡ (flights_of old.iommu).rows → new.devices ≡ old.devices → new.fabric ≡ old.fabric
    → TranslationsChange (with_added (scene_of trusted old) a) (mappings_in (translations_of new.iommu))
    → ContextsChange (with_added (scene_of trusted old) a) device (contexts_in (directory_mode (registers_of old.iommu)) (contexts_of new.iommu))
    → Comes (with_added (scene_of trusted old) a) (with_added (scene_of trusted new) a)
cached_alone trusted old new a device memory registers rows devices fabric translations contexts =
    let s = with_added (scene_of trusted old) a in
    let shown = contexts_in (directory_mode (registers_of old.iommu)) (contexts_of new.iommu) in
    let last = record s { translations = mappings_in (translations_of new.iommu); contexts = shown; memory = slice_get old.memory } in
    ends_as s last (with_added (scene_of trusted new) a)
    (ap (λ x. with_added x a) (scene_is trusted new old.memory (registers_of old.iommu) (contexts_of new.iommu) (translations_of new.iommu) (flights_of old.iommu).rows old.devices old.fabric
    memory registers refl refl rows devices fabric))
    (all_change s device (mappings_in (translations_of new.iommu)) shown (slice_get old.memory) translations contexts (inl refl))
