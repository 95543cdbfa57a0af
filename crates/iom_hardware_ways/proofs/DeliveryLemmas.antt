-- A message arrives: a question, an answer, a request to invalidate, or the word that one is completed.
use Rattle.std.proofs.Common.{◌≡◌, ◌⊎◌, ◌∙◌, ◌*◌, ◌/◌, inl, inr, ℕ, Bool, true, false, not, nat_lt, List, map, drop, length, remove, slice_get, Contains, Option, None, Some, is_some, option_map, Result, Ok, Err, refl, sym, ap, subst, arith, if◌then◌else◌}
use Rattle.std.specs.List.{All}
use Rattle.std.proofs.lemmas.Bool.Decides.{eqb_tells}
use Rattle.std.proofs.lemmas.List.Elements.{All-contains, Contains-push_cases}
use Rattle.iom_ats_cache.specs.Cache.{Cache, range_covers, outside, with_room, with_entry}
use Rattle.iom_ats_cache.specs.Calls.{TakesAnswer}
use Rattle.iom_ats_cache.specs.declared.entry.Entry.{Entry}
use Rattle.iom_ats_cache.specs.declared.taken.Taken.{Taken as HowTaken}
use Rattle.iom_ats_cache.specs.declared.taken.Taken.TheVariants as taken
use Rattle.iom_base.specs.declared.access.AccessKind.TheVariants.{Read}
use Rattle.iom_base.specs.declared.cause.Cause.{Cause}
use Rattle.iom_device.specs.Caches.{device_with, cache_of, epoch_of, epoch_in, with_cache}
use Rattle.iom_device.specs.Calls.{Obeys}
use Rattle.iom_device.specs.declared.device.Device.{Device}
use Rattle.iom_device_dir.specs.declared.context.Context.{Context as DeviceContext}
use Rattle.iom_fabric.specs.declared.fabric.OnLink.{OnLink}
use Rattle.iom_fabric.specs.declared.message.Message.{Message as Sent}
use Rattle.iom_fabric.specs.declared.message.Message.TheVariants as sent
use Rattle.iom_fabric.specs.declared.message.Range.{Range}
use Rattle.iom_fabric.specs.declared.message.Range.TheVariants as range
use Rattle.iom_fabric.specs.declared.message.Translation.{Translation as Told}
use Rattle.iom_fabric.specs.declared.message.Translation.TheVariants as reply
use Rattle.iom_fault_queue.specs.Fields.{Fields}
use Rattle.iom_fault_queue.specs.Records.{record_of}
use Rattle.iom_fault_queue.specs.declared.transaction.Transaction.TheVariants.{AtsRequest}
use Rattle.iom_board.specs.Deliveries.{TakesReply, TakesReplied, ObeysInvalidation, TakesCompletion, AnswersAsk, MessageArrives, MessageArrivesIfAny, DeliversAtPlace, with_delivery}
use Rattle.iom_board.specs.BoardParts.{BoardParts}
use Rattle.iom_board.specs.Messages.{with_message}
use Rattle.iom_board.specs.Invariant.{IsMessageOf}
use Rattle.iom_board.specs.declared.answers.Delivered.{Delivered}
use Rattle.iom_board.specs.declared.answers.Delivered.TheVariants.{Answered, Taken, Ignored, Invalidated, Closed, NotClosed}
use Rattle.iom_inflight.specs.Flights.{Flights}
use Rattle.iom_iommu.specs.Parts.{registers_of, contexts_of, translations_of, flights_of}
use Rattle.iom_iommu.specs.Questions.{RecordsUnless, is_page_fault}
use Rattle.iom_iommu.specs.Requests.{faulted_of, fault_of}
use Rattle.iom_iommu.specs.Service.{KeepsContext, ServesBy, ats_context_for}
use Rattle.iom_registers.specs.declared.registers.Registers.{Registers}
use Rattle.iom_registers.specs.Queues.{directory_mode}
use Rattle.iom_tlb.specs.Content.{Translations}
use Rattle.iom_tlb.specs.declared.trans_cache.Translation.{Translation}
use Rattle.iom_reach.specs.Memory.{DiffersAt}
use Rattle.iom_reach.specs.Transitions.{AreAmongWithOf, IsSendable, TranslatesTo, CarryMessages, DeliverAnswer}
use Rattle.iom_reach.specs.Scene.{Mapping, AtsKind, AtsEntry, Message, Question, Answer, HasDevice}
use Rattle.iom_hardware_ways.specs.Formats.{context_of}
use Rattle.iom_hardware_ways.specs.Scenes.{ats_kind, contexts_in, mappings_in, mapping_of, fault_frames_of, kept_entry, kept_entries, said_on, message_of, scene_of}
use Rattle.iom_hardware_ways.proofs.CarryLemmas.{carried, sent_cases}
use Rattle.iom_hardware_ways.proofs.Changes.{TranslationsChange, MemoryChanges, all_change}
use Rattle.iom_hardware_ways.proofs.ContextLemmas.{context_kept, may_find_ats}
use Rattle.iom_hardware_ways.proofs.DeviceSets.{cache_set, cache_other, cache_kept, cache_there}
use Rattle.iom_hardware_ways.proofs.EntryLemmas.{entries_in, with_devices, drops}
use Rattle.iom_hardware_ways.proofs.ListLemmas.{map_among, map_cases, contains_map, remove_among, drop_among, filter_among, get_contains, same_function}
use Rattle.iom_hardware_ways.proofs.RecordLemmas.{ShowAlike, alike, recorded_alike, recorded_there}
use Rattle.iom_hardware_ways.proofs.RequestLemmas.{change_so, faults_by}
use Rattle.iom_hardware_ways.proofs.SceneParts.{scene_is}
use Rattle.iom_hardware_ways.proofs.TranslationLemmas.{answered_by, stays_shown}
use Rattle.iom_hardware_ways.proofs.Turns.{Comes, nothing, one, in_succession, ends_as}

-- what is under way once the message at a place is under way no more, and perhaps another is sent: each was before, or is that
left_cases : (fabric : List OnLink) (place device : ℕ) (says : Sent) (message : Message) → Contains (map message_of (with_message (remove fabric place) device says)) message
    → (said_on device says ≡ message) ⊎ Contains (map message_of fabric) message
left_cases fabric place device says message there = elim (sent_cases (remove fabric place) device says message there) [
  | inl same ↦ inl same
  | inr before ↦ inr (map_among message_of (remove fabric place) fabric (remove_among fabric place) message before)
]

-- A QUESTION

-- the device of a question is plugged in
asker : (trusted : ℕ → Bool) (old : BoardParts) (device epoch page : ℕ) → All (IsMessageOf old.devices) old.fabric
    → Contains old.fabric (record { device = device; message = sent.Ask epoch page }) → HasDevice (scene_of trusted old) device
asker trusted old device epoch page askers there =
    by (device_with old.devices device) (All-contains (IsMessageOf old.devices) old.fabric (record { device = device; message = sent.Ask epoch page }) askers there).0
  where
    by : (found : Option Device) → is_some found ≡ true → (kind : AtsKind) × (option_map ats_kind (option_map (λ (d : Device). d.kind) found) ≡ Some kind)
    by None is = absurd (cc)
    by (Some own) is = (ats_kind own.kind, refl)

-- what is sent, what is cached and what is recorded
module _ (trusted : ℕ → Bool) (old new : BoardParts) (place device epoch page : ℕ) (says : Told) (there : HasDevice (scene_of trusted old) device)
    (fabric : new.fabric ≡ with_message (remove old.fabric place) device (sent.Answer epoch page says)) (devices : new.devices ≡ old.devices)
    (flights : flights_of new.iommu ≡ flights_of old.iommu)
    (contexts : KeepsContext old.memory (registers_of old.iommu) (contexts_of old.iommu) device (contexts_of new.iommu))
    (alike_registers : ShowAlike (registers_of new.iommu) (registers_of old.iommu))
    (may : IsSendable (scene_of trusted old) (said_on device (sent.Answer epoch page says)))
    (change : TranslationsChange (scene_of trusted old) (mappings_in (translations_of new.iommu)))
    (memory : MemoryChanges (scene_of trusted old) (slice_get new.memory)) where
  question_answered : Comes (scene_of trusted old) (scene_of trusted new)
  question_answered =
      let s = scene_of trusted old in
      let mode = directory_mode (registers_of old.iommu) in
      let messages = map message_of (with_message (remove old.fabric place) device (sent.Answer epoch page says)) in
      let t = record s { messages = messages } in
      let last = record t { translations = mappings_in (translations_of new.iommu); contexts = contexts_in mode (contexts_of new.iommu); memory = slice_get new.memory } in
      ends_as s last (scene_of trusted new)
      (scene_is trusted new new.memory (registers_of new.iommu) (contexts_of new.iommu) (translations_of new.iommu) (flights_of old.iommu).rows old.devices
      (with_message (remove old.fabric place) device (sent.Answer epoch page says))
      refl refl refl refl (ap (λ (f : Flights). f.rows) flights) devices fabric
      ∙ alike_registers trusted new.memory (contexts_of new.iommu) (translations_of new.iommu) (flights_of old.iommu).rows old.devices
      (with_message (remove old.fabric place) device (sent.Answer epoch page says)))
      (in_succession s t last
      (one CarryMessages tt s t (
        messages,
        (λ message is. elim (left_cases old.fabric place device (sent.Answer epoch page says) message is) [
          | inl same ↦ inl (subst (IsSendable s) same may)
          | inr before ↦ inr before
        ]),
        refl,
      ))
      (all_change t device (mappings_in (translations_of new.iommu)) (contexts_in mode (contexts_of new.iommu)) (slice_get new.memory)
      (change_so s s.in_flight messages (mappings_in (translations_of new.iommu)) change)
      (context_kept trusted old device (contexts_of new.iommu) there contexts) memory))

page_back : (page : ℕ) → page * 4096 / 4096 ≡ page
page_back page = omega arith

-- by the context that lets it through
told_by : (trusted : ℕ → Bool) (old : BoardParts) (device epoch page : ℕ) (sure : Bool) (found : Result DeviceContext Cause) (answer : Translation) (kept : Translations)
    → HasDevice (scene_of trusted old) device → Contains (map message_of old.fabric) (Question device epoch page)
    → found ≡ ats_context_for old.memory (registers_of old.iommu) (contexts_of old.iommu) device
    → ServesBy sure found old.memory (page * 4096) Read (translations_of old.iommu) (Ok answer) kept
    → IsSendable (scene_of trusted old) (Answer device epoch page (mapping_of answer)) × TranslationsChange (scene_of trusted old) (mappings_in kept)
told_by trusted old device epoch page sure (Err cause) answer kept there asked is (says, unchanged) = absurd (cc)
told_by trusted old device epoch page sure (Ok context) answer kept there asked is serves =
    let (find, set) = may_find_ats trusted old device context there (sym is) in
    let so = answered_by trusted old device context context.first_stage context.second_stage sure (page * 4096) Read answer kept find refl serves in (
      (
        asked,
        (
          context_of context,
          find,
          set,
          subst (λ n. TranslatesTo (scene_of trusted old) (context_of context) n (mapping_of answer)) (page_back page) so.translates,
        ),
      ),
      so.change,
    )

unless_alike : (b : Bool) (memory : List (List ℕ)) (r : Registers) (f : Fields) (new : List (List ℕ)) (s : Registers) → RecordsUnless b memory r f new s → ShowAlike s r
unless_alike true memory r f new s (kept, same) = alike s r same
unless_alike false memory r f new s (answer, puts) = recorded_alike memory r f answer new s puts

unless_there : (b : Bool) (memory : List (List ℕ)) (r : Registers) (f : Fields) (new : List (List ℕ)) (s : Registers) → RecordsUnless b memory r f new s
    → (◌≡◌ {A = ℕ → Option (List ℕ)} (slice_get new) (slice_get memory))
    ⊎ ((frame : ℕ) × Contains (fault_frames_of r) frame × DiffersAt frame (slice_get memory) (slice_get new))
unless_there true memory r f new s (kept, same) = inl (ap slice_get kept)
unless_there false memory r f new s (answer, puts) = recorded_there memory r f answer new s puts

question_arrives : (trusted : ℕ → Bool) (old : BoardParts) (place device epoch page : ℕ) (answer : Told) (new : BoardParts) → HasDevice (scene_of trusted old) device
    → Contains (map message_of old.fabric) (Question device epoch page)
    → AnswersAsk old device epoch page (remove old.fabric place) answer new → Comes (scene_of trusted old) (scene_of trusted new)
question_arrives trusted old place device epoch page (reply.Page frame rights) new there asked answers =
    let is = answers.call.0 in
    let (may, change) = told_by trusted old device epoch page true (ats_context_for old.memory (registers_of old.iommu) (contexts_of old.iommu) device)
    (record { frame = frame; rights = rights; order = is.order }) (translations_of new.iommu) there asked refl is.served in
    question_answered trusted old new place device epoch page (reply.Page frame rights) there answers.fabric answers.devices (ap (λ parts. parts.flights) is.rest) is.contexts
    (alike (registers_of new.iommu) (registers_of old.iommu) (ap (λ parts. parts.registers) is.rest)) may change (inl (ap slice_get answers.call.1))
question_arrives trusted old place device epoch page (reply.Refused cause) new there asked answers =
    let is = answers.call in
    let fields = record_of (faulted_of device AtsRequest (page * 4096)) (fault_of is.fault) in
    question_answered trusted old new place device epoch page (reply.Refused cause) there answers.fabric answers.devices (ap (λ parts. parts.flights) is.rest) is.contexts
    (unless_alike (is_page_fault is.fault.cause) old.memory (registers_of old.iommu) fields new.memory (registers_of new.iommu) is.recorded) tt
    (inl (stays_shown (translations_of old.iommu) (translations_of new.iommu)
    (faults_by true (ats_context_for old.memory (registers_of old.iommu) (contexts_of old.iommu) device) old.memory (page * 4096) Read (translations_of old.iommu) is.fault (translations_of new.iommu) is.served)))
    (unless_there (is_page_fault is.fault.cause) old.memory (registers_of old.iommu) fields new.memory (registers_of new.iommu) is.recorded)

-- THE MESSAGE IS UNDER WAY NO MORE, and devices are as they were
gone : (trusted : ℕ → Bool) (old : BoardParts) (place : ℕ) (new : BoardParts) (devices : List Device) → devices ≡ old.devices
    → new ≡ record old { devices = devices; fabric = remove old.fabric place } → Comes (scene_of trusted old) (scene_of trusted new)
gone trusted old place new devices same is =
    carried trusted old new (remove old.fabric place) (is ∙ ap (λ (ds : List Device). record old { devices = ds; fabric = remove old.fabric place }) same)
    (λ message there. inr (map_among message_of (remove old.fabric place) old.fabric (remove_among old.fabric place) message there))

-- AN ANSWER

-- one more entry is kept: each other was there
with_entry_among : (entries : List Entry) (own : Entry) (x : AtsEntry) → Contains (map kept_entry (with_entry entries own)) x
    → (x ≡ kept_entry own) ⊎ Contains (map kept_entry entries) x
with_entry_among entries own x c =
    let (entry, there, is) = map_cases kept_entry (with_entry entries own) x c in
    let left = outside (range.Page own.page) entries in
    elim (Contains-push_cases (with_room left) own entry there) [
      | inl before ↦ inr (subst (Contains (map kept_entry entries)) is (contains_map kept_entry entries entry
          (filter_among (λ (e : Entry). not (range_covers (range.Page own.page) e.page)) entries entry (room left entry before))))
      | inr same ↦ inl (sym is ∙ ap kept_entry (sym same))
    ]
  where
    room : (left : List Entry) (entry : Entry) → Contains (with_room left) entry → Contains left entry
    room left entry there = by (nat_lt (length left) 32) there
      where
        by : (b : Bool) → Contains (if b then left else drop 1 left) entry → Contains left entry
        by true is = is
        by false is = drop_among 1 left entry is

module _ (trusted : ℕ → Bool) (old new : BoardParts) (place device epoch page : ℕ) (mapping : Mapping) (cache kept : Cache) (own : Entry)
    (at : cache_of old.devices device ≡ Some cache) (there : Contains (map message_of old.fabric) (Answer device epoch page mapping))
    (now : epoch ≡ cache.epoch) (is_kept : kept ≡ record { epoch = cache.epoch; entries = with_entry cache.entries own }) (own_entry : kept_entry own ≡ record { page = page; mapping = mapping })
    (is : new ≡ record old { devices = with_cache old.devices device (Some kept); fabric = remove old.fabric place }) where
  entries_with : AreAmongWithOf (entries_in (with_cache old.devices device (Some kept))) device (record { page = page; mapping = mapping }) (entries_in old.devices)
  entries_with d x c = elim (eqb_tells d device) [
    | inl e ↦
        let (found, stands, its) = cache_there old.devices device cache at in
        let shown : cache_of (with_cache old.devices device (Some kept)) d ≡ Some kept =
        ap (λ k. cache_of (with_cache old.devices device (Some kept)) k) e.1 ∙ cache_set old.devices device (Some kept) found stands in
        let mine : Contains (map kept_entry (with_entry cache.entries own)) x =
        subst (λ (k : Cache). Contains (map kept_entry k.entries) x) is_kept (subst (λ o. Contains (kept_entries o) x) shown c) in
        elim (with_entry_among cache.entries own x mine) [
          | inl same ↦ inl (e.1, same ∙ own_entry)
          | inr before ↦ inr (subst (λ o. Contains (kept_entries o) x) (sym (ap (λ k. cache_of old.devices k) e.1 ∙ at)) before)
        ]
    | inr ne ↦ inr (subst (λ o. Contains (kept_entries o) x) (cache_other old.devices device (Some kept) d ne.1) c)
  ]

  epochs_stay : epoch_in (with_cache old.devices device (Some kept)) ≡ epoch_in old.devices
  epochs_stay = same_function (epoch_in (with_cache old.devices device (Some kept))) (epoch_in old.devices) (λ d. elim (eqb_tells d device) [
    | inl e ↦
        let (found, stands, its) = cache_there old.devices device cache at in
        ap epoch_of (ap (λ k. cache_of (with_cache old.devices device (Some kept)) k) e.1 ∙ cache_set old.devices device (Some kept) found stands)
        ∙ ap (λ (k : Cache). k.epoch) is_kept ∙ sym (ap epoch_of (ap (λ k. cache_of old.devices k) e.1 ∙ at))
    | inr ne ↦ ap epoch_of (cache_other old.devices device (Some kept) d ne.1)
  ])

  answer_kept : Comes (scene_of trusted old) (scene_of trusted new)
  answer_kept =
      let s = scene_of trusted old in
      let entries = entries_in (with_cache old.devices device (Some kept)) in
      let between : BoardParts = record old { devices = with_cache old.devices device (Some kept) } in
      in_succession s (scene_of trusted between) (scene_of trusted new)
      (one DeliverAnswer tt s (scene_of trusted between) (
        device,
        epoch,
        page,
        mapping,
        entries,
        there,
        (now ∙ sym (ap epoch_of at)),
        entries_with,
        with_devices trusted old device (Some kept) ∙ ap (λ (e : ℕ → ℕ). record s { ats_entries = entries; epoch_of = e }) epochs_stay,
      ))
      (carried trusted between new (remove old.fabric place) is
      (λ message c. inr (map_among message_of (remove old.fabric place) old.fabric (remove_among old.fabric place) message c)))

answer_taken : (trusted : ℕ → Bool) (old : BoardParts) (place device epoch page : ℕ) (answer : Told) (taking : HowTaken) (cache kept : Cache) (new : BoardParts)
    → cache_of old.devices device ≡ Some cache → Contains (map message_of old.fabric) (said_on device (sent.Answer epoch page answer))
    → TakesAnswer cache epoch page answer taking kept
    → new ≡ record old { devices = with_cache old.devices device (Some kept); fabric = remove old.fabric place } → Comes (scene_of trusted old) (scene_of trusted new)
answer_taken trusted old place device epoch page answer taken.Stale cache kept new at there (other, same) is =
    gone trusted old place new (with_cache old.devices device (Some kept))
    (ap (λ c. with_cache old.devices device c) (ap Some same ∙ sym at) ∙ cache_kept old.devices device) is
answer_taken trusted old place device epoch page (reply.Refused cause) taken.Refused cache kept new at there (own, same) is =
    gone trusted old place new (with_cache old.devices device (Some kept))
    (ap (λ c. with_cache old.devices device c) (ap Some same ∙ sym at) ∙ cache_kept old.devices device) is
answer_taken trusted old place device epoch page (reply.Page frame rights) taken.Refused cache kept new at there never is = absurd never
answer_taken trusted old place device epoch page (reply.Refused cause) taken.Kept cache kept new at there never is = absurd never
answer_taken trusted old place device epoch page (reply.Page frame rights) taken.Kept cache kept new at there (own, same) is =
    answer_kept trusted old new place device epoch page (record { frame = frame; rights = rights }) cache kept (record { page = page; frame = frame; rights = rights }) at there own same refl is

answer_arrives : (trusted : ℕ → Bool) (old : BoardParts) (place device epoch page : ℕ) (answer : Told) (delivered : Delivered) (new : BoardParts)
    → Contains (map message_of old.fabric) (said_on device (sent.Answer epoch page answer))
    → TakesReplied old device epoch page answer (remove old.fabric place) delivered new → Comes (scene_of trusted old) (scene_of trusted new)
answer_arrives trusted old place device epoch page answer delivered new there takes =
    by (cache_of old.devices device) refl delivered takes.after takes.cache takes.rest
  where
    by : (found : Option Cache) → cache_of old.devices device ≡ found → (delivered : Delivered) (after : Option Cache) → TakesReply found epoch page answer delivered after
        → new ≡ with_delivery old device after (remove old.fabric place) → Comes (scene_of trusted old) (scene_of trusted new)
    by None at Ignored after none is =
        gone trusted old place new (with_cache old.devices device after) (ap (λ c. with_cache old.devices device c) (none ∙ sym at) ∙ cache_kept old.devices device) is
    by None at _ after never is = absurd never
    by (Some cache) at (Taken taking) after (kept, takes, same) is =
        answer_taken trusted old place device epoch page answer taking cache kept new at there takes
        (is ∙ ap (λ (c : Option Cache). record old { devices = with_cache old.devices device c; fabric = remove old.fabric place }) same)
    by (Some cache) at _ after never is = absurd never

-- A REQUEST TO INVALIDATE

obeys : (trusted : ℕ → Bool) (old : BoardParts) (place device serial : ℕ) (range : Range) (says : Option Sent) (fabric : List OnLink) (new : BoardParts) (after : Option Cache)
    → (found : Option Cache) → cache_of old.devices device ≡ found → Obeys found serial range says after
    → ((done : Sent) → says ≡ Some done → fabric ≡ with_message (remove old.fabric place) device done) → (says ≡ None → fabric ≡ remove old.fabric place)
    → new ≡ with_delivery old device after fabric → Comes (scene_of trusted old) (scene_of trusted new)
obeys trusted old place device serial range None fabric new after None at none sends quiet is =
    gone trusted old place new (with_cache old.devices device after) (ap (λ c. with_cache old.devices device c) (none ∙ sym at) ∙ cache_kept old.devices device)
    (is ∙ ap (λ (f : List OnLink). with_delivery old device after f) (quiet refl))
obeys trusted old place device serial range (Some done) fabric new after None at never sends quiet is = absurd never
obeys trusted old place device serial range None fabric new after (Some cache) at never sends quiet is = absurd never
obeys trusted old place device serial range (Some done) fabric new after (Some cache) at (left, effect, same) sends quiet is =
    let between : BoardParts = record old { devices = with_cache old.devices device (Some left) } in
    let left_is = effect.left in
    in_succession (scene_of trusted old) (scene_of trusted between) (scene_of trusted new)
    (drops trusted old between device cache left at (ap (λ (c : Cache). c.epoch) left_is)
    (λ x there. map_among kept_entry (outside range cache.entries) cache.entries (filter_among (λ (e : Entry). not (range_covers range e.page)) cache.entries) x
    (subst (λ (c : Cache). Contains (map kept_entry c.entries) x) left_is there)) refl)
    (carried trusted between new (with_message (remove old.fabric place) device done)
    (is ∙ ap (λ (c : Option Cache). with_delivery old device c fabric) same ∙ ap (λ (f : List OnLink). with_delivery old device (Some left) f) (sends done refl))
    (λ message there. elim (left_cases old.fabric place device done message there) [
      | inl own ↦ inl (subst (IsSendable (scene_of trusted between)) (ap (said_on device) (sym effect.done) ∙ own) tt)
      | inr before ↦ inr before
    ]))

invalidation_arrives : (trusted : ℕ → Bool) (old : BoardParts) (place device serial : ℕ) (range : Range) (delivered : Delivered) (new : BoardParts)
    → ObeysInvalidation old device serial range (remove old.fabric place) delivered new → Comes (scene_of trusted old) (scene_of trusted new)
invalidation_arrives trusted old place device serial range (Invalidated named) new (same, (done, after, effect, is)) =
    obeys trusted old place device serial range (Some done) (with_message (remove old.fabric place) device done) new after (cache_of old.devices device) refl effect
    (λ other reply. ap (with_message (remove old.fabric place) device) (let e : done ≡ other = cc in e)) (λ never. absurd (cc)) is
invalidation_arrives trusted old place device serial range Ignored new (after, effect, is) =
    obeys trusted old place device serial range None (remove old.fabric place) new after (cache_of old.devices device) refl effect
    (λ other never. absurd (cc)) (λ reply. refl) is
invalidation_arrives trusted old place device serial range _ new never = absurd never

-- THE WORD THAT ONE IS COMPLETED
completion_arrives : (trusted : ℕ → Bool) (old : BoardParts) (place device serial : ℕ) (closed : Bool) (new : BoardParts)
    → TakesCompletion old device serial (remove old.fabric place) closed new → Comes (scene_of trusted old) (scene_of trusted new)
completion_arrives trusted old place device serial closed new takes =
    let same = takes.call.left in
    let s = scene_of trusted old in
    one CarryMessages tt s (scene_of trusted new) (
      map message_of (remove old.fabric place),
      (λ message there. inr (map_among message_of (remove old.fabric place) old.fabric (remove_among old.fabric place) message there)),
      scene_is trusted new old.memory (registers_of old.iommu) (contexts_of old.iommu) (translations_of old.iommu) (flights_of old.iommu).rows old.devices (remove old.fabric place)
          takes.memory (ap (λ i. registers_of i) same) (ap (λ i. contexts_of i) same) (ap (λ i. translations_of i) same) (ap (λ i. (flights_of i).rows) same) takes.devices takes.fabric,
    )

-- ANY MESSAGE
arrives : (trusted : ℕ → Bool) (old : BoardParts) (place device : ℕ) (message : Sent) (delivered : Delivered) (new : BoardParts) → All (IsMessageOf old.devices) old.fabric
    → Contains old.fabric (record { device = device; message = message }) → MessageArrives message old device (remove old.fabric place) delivered new
    → Comes (scene_of trusted old) (scene_of trusted new)
arrives trusted old place device (sent.Ask epoch page) (Answered answer) new askers there effect =
    question_arrives trusted old place device epoch page answer new (asker trusted old device epoch page askers there)
    (contains_map message_of old.fabric (record { device = device; message = sent.Ask epoch page }) there) effect
arrives trusted old place device (sent.Answer epoch page answer) delivered new askers there effect =
    answer_arrives trusted old place device epoch page answer delivered new
    (contains_map message_of old.fabric (record { device = device; message = sent.Answer epoch page answer }) there) effect
arrives trusted old place device (sent.InvReq serial range) delivered new askers there effect = invalidation_arrives trusted old place device serial range delivered new effect
arrives trusted old place device (sent.InvDone serial) (Closed named) new askers there (same, effect) = completion_arrives trusted old place device serial true new effect
arrives trusted old place device (sent.InvDone serial) (NotClosed named) new askers there (same, effect) = completion_arrives trusted old place device serial false new effect
arrives trusted old place device message _ new askers there never = absurd never

pub delivers : (trusted : ℕ → Bool) (old : BoardParts) (place : ℕ) (delivered : Delivered) (new : BoardParts) → All (IsMessageOf old.devices) old.fabric
    → DeliversAtPlace old place delivered new → Comes (scene_of trusted old) (scene_of trusted new)
delivers trusted old place delivered new askers call = by (slice_get old.fabric place) refl call
  where
    by : (found : Option OnLink) → slice_get old.fabric place ≡ found → MessageArrivesIfAny found old (remove old.fabric place) delivered new → Comes (scene_of trusted old) (scene_of trusted new)
    by None at (none, same) = nothing (scene_of trusted old) (scene_of trusted new) (ap (scene_of trusted) same)
    by (Some on) at effect = arrives trusted old place on.device on.message delivered new askers (get_contains old.fabric place on at) effect
