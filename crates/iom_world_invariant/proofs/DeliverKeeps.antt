-- What stays true of a world where an answer, a request to invalidate, or the word that one is done arrives.
use Rattle.std.proofs.Common.{◌≡◌, ◌+◌, ◌<◌, ◌≤◌, ◌==◌, ◌&&◌, ◌⊎◌, ◌∙◌, inl, inr, ℕ, Bool, true, false, not, nat_lt, is_some, List, [], ◌∷◌, map, filter, length, drop, Contains, remove, slice_get, get_or, Option, None, Some, refl, sym, ap, subst, arith, if◌then◌else◌}
use Rattle.std.specs.List.{All}
use Rattle.std.specs.Option.{option_map}
use Rattle.std.proofs.lemmas.Bool.{false≢true, eqb-true, and_parts}
use Rattle.std.proofs.lemmas.List.Elements.{All-contains, Contains-push_cases}
use Rattle.iom_walk_coherence.specs.Walks.{Walk}
use Rattle.iom_ats_cache.specs.Cache.{Cache, range_covers, outside, with_room, with_entry}
use Rattle.iom_ats_cache.specs.Calls.{TakesAnswer}
use Rattle.iom_ats_cache.specs.declared.entry.Entry.{Entry}
use Rattle.iom_ats_cache.specs.declared.taken.Taken.{Taken}
use Rattle.iom_ats_cache.specs.declared.taken.Taken.TheVariants as taken
use Rattle.iom_command_queue.specs.declared.slot.Slot.{Slot}
use Rattle.iom_command_queue.specs.OpenSlots.{is_request, without_request}
use Rattle.iom_coherence.specs.Among.{AreAmongWith}
use Rattle.iom_coherence.specs.Attachments.{caches_translations}
use Rattle.iom_coherence.specs.Deliveries.{raised}
use Rattle.iom_coherence.specs.Fetches.{AreOutside}
use Rattle.iom_coherence.specs.Queue.{extent_covers}
use Rattle.iom_coherence.specs.Scene.{Answer, InvalidateRequest, InvalidateCompletion, Copy, Invalidation}
use Rattle.iom_coherence.proofs.ListLemmas.{in_none, cons_cases, contains_head, contains_tail, contains_filter, contains_from_filter, contains_map, same_function}
use Rattle.iom_driver.proofs.Lists.{differs}
use Rattle.iom_fabric.specs.declared.fabric.OnLink.{OnLink}
use Rattle.iom_fabric.specs.declared.message.Message.{Message}
use Rattle.iom_fabric.specs.declared.message.Message.TheVariants as sent
use Rattle.iom_fabric.specs.declared.message.Range.{Range}
use Rattle.iom_fabric.specs.declared.message.Range.TheVariants as ranges
use Rattle.iom_fabric.specs.declared.message.Translation.{Translation}
use Rattle.iom_fabric.specs.declared.message.Translation.TheVariants as reply
use Rattle.iom_base.specs.declared.rights.Rights.{Rights}
use Rattle.iom_iommu.specs.Parts.{slots_of}
use Rattle.iom_machine.specs.declared.outcome.Outcome.{Outcome}
use Rattle.iom_device.specs.declared.device.Device.{Device}
use Rattle.iom_device.specs.Caches.{device_with, kind_in, cache_in, cache_of, epoch_of, epoch_in, with_cache, HasItsCache}
use Rattle.iom_world_effects.specs.Deliveries.{TakesInto, TakesAnswered, ObeysRequest, HearsCompletion, with_completion_sent}
use Rattle.iom_device.specs.Calls.{Obeys}
use Rattle.iom_world_effects.specs.Messages.{with_sent}
use Rattle.iom_world_effects.specs.Parts.{Parts}
use Rattle.iom_world_effects.specs.Read.{values_of}
use Rattle.iom_world_effects.specs.Invariant.{InvariantWith, AreKnown, HasAsker}
use Rattle.iom_world_effects.specs.Traffic.{entry_copy, entries_by, entries_in, messages_in, extent_of_range, invalidation_by, invalidation_in_slot, traffic_of}
use Rattle.iom_world_effects.proofs.CacheSets.{kind_set, asker_set, epoch_set, ids_set, own_ids_set, caches_set, same_set, entries_set, entries_there}
use Rattle.iom_world_invariant.proofs.MessageKeeps.{left_among, there_at, askers_left, dropped_sound}
use Rattle.iom_world_effects.proofs.MessageLemmas.{sent_cases, the_one, askers_sent}
use Rattle.iom_world_effects.proofs.MessageScenes.{keep_entry_scene, obey_scene, close_scene}
use Rattle.iom_world_effects.proofs.PartsLemmas.{parts_are}
use Rattle.iom_world_effects.proofs.TrafficSound.{keeps_iommu, KeepsParts, rest_kept, traffic_sound}

-- what a map has is made of what the list has
map_cases : {X Y : Type 0} (f : X → Y) (xs : List X) (y : Y) → Contains (map f xs) y → (x : X) × Contains xs x × (f x ≡ y)
map_cases f [] y there = absurd (in_none y there)
map_cases f (x ∷ xs) y there = elim (cons_cases (f x) (map f xs) y there) [
  | inl same ↦ (x, contains_head x xs, same)
  | inr later ↦ let rest = map_cases f xs y later in (rest.0, contains_tail x xs rest.0 rest.1, rest.2)
]

-- an entry then was there, or is the new one
dropped_one : (entries : List Entry) (entry : Entry) → Contains (drop 1 entries) entry → Contains entries entry
dropped_one [] entry there = there
dropped_one (first ∷ others) entry there = contains_tail first others entry there

roomy : (entries : List Entry) (entry : Entry) → Contains (with_room entries) entry → Contains entries entry
roomy entries entry there = by (nat_lt (length entries) 32) there
  where
    by : (b : Bool) → Contains (if b then entries else drop 1 entries) entry → Contains entries entry
    by true there = there
    by false there = dropped_one entries entry there

kept_cases : (entries : List Entry) (new entry : Entry) → Contains (with_entry entries new) entry → (entry ≡ new) ⊎ Contains entries entry
kept_cases entries new entry there =
    let left = outside (ranges.Page new.page) entries in
    elim (Contains-push_cases (with_room left) new entry there) [
      | inl before ↦ inr (contains_from_filter (λ e. not (range_covers (ranges.Page new.page) e.page)) entries entry (roomy left entry before)).0
      | inr same ↦ inl (sym same)
    ]

-- a device with a cache is of a kind that has one
caching : (devices : List Device) (id : ℕ) (cache : Cache) → cache_of devices id ≡ Some cache → ((device : Device) → Contains devices device → HasItsCache device)
    → caches_translations (kind_in devices id) ≡ true
caching [] id cache has own = cc
caching (first ∷ others) id cache has own = by (first.id == id) (λ at. caching others id cache at (λ device there. own device (contains_tail first others device there))) has
  where
    by : (b : Bool) → (cache_of others id ≡ Some cache → caches_translations (kind_in others id) ≡ true) → cache_in (if b then Some first else device_with others id) ≡ Some cache
        → caches_translations (option_map (λ (device : Device). device.kind) (if b then Some first else device_with others id)) ≡ true
    by true rest at = sym (own first (contains_head first others)) ∙ ap is_some at
    by false rest at = rest at

-- a device with a cache is there
having_there : (devices : List Device) (id : ℕ) (cache : Cache) → cache_of devices id ≡ Some cache → is_some (device_with devices id) ≡ true
having_there devices id cache has = by (device_with devices id) has
  where
    by : (found : Option Device) → cache_in found ≡ Some cache → is_some found ≡ true
    by None at = cc
    by (Some device) at = refl

-- the devices where one has another cache are known as before
known_set : {walks : List Walk} (old : Parts) (events id : ℕ) (cache after : Cache) (fabric : List OnLink) → InvariantWith walks old events → cache_of old.devices id ≡ Some cache
    → All (HasAsker (with_cache old.devices id (Some after))) fabric → AreKnown (record old { devices = with_cache old.devices id (Some after); fabric = fabric })
known_set old events id cache after fabric invariants has askers = record {
  own_ids = own_ids_set old.devices id (Some after) invariants.known.own_ids;
  driver = invariants.known.driver ∙ sym (ids_set old.devices id (Some after));
  iommu = invariants.known.iommu ∙ sym (ids_set old.devices id (Some after));
  caches = caches_set old.devices id cache after has invariants.known.caches;
  trusted = λ d. invariants.known.trusted d ∙ ap caches_translations (sym (kind_set old.devices id (Some after) d));
  askers = askers;
}

-- all questions are still those of devices that are plugged in
askers_then : (devices : List Device) (id : ℕ) (cache : Option Cache) (fabric : List OnLink) → All (HasAsker devices) fabric → All (HasAsker (with_cache devices id cache)) fabric
askers_then devices id cache fabric askers = λ k d lt. asker_set devices id cache (get_or fabric k d) (askers k d lt)

-- AN ANSWER IS KEPT
module _ {walks : List Walk} (old : Parts) (events place device epoch page frame : ℕ) (rights : Rights) (cache after : Cache) (invariants : InvariantWith walks old events)
    (at : slice_get old.fabric place ≡ Some (record { device = device; message = sent.Answer epoch page (reply.Page frame rights) })) (has : cache_of old.devices device ≡ Some cache)
    (current : epoch ≡ cache.epoch)
    (kept : after ≡ record { epoch = cache.epoch; entries = with_entry cache.entries (record { page = page; frame = frame; rights = rights }) }) where
  abbrev copy : Copy
  copy = record { device = device; page = page; pair = (frame, rights) }

  abbrev entry : Entry
  entry = record { page = page; frame = frame; rights = rights }

  abbrev others : List OnLink
  others = remove old.fabric place

  abbrev new : Parts
  new = record old { devices = with_cache old.devices device (Some after); fabric = remove old.fabric place }

  same_epoch : (d : ℕ) → epoch_in (with_cache old.devices device (Some after)) d ≡ epoch_in old.devices d
  same_epoch d = epoch_set old.devices device cache after d has ∙ by (device == d) refl
    where
      by : (b : Bool) → (device == d) ≡ b → (if b then after.epoch else epoch_in old.devices d) ≡ epoch_in old.devices d
      by true is = ap (λ (c : Cache). c.epoch) kept ∙ sym (ap epoch_of has) ∙ ap (epoch_in old.devices) (eqb-true device d is)
      by false is = refl

  one_more : AreAmongWith (entries_in (with_cache old.devices device (Some after))) copy (entries_in old.devices)
  one_more x there = elim (entries_set old.devices device (Some after) x invariants.known.own_ids (having_there old.devices device cache has) there) [
    | inl mine ↦
        let from = map_cases (entry_copy device) after.entries x mine in
        let inside : Contains (with_entry cache.entries entry) from.0 = subst (λ (c : Cache). Contains c.entries from.0) kept from.1 in
        elim (kept_cases cache.entries entry from.0 inside) [
          | inl same ↦ inl (sym from.2 ∙ ap (entry_copy device) same)
          | inr before ↦ inr (entries_there old.devices device cache x has (subst (Contains (entries_by device (Some cache))) from.2 (contains_map (entry_copy device) cache.entries from.0 before)))
        ]
    | inr was ↦ inr was.0
  ]

  keeps : KeepsParts old new
  keeps = record { memory = refl; driver = refl; iommu = keeps_iommu old.iommu old.iommu refl; kinds = kind_set old.devices device (Some after) }

  pub kept_sound : InvariantWith walks (record old { devices = with_cache old.devices device (Some after); fabric = remove old.fabric place }) events
  kept_sound =
      traffic_sound old new events invariants keeps
      (known_set old events device cache after others invariants has (askers_then old.devices device (Some after) others (askers_left old.devices old.fabric place invariants.known.askers)))
      (λ d. subst (λ (n : ℕ). n ≤ events) (sym (same_epoch d)) (invariants.epochs d))
      (keep_entry_scene (values_of old) (values_of new) epoch copy (entries_in (with_cache old.devices device (Some after))) (messages_in others) (rest_kept old new keeps)
      (ap (λ (es : ℕ → ℕ). record (traffic_of (with_cache old.devices device (Some after)) others (slots_of old.iommu)) { epoch_of = es })
      (same_function (epoch_in (with_cache old.devices device (Some after))) (epoch_in old.devices) same_epoch))
      (there_at old.fabric place (record { device = device; message = sent.Answer epoch page (reply.Page frame rights) }) (Answer epoch copy) at (contains_head (Answer epoch copy) []))
      (current ∙ sym (ap epoch_of has)) one_more (λ x there. left_among old.fabric place x there) walks)

-- where the cache stays as it is, the message is merely gone
unchanged : {walks : List Walk} (old later : Parts) (events place device : ℕ) (after : Option Cache) → InvariantWith walks old events → cache_of old.devices device ≡ after
    → later ≡ record old { devices = with_cache old.devices device after; fabric = remove old.fabric place } → InvariantWith walks later events
unchanged {walks = walks} old later events place device after invariants has rest =
    subst (λ parts. InvariantWith walks parts events)
    (sym (rest ∙ ap (λ (ds : List Device). record old { devices = ds; fabric = remove old.fabric place }) (same_set old.devices device after has)))
    (dropped_sound old events place invariants)

-- AN ANSWER ARRIVES
pub keeps_taken : {walks : List Walk} (old new : Parts) (events place device epoch page : ℕ) (answer : Translation) (outcome : Outcome) → InvariantWith walks old events
    → slice_get old.fabric place ≡ Some (record { device = device; message = sent.Answer epoch page answer })
    → TakesAnswered old device epoch page answer (remove old.fabric place) outcome new → InvariantWith walks new events
keeps_taken {walks = walks} old new events place device epoch page answer outcome invariants at takes = by (cache_of old.devices device) refl takes.cache
  where
    Leaves : Option Cache → Type 0
    Leaves after = new ≡ record old { devices = with_cache old.devices device after; fabric = remove old.fabric place }

    leaves : (after : Option Cache) → takes.after ≡ after → Leaves after
    leaves after is = takes.rest ∙ ap (λ c. record old { devices = with_cache old.devices device c; fabric = remove old.fabric place }) is

    some : (cache kept : Cache) (taking : Taken) (answer : Translation) → cache_of old.devices device ≡ Some cache
        → slice_get old.fabric place ≡ Some (record { device = device; message = sent.Answer epoch page answer })
        → TakesAnswer cache epoch page answer taking kept → Leaves (Some kept) → InvariantWith walks new events
    some cache kept taken.Stale answer has at takes_it rest = unchanged old new events place device (Some kept) invariants (has ∙ ap Some (sym takes_it.1)) rest
    some cache kept taken.Refused (reply.Refused cause) has at takes_it rest = unchanged old new events place device (Some kept) invariants (has ∙ ap Some (sym takes_it.1)) rest
    some cache kept taken.Refused (reply.Page frame rights) has at takes_it rest = absurd takes_it
    some cache kept taken.Kept (reply.Refused cause) has at takes_it rest = absurd takes_it
    some cache kept taken.Kept (reply.Page frame rights) has at takes_it rest =
        subst (λ parts. InvariantWith walks parts events) (sym rest) (kept_sound old events place device epoch page frame rights cache kept invariants at has takes_it.0 takes_it.1)

    by : (found : Option Cache) → cache_of old.devices device ≡ found → TakesInto found epoch page answer outcome takes.after → InvariantWith walks new events
    by None has into = unchanged old new events place device None invariants has (leaves None into.1)
    by (Some cache) has into = some cache into.1 into.0 answer has at into.2 (leaves (Some into.1) into.4)

-- A REQUEST TO INVALIDATE IS OBEYED
same_cover : (range : Range) (page : ℕ) → extent_covers (extent_of_range range) page ≡ range_covers range page
same_cover (ranges.Page own) page = refl
same_cover ranges.Everything page = refl

not_false : (b : Bool) → not b ≡ true → b ≡ false
not_false true it = absurd (false≢true it)
not_false false it = refl

and_false : (a b : Bool) → b ≡ false → (a && b) ≡ false
and_false true b is = is
and_false false b is = refl

module _ {walks : List Walk} (old : Parts) (events place device serial : ℕ) (range : Range) (cache after : Cache) (invariants : InvariantWith walks old events)
    (at : slice_get old.fabric place ≡ Some (record { device = device; message = sent.InvReq serial range })) (has : cache_of old.devices device ≡ Some cache)
    (left : after ≡ record { epoch = cache.epoch + 1; entries = outside range cache.entries }) (below : epoch_in old.devices device < events) where
  abbrev gone : List OnLink
  gone = remove old.fabric place

  abbrev fabric : List OnLink
  fabric = with_sent (remove old.fabric place) device (sent.InvDone serial)

  abbrev obeyed : Parts
  obeyed = record old { devices = with_cache old.devices device (Some after); fabric = with_sent (remove old.fabric place) device (sent.InvDone serial) }

  its_epoch : (d : ℕ) → epoch_in (with_cache old.devices device (Some after)) d ≡ (if device == d then epoch_in old.devices d + 1 else epoch_in old.devices d)
  its_epoch d = epoch_set old.devices device cache after d has ∙ by (device == d) refl
    where
      by : (b : Bool) → (device == d) ≡ b → (if b then after.epoch else epoch_in old.devices d) ≡ (if b then epoch_in old.devices d + 1 else epoch_in old.devices d)
      by true is = ap (λ (c : Cache). c.epoch) left ∙ ap (λ (n : ℕ). n + 1) (sym (ap epoch_of has) ∙ ap (epoch_in old.devices) (eqb-true device d is))
      by false is = refl

  risen : (d : ℕ) → epoch_in (with_cache old.devices device (Some after)) d ≡ raised (kind_in old.devices) (epoch_in old.devices) device d
  risen d = its_epoch d ∙ by (device == d) refl
    where
      by : (b : Bool) → (device == d) ≡ b
          → (if b then epoch_in old.devices d + 1 else epoch_in old.devices d) ≡ (if b && caches_translations (kind_in old.devices d) then epoch_in old.devices d + 1 else epoch_in old.devices d)
      by true is =
          let caches : caches_translations (kind_in old.devices d) ≡ true =
          subst (λ n. caches_translations (kind_in old.devices n) ≡ true) (eqb-true device d is)
          (caching old.devices device cache has (λ one there. All-contains HasItsCache old.devices one invariants.known.caches there)) in
          ap (λ (c : Bool). if c then epoch_in old.devices d + 1 else epoch_in old.devices d) (sym caches)
      by false is = refl

  epochs_then : (d : ℕ) → epoch_in (with_cache old.devices device (Some after)) d ≤ events
  epochs_then d = subst (λ (n : ℕ). n ≤ events) (sym (its_epoch d)) (by (device == d) refl)
    where
      by : (b : Bool) → (device == d) ≡ b → (if b then epoch_in old.devices d + 1 else epoch_in old.devices d) ≤ events
      by true is = let low : epoch_in old.devices d < events = subst (λ n. epoch_in old.devices n < events) (eqb-true device d is) below in omega (arith, low)
      by false is = invariants.epochs d

  are_outside : AreOutside (entries_in (with_cache old.devices device (Some after))) device (extent_of_range range) (entries_in old.devices)
  are_outside x there = elim (entries_set old.devices device (Some after) x invariants.known.own_ids (having_there old.devices device cache has) there) [
    | inl mine ↦
        let from = map_cases (entry_copy device) after.entries x mine in
        let inside : Contains (outside range cache.entries) from.0 = subst (λ (c : Cache). Contains c.entries from.0) left from.1 in
        let was = contains_from_filter (λ e. not (range_covers range e.page)) cache.entries from.0 inside in (
          entries_there old.devices device cache x has (subst (Contains (entries_by device (Some cache))) from.2 (contains_map (entry_copy device) cache.entries from.0 was.0)),
          and_false (device == x.device) (extent_covers (extent_of_range range) x.page)
              (subst (λ (c : Copy). extent_covers (extent_of_range range) c.page ≡ false) from.2 (same_cover range from.0.page ∙ not_false (range_covers range from.0.page) was.1)),
        )
    | inr other ↦ (
      other.0,
      ap (λ (b : Bool). b && extent_covers (extent_of_range range) x.page) (differs device x.device (λ same. other.1 (sym same))),
    )
  ]

  keeps_obeyed : KeepsParts old obeyed
  keeps_obeyed = record { memory = refl; driver = refl; iommu = keeps_iommu old.iommu old.iommu refl; kinds = kind_set old.devices device (Some after) }

  pub obeyed_sound : InvariantWith walks (record old { devices = with_cache old.devices device (Some after); fabric = with_sent (remove old.fabric place) device (sent.InvDone serial) }) events
  obeyed_sound =
      traffic_sound old obeyed events invariants keeps_obeyed
      (known_set old events device cache after fabric invariants has
      (askers_sent (with_cache old.devices device (Some after)) gone device (sent.InvDone serial)
      (askers_then old.devices device (Some after) gone (askers_left old.devices old.fabric place invariants.known.askers)) tt))
      epochs_then
      (obey_scene (values_of old) (values_of obeyed) (invalidation_by serial device) (extent_of_range range) (entries_in (with_cache old.devices device (Some after))) (messages_in fabric) (rest_kept old obeyed keeps_obeyed)
      (ap (λ (es : ℕ → ℕ). record (traffic_of (with_cache old.devices device (Some after)) fabric (slots_of old.iommu)) { epoch_of = es })
      (same_function (epoch_in (with_cache old.devices device (Some after))) (raised (kind_in old.devices) (epoch_in old.devices) device) risen))
      (there_at old.fabric place (record { device = device; message = sent.InvReq serial range }) (InvalidateRequest (invalidation_by serial device) (extent_of_range range)) at
      (contains_head (InvalidateRequest (invalidation_by serial device) (extent_of_range range)) []))
      are_outside
      (λ x there. elim (sent_cases gone device (sent.InvDone serial) x there) [
        | inl new ↦ inl (the_one (InvalidateCompletion (invalidation_by serial device)) x new)
        | inr before ↦ inr (left_among old.fabric place x before)
      ])
      walks)

-- A REQUEST TO INVALIDATE ARRIVES
pub keeps_requested : {walks : List Walk} (old new : Parts) (events place device serial : ℕ) (range : Range) (outcome : Outcome) → InvariantWith walks old events → epoch_in old.devices device < events
    → slice_get old.fabric place ≡ Some (record { device = device; message = sent.InvReq serial range })
    → ObeysRequest old device serial range (remove old.fabric place) outcome new → InvariantWith walks new events
keeps_requested {walks = walks} old new events place device serial range outcome invariants below at obeys = by (cache_of old.devices device) obeys.done refl obeys.cache obeys.rest
  where
    by : (found : Option Cache) (done : Option Message) → cache_of old.devices device ≡ found → Obeys found serial range done obeys.after
        → new ≡ record old { devices = with_cache old.devices device obeys.after; fabric = with_completion_sent (remove old.fabric place) device done } → InvariantWith walks new events
    by None None has is rest = unchanged old new events place device obeys.after invariants (has ∙ sym is) rest
    by None (Some done) has is rest = absurd is
    by (Some cache) None has is rest = absurd is
    by (Some cache) (Some done) has (left, invalidates, is) rest =
        subst (λ parts. InvariantWith walks parts events)
        (sym (rest ∙ ap (λ c. record old { devices = with_cache old.devices device c; fabric = with_sent (remove old.fabric place) device done }) is
        ∙ ap (λ m. record old { devices = with_cache old.devices device (Some left); fabric = with_sent (remove old.fabric place) device m }) invalidates.done))
        (obeyed_sound old events place device serial range cache left invariants at has invalidates.left below)

-- THE WORD ARRIVES that a request is done
request_is : (serial device : ℕ) (slot : Slot) → is_request serial device slot ≡ true → invalidation_in_slot slot ≡ invalidation_by serial device
request_is serial device slot is =
    let both = and_parts (slot.serial == serial) (slot.device == device) is in
    ap (λ n. invalidation_by n slot.device) (eqb-true slot.serial serial both.0) ∙ ap (invalidation_by serial) (eqb-true slot.device device both.1)

closed_by : (slots : List Slot) (serial device : ℕ) (slot : Slot) → Contains slots slot
    → (invalidation_in_slot slot ≡ invalidation_by serial device) ⊎ Contains (map invalidation_in_slot (filter (λ s. not (is_request serial device s)) slots)) (invalidation_in_slot slot)
closed_by slots serial device slot inside = by (is_request serial device slot) refl
  where
    by : (b : Bool) → is_request serial device slot ≡ b
        → (invalidation_in_slot slot ≡ invalidation_by serial device) ⊎ Contains (map invalidation_in_slot (filter (λ s. not (is_request serial device s)) slots)) (invalidation_in_slot slot)
    by true is = inl (request_is serial device slot is)
    by false is = inr (contains_map invalidation_in_slot (filter (λ s. not (is_request serial device s)) slots) slot (contains_filter (λ s. not (is_request serial device s)) slots slot inside (ap not is)))

closed_or : (slots : List Slot) (serial device : ℕ) (one : Invalidation) → Contains (map invalidation_in_slot slots) one
    → (one ≡ invalidation_by serial device) ⊎ Contains (map invalidation_in_slot (filter (λ slot. not (is_request serial device slot)) slots)) one
closed_or slots serial device one there =
    let from = map_cases invalidation_in_slot slots one there in
    subst (λ (o : Invalidation). (o ≡ invalidation_by serial device) ⊎ Contains (map invalidation_in_slot (filter (λ slot. not (is_request serial device slot)) slots)) o) from.2
    (closed_by slots serial device from.0 from.1)

still_open : (slots : List Slot) (serial device : ℕ) (one : Invalidation) → Contains (map invalidation_in_slot (filter (λ slot. not (is_request serial device slot)) slots)) one
    → Contains (map invalidation_in_slot slots) one
still_open slots serial device one there =
    let from = map_cases invalidation_in_slot (filter (λ slot. not (is_request serial device slot)) slots) one there in
    subst (Contains (map invalidation_in_slot slots)) from.2
    (contains_map invalidation_in_slot slots from.0 (contains_from_filter (λ slot. not (is_request serial device slot)) slots from.0 from.1).0)

-- the IOMMU where it is closed
heard_sound : {walks : List Walk} (old : Parts) (events place device serial : ℕ) → InvariantWith walks old events → slice_get old.fabric place ≡ Some (record { device = device; message = sent.InvDone serial })
    → InvariantWith walks (record old { iommu = record old.iommu { slots = without_request (slots_of old.iommu) serial device }; fabric = remove old.fabric place }) events
heard_sound {walks = walks} old events place device serial invariants at =
    let gone = remove old.fabric place in
    let new : Parts = record old { iommu = record old.iommu { slots = without_request (slots_of old.iommu) serial device }; fabric = remove old.fabric place } in
    let keeps : KeepsParts old new = record {
      memory = refl;
      driver = refl;
      iommu = record { registers = refl; contexts = λ id. refl; translations = λ key. refl; flights = refl; fence_snapshot = refl; frames = refl; last = refl };
      kinds = λ d. refl;
    } in
    let slots = (slots_of old.iommu).open_slots in
    traffic_sound old new events invariants keeps
    (record {
      own_ids = invariants.known.own_ids;
      driver = invariants.known.driver;
      iommu = invariants.known.iommu;
      caches = invariants.known.caches;
      trusted = invariants.known.trusted;
      askers = askers_left old.devices old.fabric place invariants.known.askers;
    })
    invariants.epochs
    (close_scene (values_of old) (values_of new) (invalidation_by serial device) (map invalidation_in_slot (filter (λ slot. not (is_request serial device slot)) slots)) (messages_in gone)
    (rest_kept old new keeps) refl
    (there_at old.fabric place (record { device = device; message = sent.InvDone serial }) (InvalidateCompletion (invalidation_by serial device)) at
    (contains_head (InvalidateCompletion (invalidation_by serial device)) []))
    (λ x there. still_open slots serial device x there) (λ x there. closed_or slots serial device x there) (λ x there. left_among old.fabric place x there) walks)

pub keeps_heard : {walks : List Walk} (old new : Parts) (events place device serial : ℕ) (outcome : Outcome) → InvariantWith walks old events
    → slice_get old.fabric place ≡ Some (record { device = device; message = sent.InvDone serial })
    → HearsCompletion old device serial (remove old.fabric place) outcome new → InvariantWith walks new events
keeps_heard {walks = walks} old new events place device serial outcome invariants at hears =
    subst (λ parts. InvariantWith walks parts events)
    (sym (parts_are new old.memory (record old.iommu { slots = without_request (slots_of old.iommu) serial device }) old.driver old.devices (remove old.fabric place) hears.memory hears.call.left hears.driver hears.devices hears.fabric))
    (heard_sound old events place device serial invariants at)
