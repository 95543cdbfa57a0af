-- What a reset of a device leaves: of the devices its cache alone changes, and what stays true of a world does.
use Rattle.std.proofs.Common.{◌≡◌, ◌+◌, ◌<◌, ◌≤◌, ◌==◌, ◌&&◌, ◌∙◌, inl, inr, ℕ, Bool, true, false, is_some, List, [], ◌∷◌, Contains, get_or, Option, None, Some, refl, sym, ap, subst, arith, if◌then◌else◌}
use Rattle.std.specs.Option.{option_map}
use Rattle.std.proofs.lemmas.Bool.{eqb-true}
use Rattle.std.proofs.lemmas.List.Elements.{All-contains}
use Rattle.iom_walk_coherence.specs.Transitions.{AreOfOthers}
use Rattle.iom_walk_coherence.specs.Walks.{Walk}
use Rattle.iom_ats_cache.specs.Cache.{Cache}
use Rattle.iom_command_queue.specs.OpenSlots.{OpenSlots}
use Rattle.iom_coherence.specs.Attachments.{caches_translations}
use Rattle.iom_coherence.specs.Deliveries.{AreOthers, raised}
use Rattle.iom_coherence.proofs.ListLemmas.{in_none, contains_head, contains_tail, same_function}
use Rattle.iom_driver.specs.Devices.{has_trusted_cache}
use Rattle.iom_driver.proofs.Lists.{differs}
use Rattle.iom_fabric.specs.declared.fabric.OnLink.{OnLink}
use Rattle.iom_iommu.specs.Parts.{flights_of, slots_of}
use Rattle.iom_machine.specs.declared.outcome.Outcome.{Outcome}
use Rattle.iom_machine.specs.declared.outcome.Outcome.TheVariants as outcome
use Rattle.iom_base.specs.declared.device_kind.DeviceKind.{DeviceKind}
use Rattle.iom_machine.specs.declared.state.State.{State}
use Rattle.iom_machine.specs.Machine.{Resets}
use Rattle.iom_device.specs.declared.device.Device.{Device}
use Rattle.iom_device.specs.Caches.{device_with, kind_in, cache_in, cache_of, epoch_of, epoch_in, with_cache, HasItsCache, HaveTheirCaches}
use Rattle.iom_world_effects.specs.Unchanged.{SameIfRefused, waiting_in}
use Rattle.iom_world_effects.specs.Parts.{Parts}
use Rattle.iom_world_effects.specs.Read.{values_of}
use Rattle.iom_device.specs.Calls.{reset_of, with_reset}
use Rattle.iom_world_effects.specs.Recovery.{ResetsDevice}
use Rattle.iom_world_effects.specs.Shows.{PartsShow}
use Rattle.iom_world_effects.specs.Invariant.{InvariantWith, AreKnown, HaveDistinctIds, known_ids}
use Rattle.iom_world_effects.specs.Traffic.{entries_by, entries_in, traffic_of}
use Rattle.iom_world_effects.proofs.CacheSets.{kind_set, asker_set, epoch_set, ids_set, own_ids_set, caches_set, same_set, entries_set, shown_set}
use Rattle.iom_world_effects.proofs.CallRefused.{same_parts}
use Rattle.iom_world_effects.proofs.PresentLemmas.{kind_present}
use Rattle.iom_world_effects.proofs.ResetScenes.{reset_scene}
use Rattle.iom_world_effects.proofs.RowPlaces.{absent_shown, present_found}
use Rattle.iom_world_effects.proofs.WalksLeft.{AreLeft, given_up}
use Rattle.iom_world_effects.proofs.TrafficSound.{keeps_iommu, KeepsParts, rest_kept, traffic_sound}

-- THE DEVICES

-- the device with this id has a cache exactly where its kind does
caches_as : (devices : List Device) (id : ℕ) → ((device : Device) → Contains devices device → HasItsCache device) → is_some (cache_of devices id) ≡ caches_translations (kind_in devices id)
caches_as [] id own = refl
caches_as (first ∷ others) id own = by (first.id == id) (caches_as others id (λ device there. own device (contains_tail first others device there)))
  where
    by : (b : Bool) → is_some (cache_of others id) ≡ caches_translations (kind_in others id)
        → is_some (cache_in (if b then Some first else device_with others id)) ≡ caches_translations (option_map (λ (device : Device). device.kind) (if b then Some first else device_with others id))
    by true rest = own first (contains_head first others)
    by false rest = rest

-- epochs rise as in a scene
pub reset_epoch : (devices : List Device) (id d : ℕ) → HaveTheirCaches devices → epoch_in (with_reset devices id) d ≡ raised (kind_in devices) (epoch_in devices) id d
reset_epoch devices id d caches = by (cache_of devices id) refl
  where
    up : Bool → Bool → ℕ
    up is cached = if is && cached then epoch_in devices d + 1 else epoch_in devices d

    cached : (found : Option Cache) → cache_of devices id ≡ found → (id == d) ≡ true → caches_translations (kind_in devices d) ≡ is_some found
    cached found has is =
        subst (λ n. caches_translations (kind_in devices n) ≡ is_some found) (eqb-true id d is)
        (sym (caches_as devices id (λ device there. All-contains HasItsCache devices device caches there)) ∙ ap is_some has)

    flat : (b : Bool) → (id == d) ≡ b → cache_of devices id ≡ None → epoch_in devices d ≡ up b (caches_translations (kind_in devices d))
    flat true is has = ap (up true) (sym (cached None has is))
    flat false is has = refl

    risen : (cache : Cache) (b : Bool) → (id == d) ≡ b → cache_of devices id ≡ Some cache
        → (if b then cache.epoch + 1 else epoch_in devices d) ≡ up b (caches_translations (kind_in devices d))
    risen cache true is has =
        ap (λ (n : ℕ). n + 1) (sym (ap epoch_of has) ∙ ap (epoch_in devices) (eqb-true id d is)) ∙ ap (up true) (sym (cached (Some cache) has is))
    risen cache false is has = refl

    by : (found : Option Cache) → cache_of devices id ≡ found → epoch_in (with_cache devices id (reset_of found)) d ≡ up (id == d) (caches_translations (kind_in devices d))
    by None has = ap (λ ds. epoch_in ds d) (same_set devices id None has) ∙ flat (id == d) refl has
    by (Some cache) has = epoch_set devices id cache (record { epoch = cache.epoch + 1; entries = [] }) d has ∙ risen cache (id == d) refl has

-- and none gets above a number, where the device's was below it
pub reset_epochs : (devices : List Device) (events id : ℕ) → HaveTheirCaches devices → ((d : ℕ) → epoch_in devices d ≤ events) → epoch_in devices id < events
    → (d : ℕ) → epoch_in (with_reset devices id) d ≤ events
reset_epochs devices events id caches most below d =
    subst (λ (n : ℕ). n ≤ events) (sym (reset_epoch devices id d caches)) (by (id == d) (caches_translations (kind_in devices d)) refl)
  where
    by : (b c : Bool) → (id == d) ≡ b → (if b && c then epoch_in devices d + 1 else epoch_in devices d) ≤ events
    by true true is = let low : epoch_in devices d < events = subst (λ n. epoch_in devices n < events) (eqb-true id d is) below in omega (arith, low)
    by true false is = most d
    by false c is = most d

-- the entries that are left are other devices'
pub reset_others : (devices : List Device) (id : ℕ) → HaveDistinctIds devices → is_some (device_with devices id) ≡ true → AreOthers (entries_in (with_reset devices id)) id (entries_in devices)
reset_others devices id own found copy there = elim (entries_set devices id (reset_of (cache_of devices id)) copy own found there) [
  | inl mine ↦ absurd (none (cache_of devices id) mine)
  | inr other ↦ (other.0, differs id copy.device (λ same. other.1 (sym same)))
]
  where
    none : (cache : Option Cache) → Contains (entries_by id (reset_of cache)) copy → ⊥
    none None mine = in_none copy mine
    none (Some cache) mine = in_none copy mine

-- what is under way is then as in a scene
pub reset_under_way : (devices : List Device) (fabric : List OnLink) (slots : OpenSlots) (id : ℕ) → HaveTheirCaches devices
    → traffic_of (with_reset devices id) fabric slots
    ≡ record (traffic_of devices fabric slots) { entries = entries_in (with_reset devices id); epoch_of = raised (kind_in devices) (epoch_in devices) id }
reset_under_way devices fabric slots id caches =
    ap (λ (es : ℕ → ℕ). record (traffic_of (with_reset devices id) fabric slots) { epoch_of = es })
    (same_function (epoch_in (with_reset devices id)) (raised (kind_in devices) (epoch_in devices) id) (λ d. reset_epoch devices id d caches))

-- each device still has a cache where its kind does
pub reset_caches : (devices : List Device) (id : ℕ) → HaveTheirCaches devices → HaveTheirCaches (with_reset devices id)
reset_caches devices id own = by (cache_of devices id) refl
  where
    by : (found : Option Cache) → cache_of devices id ≡ found → HaveTheirCaches (with_cache devices id (reset_of found))
    by None has = subst HaveTheirCaches (sym (same_set devices id None has)) own
    by (Some cache) has = caches_set devices id cache (record { epoch = cache.epoch + 1; entries = [] }) has own

-- the devices are known as before, where the driver knows the same ones and trusts the same
pub reset_known : (old new : Parts) (id : ℕ) → AreKnown old → new.devices ≡ with_reset old.devices id → known_ids new.driver.devices ≡ known_ids old.driver.devices
    → ((d : ℕ) → has_trusted_cache new.driver.devices d ≡ has_trusted_cache old.driver.devices d) → new.iommu ≡ old.iommu → new.fabric ≡ old.fabric → AreKnown new
reset_known old new id known devices ids trusted iommu fabric =
    let cache = reset_of (cache_of old.devices id) in
    record {
      own_ids = rw devices (own_ids_set old.devices id cache known.own_ids);
      driver = rw devices (ids ∙ known.driver ∙ sym (ids_set old.devices id cache));
      iommu = rw (devices, iommu) (known.iommu ∙ sym (ids_set old.devices id cache));
      caches = rw devices (reset_caches old.devices id known.caches);
      trusted = λ d. rw devices (trusted d ∙ known.trusted d ∙ ap caches_translations (sym (kind_set old.devices id cache d)));
      askers = rw (devices, fabric) (λ k d lt. asker_set old.devices id cache (get_or old.fabric k d) (known.askers k d lt));
    }

-- THE WORLD

-- a device that is known is there
pub found_there : (devices : List Device) (id : ℕ) (kind : DeviceKind) → kind_in devices id ≡ Some kind → is_some (device_with devices id) ≡ true
found_there devices id kind at = by (device_with devices id) at
  where
    by : (found : Option Device) → option_map (λ (device : Device). device.kind) found ≡ Some kind → is_some found ≡ true
    by None at = cc
    by (Some device) at = refl

pub reset_sound : {walks left : List Walk} (old : Parts) (events id : ℕ) → InvariantWith walks old events → AreOfOthers left id walks → epoch_in old.devices id < events → is_some (device_with old.devices id) ≡ true
    → InvariantWith left (record old { devices = with_reset old.devices id }) events
reset_sound {walks = walks} {left = left} old events id invariants of_others below found =
    let new : Parts = record old { devices = with_reset old.devices id } in
    let keeps : KeepsParts old new = record { memory = refl; driver = refl; iommu = keeps_iommu old.iommu old.iommu refl; kinds = kind_set old.devices id (reset_of (cache_of old.devices id)) } in
    traffic_sound old new events invariants keeps
    (reset_known old new id invariants.known refl refl (λ d. refl) refl refl)
    (reset_epochs old.devices events id invariants.known.caches invariants.epochs below)
    (reset_scene (values_of old) (values_of new) id (entries_in (with_reset old.devices id)) (rest_kept old new keeps)
    (reset_under_way old.devices old.fabric (slots_of old.iommu) id invariants.known.caches)
    (reset_others old.devices id invariants.known.own_ids found) walks left of_others)

-- ALL STAYS TRUE: walks of the device are given up, where it is reset
pub keeps_reset : {walks left : List Walk} (old new : Parts) (events id : ℕ) (reply : Outcome) → InvariantWith walks old events → epoch_in old.devices id < events → ResetsDevice old id reply new
    → AreLeft (reply ≡ outcome.Done) id left walks → InvariantWith left new events
keeps_reset {left = left} old new events id reply invariants below resets are_left = elim resets [
  | inl unknown ↦ subst (λ parts. InvariantWith left parts events) (sym unknown.same) (given_up old events are_left.0 invariants)
  | inr (able, reply_is, is) ↦ subst (λ parts. InvariantWith left parts events) (sym is) (reset_sound old events id invariants (are_left.1 reply_is) below (found_there old.devices id able.0 able.1))
]

-- what the machine knows of the devices is the same
pub shows_reset : (old new : Parts) (id : ℕ) (state : State) → new ≡ record old { devices = with_reset old.devices id } → PartsShow old state → PartsShow new state
shows_reset old new id state is shows = subst (λ parts. PartsShow parts state) (sym is) (record {
  ledger = shows.ledger;
  frames = shows.frames;
  devices = shows.devices ∙ sym (shown_set old.driver.devices (flights_of old.iommu).rows old.devices id (reset_of (cache_of old.devices id)));
  given = shows.given;
  confirmed = shows.confirmed;
  all_earlier = shows.all_earlier;
  none_later = shows.none_later;
  levels = shows.levels;
  limits = shows.limits;
})

-- THE STEP
pub reset_step : (old new : Parts) (id : ℕ) (reply : Outcome) → ResetsDevice old id reply new → (state : State) → PartsShow old state → Resets state id reply state × PartsShow new state
reset_step old new id reply resets state shows = elim resets [
  | inl unknown ↦ (
    rw (shows.devices, absent_shown old.driver.devices (flights_of old.iommu).rows old.devices id unknown.absent) (unknown.reply_is, refl),
    subst (λ parts. PartsShow parts state) (sym unknown.same) shows,
  )
  | inr (able, reply_is, is) ↦
      let there = present_found old.driver.devices (flights_of old.iommu).rows old.devices id (kind_present old.devices id able.0 able.1) in
      (rw (shows.devices, there.shown) (reply_is, refl), shows_reset old new id state is shows)
]

-- THE COMMANDS that wait are the same
pub reset_commands : (old new : Parts) (id : ℕ) (reply : Outcome) → ResetsDevice old id reply new → waiting_in new ≡ waiting_in old
reset_commands old new id reply resets = elim resets [
  | inl unknown ↦ ap waiting_in unknown.same
  | inr (able, reply_is, is) ↦ ap waiting_in is
]

-- A REFUSAL changes nothing
pub reset_refused : (old new : Parts) (id : ℕ) (reply : Outcome) → ResetsDevice old id reply new → SameIfRefused reply old new
reset_refused old new id reply resets why refused = elim resets [
  | inl unknown ↦ same_parts old new unknown.same
  | inr (able, reply_is, is) ↦ absurd (never (sym reply_is ∙ refused))
]
  where
    never : outcome.Done ≡ outcome.Refused why → ⊥
    never same = cc
