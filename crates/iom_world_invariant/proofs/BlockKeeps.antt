-- What stays true of a world when something happens to a block device: a disk is put in or goes, a queue is set, and a step has an access. That a device has
-- a disk is nothing that the facts on copies speak of.
use Rattle.std.proofs.Common.{◌≡◌, ◌^◌, ◌<◌, ◌≤◌, ◌∙◌, inl, inr, ℕ, Bool, true, false, is_some, List, get_or, Option, None, Some, refl, sym, ap, subst, arith, if◌then◌else◌}
use Rattle.std.specs.Option.{option_map, option_map_or}
use Rattle.std.proofs.lemmas.Bool.{false≢true}
use Rattle.iom_walk_coherence.specs.Walks.{Walk}
use Rattle.iom_base.specs.declared.access.Access.{Access}
use Rattle.iom_base.specs.declared.access.AccessKind.{AccessKind}
use Rattle.iom_base.specs.declared.access.AccessKind.TheVariants.{Read, Write}
use Rattle.iom_base.specs.Accesses.{page_of, HasBytes}
use Rattle.iom_command_queue.specs.OpenSlots.{OpenSlots}
use Rattle.iom_coherence.specs.Attachments.{caches_translations}
use Rattle.iom_coherence.specs.Scene.{Copy}
use Rattle.iom_coherence.proofs.ListLemmas.{same_function}
use Rattle.iom_driver.specs.declared.device.Device as driver
use Rattle.iom_driver.specs.declared.driver.Driver.{Driver}
use Rattle.iom_driver.specs.StateOf.{state_of}
use Rattle.iom_fabric.specs.declared.fabric.OnLink.{OnLink}
use Rattle.iom_inflight.specs.Flights.{FlightRow}
use Rattle.iom_inflight.specs.Invariant.{CarriesBytes}
use Rattle.iom_iommu.specs.declared.reply.Reply.{Reply}
use Rattle.iom_iommu.specs.declared.reply.Reply.TheVariants as reply
use Rattle.iom_iommu.specs.Parts.{flights_of, slots_of}
use Rattle.iom_machine.specs.declared.outcome.Outcome.{Outcome}
use Rattle.iom_machine.specs.declared.outcome.Outcome.TheVariants as outcome
use Rattle.iom_base.specs.declared.device_kind.DeviceKind.{DeviceKind}
use Rattle.iom_base.specs.DeviceKinds.{is_block_device}
use Rattle.iom_virtqueue.specs.declared.layout.Layout.{Layout}
use Rattle.iom_device.specs.declared.device.Device.{Device}
use Rattle.iom_world_effects.specs.Below.{LawsBelow}
use Rattle.iom_world_effects.specs.BlockDevices.{InsertsMedium, SetsBlockQueue, AsksIfMissed, GoesThroughCache}
use Rattle.iom_device.specs.Caches.{device_with, kind_in, cache_of, epoch_in, with_has_disk}
use Rattle.iom_world_effects.specs.Devices.{shown_devices}
use Rattle.iom_world_effects.specs.Parts.{Parts}
use Rattle.iom_world_effects.specs.Read.{values_of}
use Rattle.iom_device.specs.Calls.{reset_of, with_reset, with_block_reset}
use Rattle.iom_world_effects.specs.Requests.{outcome_of_reply}
use Rattle.iom_world_effects.specs.Scenes.{Values, HasSceneWith}
use Rattle.iom_world_effects.specs.Invariant.{InvariantWith}
use Rattle.iom_world_effects.specs.ThroughCache.{DeviceAsksThroughCache, FindsFrame, cached_frame}
use Rattle.iom_world_effects.specs.Traffic.{Traffic, traffic_of}
use Rattle.iom_world_invariant.proofs.AskedLemmas.{keeps_through_cache_counted}
use Rattle.iom_world_effects.proofs.CacheSets.{shown_set}
use Rattle.iom_world_effects.proofs.DiskPlaces.{kind_has, asker_has, epoch_has, ids_has, entries_has, own_ids_has, caches_has}
use Rattle.iom_world_effects.proofs.DriverLemmas.{DriverInvariant}
use Rattle.iom_world_invariant.proofs.MessageKeeps.{question_sound}
use Rattle.iom_world_effects.proofs.WalksLeft.{AreLeft, given_up}
use Rattle.iom_world_invariant.proofs.ResetKeeps.{found_there, reset_sound}

-- A DISK is put into a device, or goes

-- what is under way is the same
traffic_has : (devices : List Device) (fabric : List OnLink) (slots : OpenSlots) (id : ℕ) (has : Bool) → traffic_of (with_has_disk devices id has) fabric slots ≡ traffic_of devices fabric slots
traffic_has devices fabric slots id has =
    ap (λ (es : List Copy). record (traffic_of (with_has_disk devices id has) fabric slots) { entries = es }) (entries_has devices id has)
    ∙ ap (λ (es : ℕ → ℕ). record (traffic_of devices fabric slots) { epoch_of = es }) (same_function (epoch_in (with_has_disk devices id has)) (epoch_in devices) (epoch_has devices id has))

-- so are all values that the facts on copies speak of
values_has : (old : Parts) (id : ℕ) (has : Bool) → values_of (record old { devices = with_has_disk old.devices id has }) ≡ values_of old
values_has old id has =
    ap (λ (kinds : ℕ → Option DeviceKind). record (values_of (record old { devices = with_has_disk old.devices id has })) { kind_of = kinds })
    (same_function (kind_in (with_has_disk old.devices id has)) (kind_in old.devices) (kind_has old.devices id has))
    ∙ ap (λ (traffic : Traffic). record (values_of old) { traffic = traffic }) (traffic_has old.devices old.fabric (slots_of old.iommu) id has)

pub disk_sound : {walks : List Walk} (old : Parts) (events id : ℕ) (has : Bool) → InvariantWith walks old events → InvariantWith walks (record old { devices = with_has_disk old.devices id has }) events
disk_sound {walks = walks} old events id has invariants = record {
  ready = invariants.ready;
  started = invariants.started;
  unmarked = invariants.unmarked;
  size = invariants.size;
  known = record {
    own_ids = own_ids_has old.devices id has invariants.known.own_ids;
    driver = invariants.known.driver ∙ sym (ids_has old.devices id has);
    iommu = invariants.known.iommu ∙ sym (ids_has old.devices id has);
    caches = caches_has old.devices id has invariants.known.caches;
    trusted = λ d. invariants.known.trusted d ∙ ap caches_translations (sym (kind_has old.devices id has d));
    askers = λ k d lt. asker_has old.devices id has (get_or old.fabric k d) (invariants.known.askers k d lt);
  };
  small = invariants.small;
  counted = invariants.counted;
  serials = invariants.serials;
  epochs = λ d. subst (λ (n : ℕ). n ≤ events) (sym (epoch_has old.devices id has d)) (invariants.epochs d);
  contexts = invariants.contexts;
  copies = subst (λ (values : Values). ∥ HasSceneWith values walks ∥₁) (sym (values_has old id has)) invariants.copies;
}

-- A BLOCK DEVICE IS RESET

-- one whose kind is that of a block device is there
block_there : (devices : List Device) (id : ℕ) → option_map_or is_block_device (kind_in devices id) false ≡ true → is_some (device_with devices id) ≡ true
block_there devices id is = by (device_with devices id) is
  where
    by : (found : Option Device) → option_map_or is_block_device (option_map (λ (device : Device). device.kind) found) false ≡ true → is_some found ≡ true
    by None none = absurd (false≢true none)
    by (Some device) some = refl

-- the device is there, and is a block device
abbrev pub IsOfBlocks : List Device → ℕ → Type 0
IsOfBlocks devices id = option_map_or is_block_device (kind_in devices id) false ≡ true

block_reset_sound : {walks left : List Walk} (old : Parts) (events id : ℕ) → InvariantWith walks old events → AreLeft (IsOfBlocks old.devices id) id left walks → epoch_in old.devices id < events
    → InvariantWith left (record old { devices = with_block_reset old.devices id }) events
block_reset_sound {left = left} old events id invariants are_left below = by (option_map_or is_block_device (kind_in old.devices id) false) refl
  where
    by : (b : Bool) → option_map_or is_block_device (kind_in old.devices id) false ≡ b → InvariantWith left (record old { devices = if b then with_reset old.devices id else old.devices }) events
    by true is = reset_sound old events id invariants (are_left.1 is) below (block_there old.devices id is)
    by false is = given_up old events are_left.0 invariants

-- a device that leaves has no disk, and a block device is reset
pub left_sound : {walks left : List Walk} (old : Parts) (events id : ℕ) → InvariantWith walks old events → AreLeft (IsOfBlocks old.devices id) id left walks → epoch_in old.devices id < events
    → InvariantWith left (record old { devices = with_block_reset (with_has_disk old.devices id false) id }) events
left_sound old events id invariants are_left below =
    block_reset_sound (record old { devices = with_has_disk old.devices id false }) events id (disk_sound old events id false invariants)
    (are_left.0, λ is. are_left.1 (ap (λ (kind : Option DeviceKind). option_map_or is_block_device kind false) (sym (kind_has old.devices id false id)) ∙ is))
    (subst (λ (n : ℕ). n < events) (sym (epoch_has old.devices id false id)) below)

-- what the machine knows of the devices has nothing of their caches
pub shown_block_reset : (known : List driver.Device) (rows : List FlightRow) (devices : List Device) (id : ℕ)
    → shown_devices known rows (with_block_reset devices id) ≡ shown_devices known rows devices
shown_block_reset known rows devices id = by (option_map_or is_block_device (kind_in devices id) false)
  where
    by : (b : Bool) → shown_devices known rows (if b then with_reset devices id else devices) ≡ shown_devices known rows devices
    by true = shown_set known rows devices id (reset_of (cache_of devices id))
    by false = refl

-- THE CALLS

pub keeps_medium : {walks : List Walk} (disks : List ℕ) (old new : Parts) (events id disk : ℕ) (reply : Outcome) → InvariantWith walks old events → InsertsMedium disks old id disk reply new → InvariantWith walks new events
keeps_medium {walks = walks} disks old new events id disk reply invariants (inl unknown) = subst (λ parts. InvariantWith walks parts events) (sym unknown.same) invariants
keeps_medium {walks = walks} disks old new events id disk reply invariants (inr (inl unable)) = subst (λ parts. InvariantWith walks parts events) (sym unable.same) invariants
keeps_medium {walks = walks} disks old new events id disk reply invariants (inr (inr (device, is, inl puts))) = subst (λ parts. InvariantWith walks parts events) (sym puts.2) (disk_sound old events id true invariants)
keeps_medium {walks = walks} disks old new events id disk reply invariants (inr (inr (device, is, inr refuses))) = subst (λ parts. InvariantWith walks parts events) (sym refuses.2) invariants

pub keeps_queue : {walks left : List Walk} (old new : Parts) (events id : ℕ) (layout : Layout) (reply : Outcome) → InvariantWith walks old events → epoch_in old.devices id < events
    → SetsBlockQueue old id layout reply new → AreLeft (reply ≡ outcome.Done) id left walks → InvariantWith left new events
keeps_queue {left = left} old new events id layout reply invariants below (inl unknown) are_left = subst (λ parts. InvariantWith left parts events) (sym unknown.same) (given_up old events are_left.0 invariants)
keeps_queue {left = left} old new events id layout reply invariants below (inr (inl unable)) are_left = subst (λ parts. InvariantWith left parts events) (sym unable.same) (given_up old events are_left.0 invariants)
keeps_queue {left = left} old new events id layout reply invariants below (inr (inr (able, inl sets))) are_left =
    subst (λ parts. InvariantWith left parts events) (sym sets.2) (reset_sound old events id invariants (are_left.1 sets.1) below (found_there old.devices id able.0 able.1))
keeps_queue {left = left} old new events id layout reply invariants below (inr (inr (able, inr refuses))) are_left =
    subst (λ parts. InvariantWith left parts events) (sym refuses.2) (given_up old events are_left.0 invariants)

-- AN ACCESS that misses changes nothing, and its device is there
pub record Misses (old between : Parts) (id : ℕ) : Type 0 where
  pub kind : DeviceKind
  pub there : kind_in old.devices id ≡ Some kind
  pub same : between ≡ old

pub missed : (can : DeviceKind → Bool) (old between : Parts) (id : ℕ) (access : Access) → DeviceAsksThroughCache can old id access outcome.Miss between → Misses old between id
missed can old between id access (inl unknown) = let is = unknown.reply_is in cc
missed can old between id access (inr (inl unable)) = let is = unable.reply_is in cc
missed can old between id access (inr (inr (able, inl far))) = let is = far.1 in cc
missed can old between id access (inr (inr (able, inr (inl full)))) = let is = full.2 in cc
missed can old between id access (inr (inr (able, inr (inr finds)))) = by (cached_frame old id access) finds.2
  where
    never : (answer : Reply) → outcome.Miss ≡ outcome_of_reply answer → ⊥
    never (reply.Accepted number) is = cc
    never reply.Busy is = cc
    never reply.BadSpan is = cc
    never (reply.Fault cause) is = cc

    by : (found : Option ℕ) → FindsFrame found old id access outcome.Miss between → Misses old between id
    by None misses = record { kind = able.0; there = able.1; same = misses.1 }
    by (Some frame) replied = absurd (never replied.reply replied.reply_is)

-- and then the device asks
pub asked_sound : {walks : List Walk} (first : Outcome) (old between new : Parts) (events id : ℕ) (access : Access) (reply : Outcome) → InvariantWith walks between events → access.address < 2 ^ 64
    → DeviceAsksThroughCache is_block_device old id access first between → AsksIfMissed first between id access reply new → InvariantWith walks new events
asked_sound {walks = walks} outcome.Miss old between new events id access reply invariants fits tries asks =
    let misses = missed is_block_device old between id access tries in
    let there : kind_in between.devices id ≡ Some misses.kind = ap (λ (parts : Parts). kind_in parts.devices id) misses.same ∙ misses.there in
    subst (λ parts. InvariantWith walks parts events) (sym asks.1) (question_sound between events id (page_of access) invariants (omega (arith, fits)) (found_there between.devices id misses.kind there))
asked_sound {walks = walks} _ old between new events id access reply invariants fits tries asks = subst (λ parts. InvariantWith walks parts events) (sym asks.1) invariants

pub keeps_through : {walks : List Walk} → LawsBelow → (driver : Driver) (old new : Parts) (events id : ℕ) (access : Access) (reply : Outcome) → InvariantWith walks old events → DriverInvariant old.driver → old.driver ≡ state_of driver
    → (flights_of old.iommu).so_far < events → access.address < 2 ^ 64 → GoesThroughCache old id access reply new → InvariantWith walks new events
keeps_through laws driver old new events id access reply invariants own is below fits goes =
    asked_sound goes.first old goes.between new events id access reply
    (keeps_through_cache_counted is_block_device laws driver old goes.between events id access goes.first invariants own is below goes.tries)
    fits goes.tries goes.asks

-- what isn't told as a miss is told so
pub no_miss : (first : Outcome) (between : Parts) (id : ℕ) (access : Access) → (first ≡ outcome.Miss → ⊥) → AsksIfMissed first between id access first between
no_miss outcome.Miss between id access never = absurd (never refl)
no_miss _ between id access never = (refl, refl)

-- the bytes that a block device's access has are those that are carried
pub carries_of : (kind : AccessKind) (len : ℕ) (bytes : List ℕ) → HasBytes kind len bytes → CarriesBytes kind len bytes
carries_of Read len bytes has = has
carries_of Write len bytes has = has
