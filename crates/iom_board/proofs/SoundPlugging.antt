-- What stays true of a board when a device is plugged in, and when a disk is put in or goes.
use Rattle.std.proofs.Common.{zero, suc, ◌≡◌, ◌≢◌, ◌+◌, ◌<◌, ◌≤◌, ◌==◌, ◌⊎◌, ◌∙◌, inl, inr, ℕ, Bool, true, false, is_some, nat_le, List, [], ◌∷◌, ◌++◌, length, map, get_or, Option, None, Some, IsSome, slice_get, refl, sym, ap, subst, arith, if◌then◌else◌}
use Rattle.std.specs.List.{All}
use Rattle.std.specs.Option.{option_map, option_map_or}
use Rattle.std.proofs.lemmas.Bool.{false≢true, eq-eqb, leb-false}
use Rattle.std.proofs.lemmas.List.{length-map}
use Rattle.std.proofs.lemmas.List.Elements.{All-push}
use Rattle.std.proofs.lemmas.Option.{same_Some}
use Rattle.iom_ats_cache.specs.Cache.{empty_cache}
use Rattle.iom_base.specs.DeviceKinds.{kind_of, disk_of, has_cache, is_block_device}
use Rattle.iom_base.specs.Disks.{is_missing}
use Rattle.iom_base.specs.Refusals.{first_that_applies, NoneApplies}
use Rattle.iom_base.specs.declared.device_kind.DeviceKind.{DeviceKind}
use Rattle.iom_base.specs.declared.device_kind.NewDevice.{NewDevice}
use Rattle.iom_command_queue.specs.OpenSlots.{OpenSlots}
use Rattle.iom_base.specs.declared.refusal.Refusal.{Refusal}
use Rattle.iom_device.specs.declared.device.Device.{Device}
use Rattle.iom_device.specs.Caches.{device_with, kind_in, cache_in, cache_of, epoch_of, epoch_in, with_has_disk, HasItsCache, HaveTheirCaches}
use Rattle.iom_device.specs.Calls.{new_cache, reset_of, with_reset, with_block_reset}
use Rattle.iom_fabric.specs.declared.fabric.OnLink.{OnLink}
use Rattle.iom_fabric.specs.declared.message.Message.{Message}
use Rattle.iom_fabric.specs.declared.message.Message.TheVariants as sent
use Rattle.iom_inflight.specs.Flights.{FlightRow, Flights, new_row, row_of}
use Rattle.iom_iommu.specs.Parts.{flights_of, AddsDevice}
use Rattle.iom_board.specs.BoardParts.{BoardParts}
use Rattle.iom_iommu.specs.OwnIommu.{Iommu}
use Rattle.iom_board.specs.Plugging.{StandsBehindOthers, newly_plugged, why_not_plugged}
use Rattle.iom_board.specs.Invariant.{device_ids, flight_ids, AreOfOneId, IsOfPlugged, IsMessageOf, BoardInvariant}
use Rattle.iom_board.proofs.DeviceLists.{ids_set, ids_has, epoch_has, caches_has, caches_reset, epochs_reset}
use Rattle.iom_board.proofs.SoundThen.{KeepsDevices}

-- NONE OF THE REASONS APPLIES
admits : (taken : Bool) (many : Bool) (missing : Bool) (a b c : Refusal) → first_that_applies ((taken, a) ∷ (many, b) ∷ (missing, c) ∷ []) ≡ None → (taken ≡ false) × (many ≡ false)
admits false false missing a b c none = (refl, refl)
admits true many missing a b c none = cc
admits false true missing a b c none = cc

no_kind : (devices : List Device) (id : ℕ) → is_some (kind_in devices id) ≡ false → device_with devices id ≡ None
no_kind devices id none = by (device_with devices id) none
  where
    by : (found : Option Device) → is_some (option_map (λ (device : Device). device.kind) found) ≡ false → found ≡ None
    by None none = refl
    by (Some device) none = absurd (false≢true (sym none))

absent_of : (disks : List ℕ) (old : BoardParts) (id : ℕ) (what : NewDevice) → NoneApplies (why_not_plugged disks old id what) → device_with old.devices id ≡ None
absent_of disks old id what none = no_kind old.devices id (admits (is_some (kind_in old.devices id)) (nat_le 16 (length old.devices)) (is_missing disks (disk_of what)) _ _ _ none).0

few_of : (disks : List ℕ) (old : BoardParts) (id : ℕ) (what : NewDevice) → NoneApplies (why_not_plugged disks old id what) → length old.devices < 16
few_of disks old id what none = leb-false 16 (length old.devices) (admits (is_some (kind_in old.devices id)) (nat_le 16 (length old.devices)) (is_missing disks (disk_of what)) _ _ _ none).1

-- so the IOMMU has no row for it, and room for one
no_row : (rows : List FlightRow) (devices : List Device) (id : ℕ) → flight_ids rows ≡ device_ids devices → device_with devices id ≡ None → row_of rows id ≡ None
no_row [] devices id same none = refl
no_row (row ∷ rows) [] id same none = cc
no_row (row ∷ rows) (device ∷ others) id same none =
    let one : row.device ≡ device.id = cc in
    let rest : flight_ids rows ≡ device_ids others = cc in
    ap (λ n. if n == id then Some row else row_of rows id) one ∙ by (device.id == id) none (no_row rows others id rest)
  where
    by : (b : Bool) → (if b then Some device else device_with others id) ≡ None → (device_with others id ≡ None → row_of rows id ≡ None) → (if b then Some row else row_of rows id) ≡ None
    by true none rest = cc
    by false none rest = rest none

length_rows : (rows : List FlightRow) (devices : List Device) → flight_ids rows ≡ device_ids devices → length rows ≡ length devices
length_rows rows devices same = sym (length-map rows (λ (row : FlightRow). row.device)) ∙ ap (λ (ids : List ℕ). length ids) same ∙ length-map devices (λ (device : Device). device.id)

-- so the IOMMU adds it
pub added_new : (disks : List ℕ) (old : BoardParts) (events id : ℕ) (what : NewDevice) (added : Bool) (new : Iommu) → BoardInvariant old events → NoneApplies (why_not_plugged disks old id what)
    → AddsDevice old.iommu id added new → AddsDevice old.iommu id true new
added_new disks old events id what true new invariants none adds = adds
added_new disks old events id what false new invariants none adds = absurd (by adds.flights.0)
  where
    row : row_of (flights_of old.iommu).rows id ≡ None
    row = no_row (flights_of old.iommu).rows old.devices id invariants.rows (absent_of disks old id what none)

    few : length old.devices < 16
    few = few_of disks old id what none

    by : IsSome (row_of (flights_of old.iommu).rows id) ⊎ (16 ≤ length (flights_of old.iommu).rows) → ⊥
    by (inl some) = (let is : IsSome {T = FlightRow} None = subst (λ (o : Option FlightRow). IsSome o) row some in cc)
    by (inr many) = (let long = length_rows (flights_of old.iommu).rows old.devices invariants.rows in omega (arith, many, long, few))

-- THE DEVICES, where one more is plugged in

none_at : (devices : List Device) (id : ℕ) → device_with devices id ≡ None → (k : ℕ) (device : Device) → slice_get devices k ≡ Some device → device.id ≢ id
none_at [] id none k device at = cc
none_at (first ∷ others) id none k device at = by (first.id == id) refl none k at (none_at others id)
  where
    by : (b : Bool) → (first.id == id) ≡ b → (if b then Some first else device_with others id) ≡ None → (k : ℕ) → slice_get (first ∷ others) k ≡ Some device
        → (device_with others id ≡ None → (j : ℕ) (other : Device) → slice_get others j ≡ Some other → other.id ≢ id) → device.id ≢ id
    by true test none k at later same = cc
    by false test none zero at later same =
        let here : first ≡ device = same_Some first device at in
        false≢true (sym test ∙ eq-eqb first.id id (ap (λ (d : Device). d.id) here ∙ same))
    by false test none (suc k) at later same = later none k device at same

-- an item of a list with one more is one of the list, or that one
get_pushed : {X : Type 0} (xs : List X) (x y : X) (k : ℕ) → slice_get (xs ++ x ∷ []) k ≡ Some y → (slice_get xs k ≡ Some y) ⊎ ((k ≡ length xs) × (y ≡ x))
get_pushed [] x y zero at = inr (refl, cc)
get_pushed [] x y (suc k) at = cc
get_pushed (first ∷ xs) x y zero at = inl at
get_pushed (first ∷ xs) x y (suc k) at = elim (get_pushed xs x y k at) [ inl e ↦ inl e | inr e ↦ inr (ap suc e.0, e.1) ]

own_ids_new : (devices : List Device) (device : Device) → AreOfOneId devices → ((k : ℕ) (other : Device) → slice_get devices k ≡ Some other → other.id ≢ device.id) → AreOfOneId (devices ++ device ∷ [])
own_ids_new devices device own absent j k one other at at' same =
    by (get_pushed devices device one j at) (get_pushed devices device other k at')
  where
    by : (slice_get devices j ≡ Some one) ⊎ ((j ≡ length devices) × (one ≡ device)) → (slice_get devices k ≡ Some other) ⊎ ((k ≡ length devices) × (other ≡ device)) → j ≡ k
    by (inl a) (inl b) = own j k one other a b same
    by (inl a) (inr b) = absurd (absent j one a (same ∙ ap (λ (d : Device). d.id) b.1))
    by (inr a) (inl b) = absurd (absent k other b (sym same ∙ ap (λ (d : Device). d.id) a.1))
    by (inr a) (inr b) = a.0 ∙ sym b.0

map_pushed : {X Y : Type 0} (f : X → Y) (xs : List X) (x : X) → map f (xs ++ x ∷ []) ≡ map f xs ++ f x ∷ []
map_pushed f [] x = refl
map_pushed f (y ∷ ys) x = ap (λ zs. f y ∷ zs) (map_pushed f ys x)

length_pushed : {X : Type 0} (xs : List X) (x : X) → length (xs ++ x ∷ []) ≡ length xs + 1
length_pushed [] x = refl
length_pushed (y ∷ ys) x = let rest = length_pushed ys x in omega (arith, rest)

there_pushed : (devices : List Device) (one : Device) (d : ℕ) → is_some (device_with devices d) ≡ true → is_some (device_with (devices ++ one ∷ []) d) ≡ true
there_pushed [] one d there = absurd (false≢true there)
there_pushed (first ∷ others) one d there = by (first.id == d) there (there_pushed others one d)
  where
    by : (b : Bool) → is_some (if b then Some first else device_with others d) ≡ true → (is_some (device_with others d) ≡ true → is_some (device_with (others ++ one ∷ []) d) ≡ true)
        → is_some (if b then Some first else device_with (others ++ one ∷ []) d) ≡ true
    by true there rest = refl
    by false there rest = rest there

message_pushed : (devices : List Device) (one : Device) (on : OnLink) → IsMessageOf devices on → IsMessageOf (devices ++ one ∷ []) on
message_pushed devices one on own = by on.message own
  where
    by : (message : Message) → IsOfPlugged (is_some (device_with devices on.device)) message → IsOfPlugged (is_some (device_with (devices ++ one ∷ []) on.device)) message
    by (sent.Ask epoch page) (there, fits) = (there_pushed devices one on.device there, fits)
    by (sent.Answer epoch page translation) there = tt
    by (sent.InvReq serial range) there = tt
    by (sent.InvDone serial) there = tt

epochs_pushed : (devices : List Device) (one : Device) (most d : ℕ) → epoch_of one.cache ≤ most → epoch_in devices d ≤ most → epoch_in (devices ++ one ∷ []) d ≤ most
epochs_pushed [] one most d low at = by (one.id == d)
  where
    by : (b : Bool) → epoch_of (cache_in (if b then Some one else None)) ≤ most
    by true = low
    by false = at
epochs_pushed (first ∷ others) one most d low at = by (first.id == d) at (epochs_pushed others one most d low)
  where
    by : (b : Bool) → epoch_of (cache_in (if b then Some first else device_with others d)) ≤ most → (epoch_in others d ≤ most → epoch_in (others ++ one ∷ []) d ≤ most)
        → epoch_of (cache_in (if b then Some first else device_with (others ++ one ∷ []) d)) ≤ most
    by true at rest = at
    by false at rest = rest at

-- a new cache is in epoch 0, and there where the kind has one
new_epoch : (kind : DeviceKind) (most : ℕ) → epoch_of (new_cache kind) ≤ most
new_epoch kind most = by (has_cache kind)
  where
    by : (k : Bool) → epoch_of (if k then Some empty_cache else None) ≤ most
    by true = omega arith
    by false = omega arith

its_cache : (id : ℕ) (what : NewDevice) → HasItsCache (newly_plugged id what)
its_cache id what = by (has_cache (kind_of what))
  where
    by : (k : Bool) → is_some (if k then Some empty_cache else None) ≡ k
    by true = refl
    by false = refl

-- A DEVICE IS PLUGGED IN
pub adds_sound : (disks : List ℕ) (old new : BoardParts) (events id : ℕ) (what : NewDevice) (left : List ℕ) → BoardInvariant old events → StandsBehindOthers disks old id what new left
    → BoardInvariant new (events + 1)
adds_sound disks old new events id what left invariants adds =
    let one : Device = newly_plugged id what in
    let few : length old.devices < 16 = few_of disks old id what adds.admitted in
    let long : length (old.devices ++ one ∷ []) ≡ length old.devices + 1 = length_pushed old.devices one in
    let rows_now : (flights_of new.iommu).rows ≡ (flights_of old.iommu).rows ++ new_row id ∷ [] = ap (λ (f : Flights). f.rows) adds.row.flights.2 in
    record {
      size = (ap (λ parts. parts.frames) adds.row.rest) ∙ invariants.size ∙ sym (ap (λ m. length m) adds.memory);
      own_ids = subst AreOfOneId (sym adds.devices) (own_ids_new old.devices one invariants.own_ids (none_at old.devices id (absent_of disks old id what adds.admitted)));
      rows = ap flight_ids rows_now ∙ map_pushed (λ (r : FlightRow). r.device) (flights_of old.iommu).rows (new_row id)
          ∙ ap (λ ids. ids ++ id ∷ []) invariants.rows ∙ sym (ap device_ids adds.devices ∙ map_pushed (λ (d : Device). d.id) old.devices one);
      caches = subst HaveTheirCaches (sym adds.devices) (All-push HasItsCache old.devices one invariants.caches (its_cache id what));
      askers = subst (λ (ds : List Device). All (IsMessageOf ds) new.fabric) (sym adds.devices)
          (subst (λ (f : List OnLink). All (IsMessageOf (old.devices ++ one ∷ [])) f) (sym adds.fabric) (λ k d lt. message_pushed old.devices one (get_or old.fabric k d) (invariants.askers k d lt)));
      accepted = subst (λ (f : Flights). f.so_far ≤ events + 1) (sym adds.row.flights.2) (let low = invariants.accepted in omega (arith, low));
      serials = subst (λ (s : OpenSlots). s.last ≤ events + 1) (sym (ap (λ parts. parts.slots) adds.row.rest)) (let low = invariants.serials in omega (arith, low));
      epochs = λ d. subst (λ (ds : List Device). epoch_in ds d ≤ events + 1) (sym adds.devices)
          (epochs_pushed old.devices one (events + 1) d (new_epoch (kind_of what) (events + 1)) (let low = invariants.epochs d in omega (arith, low)));
    }

-- A DEVICE IS RESET
pub reset_keeps : (old : BoardParts) (events id : ℕ) → BoardInvariant old events → KeepsDevices old.devices (with_reset old.devices id) events
reset_keeps old events id invariants = record {
  ids = ids_set old.devices id (reset_of (cache_of old.devices id));
  caches = caches_reset old.devices id invariants.caches;
  epochs = epochs_reset old.devices id events invariants.epochs;
}

-- A DISK IS PUT IN, OR GOES
pub has_keeps : (old : BoardParts) (events id : ℕ) (has : Bool) → BoardInvariant old events → KeepsDevices old.devices (with_has_disk old.devices id has) events
has_keeps old events id has invariants = record {
  ids = ids_has old.devices id has;
  caches = caches_has old.devices id has invariants.caches;
  epochs = λ d. subst (λ n. n ≤ events + 1) (sym (epoch_has old.devices id has d)) (let low = invariants.epochs d in omega (arith, low));
}

pub gone_keeps : (old : BoardParts) (events id : ℕ) → BoardInvariant old events → KeepsDevices old.devices (with_block_reset (with_has_disk old.devices id false) id) events
gone_keeps old events id invariants = by (option_map_or is_block_device (kind_in (with_has_disk old.devices id false) id) false)
  where
    without : List Device
    without = with_has_disk old.devices id false

    low : (d : ℕ) → epoch_in without d ≤ events
    low d = subst (λ n. n ≤ events) (sym (epoch_has old.devices id false d)) (invariants.epochs d)

    by : (b : Bool) → KeepsDevices old.devices (if b then with_reset without id else without) events
    by true = record {
      ids = ids_set without id (reset_of (cache_of without id)) ∙ ids_has old.devices id false;
      caches = caches_reset without id (caches_has old.devices id false invariants.caches);
      epochs = epochs_reset without id events low;
    }
    by false = has_keeps old events id false invariants
