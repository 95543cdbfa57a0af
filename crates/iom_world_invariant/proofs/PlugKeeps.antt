-- What stays true of a world when a device is plugged in: it is one more in all three lists.
use Rattle.std.proofs.Common.{suc, zero, ◌≡◌, ◌≢◌, ◌^◌, ◌<◌, ◌≤◌, ◌==◌, ◌⊎◌, inl, inr, ◌++◌, ◌∙◌, ℕ, Bool, true, false, List, [], ◌∷◌, length, map, Some, is_some, Result, Ok, Err, slice_get, get_or, refl, sym, ap, subst, if◌then◌else◌}
use Rattle.std.specs.Option.{option_map}
use Rattle.std.proofs.Math.Logic.{∥∥₁_map}
use Rattle.std.proofs.lemmas.Bool.{false≢true, eq-eqb}
use Rattle.iom_walk_coherence.specs.Walks.{Walk}
use Rattle.iom_driver.specs.Fences.{last_fence, fence_of}
use Rattle.iom_driver.specs.declared.device.Device as driver
use Rattle.iom_driver.specs.Calls.{AnswersPlug}
use Rattle.iom_driver.specs.declared.device.Stages.{Stages}
use Rattle.iom_driver.specs.Devices.{device_by_id, has_device, attachment_by_id, owned_stages, detached, has_trusted_cache}
use Rattle.iom_driver.specs.Directory.{context_for}
use Rattle.iom_driver.specs.Layout.{command_frame, completion_frame, completion_address}
use Rattle.iom_driver.specs.Ready.{IsReady}
use Rattle.iom_driver.specs.Reasons.{why_not_plug}
use Rattle.iom_driver.specs.State.{DriverState}
use Rattle.iom_driver.proofs.Places.{attachment_plugged}
use Rattle.iom_inflight.specs.Flights.{FlightRow, Flights, new_row}
use Rattle.iom_iommu.specs.Parts.{registers_of, contexts_of, flights_of, slots_of, AddsDevice}
use Rattle.iom_device_dir.specs.Cached.{cached_contexts}
use Rattle.iom_base.specs.declared.refusal.Refusal.{Refusal}
use Rattle.iom_base.specs.declared.refusal.Refusal.TheVariants.{AlreadyPlugged}
use Rattle.iom_base.specs.Refusals.{NoneApplies}
use Rattle.iom_ledger.specs.Shown.{Agrees}
use Rattle.iom_machine.specs.declared.outcome.Outcome.{Outcome}
use Rattle.iom_base.specs.declared.device_kind.NewDevice.{NewDevice}
use Rattle.iom_base.specs.DeviceKinds.{kind_of, has_cache}
use Rattle.iom_registers.specs.declared.registers.Registers.{Registers}
use Rattle.iom_registers.specs.Queues.{command_status}
use Rattle.iom_device.specs.declared.device.Device.{Device}
use Rattle.iom_world_effects.specs.Devices.{shown_attachment}
use Rattle.iom_world_effects.specs.Effect.{PlugsIn, AddsRow, new_device, devices_after}
use Rattle.iom_tlb.specs.Chosen.{ioatc}
use Rattle.iom_world_effects.specs.Parts.{Parts}
use Rattle.iom_world_effects.specs.Read.{space_in, values_of, access_in_flight, accesses_of}
use Rattle.iom_world_effects.specs.Invariant.{InvariantWith, AreKnown, HaveDistinctIds, known_ids, plugged_ids, row_ids}
use Rattle.iom_world_effects.proofs.SceneCalls.{PlugsOne, plug_scene}
use Rattle.iom_world_effects.proofs.InvariantLemmas.{same_completed, LeavesWord, sound_from, same_waiting, none_at}
use Rattle.std.proofs.lemmas.List.Elements.{All-push}
use Rattle.iom_coherence.specs.Attachments.{caches_translations}
use Rattle.iom_coherence.specs.Scene.{Copy}
use Rattle.iom_coherence.proofs.ListLemmas.{same_function}
use Rattle.iom_fabric.specs.declared.fabric.OnLink.{OnLink}
use Rattle.iom_device.specs.Caches.{kind_in}
use Rattle.iom_world_effects.specs.Traffic.{traffic_of}
use Rattle.iom_world_effects.proofs.CacheLemmas.{HaveNot, asker_pushed, kind_absent, kind_pushed, epoch_pushed, entries_pushed, its_cache, trusted_pushed}
use Rattle.iom_device.specs.Caches.{epoch_in}
use Rattle.iom_device.specs.Caches.{HasItsCache}

-- the ids of two lists agree at their first, and behind it
first_ids : (a b : ℕ) (xs ys : List ℕ) → a ∷ xs ≡ b ∷ ys → (a ≡ b) × (xs ≡ ys)
first_ids a b xs ys same = (cc, cc)

-- an item of a list with one more is one of the list, or that one
get_pushed : {X : Type 0} (xs : List X) (x y : X) (k : ℕ) → slice_get (xs ++ x ∷ []) k ≡ Some y → (slice_get xs k ≡ Some y) ⊎ ((k ≡ length xs) × (y ≡ x))
get_pushed [] x y zero at = inr (refl, cc)
get_pushed [] x y (suc k) at = cc
get_pushed (first ∷ xs) x y zero at = inl at
get_pushed (first ∷ xs) x y (suc k) at = elim (get_pushed xs x y k at) [ inl e ↦ inl e | inr e ↦ inr (ap suc e.0, e.1) ]

-- where the driver knows none with the id, none of the world's has it
pub absent_known : (known : List driver.Device) (devices : List Device) (id : ℕ) → known_ids known ≡ plugged_ids devices → has_device known id ≡ false
    → (k : ℕ) (device : Device) → slice_get devices k ≡ Some device → device.id ≢ id
absent_known known [] id same none k device at = cc
absent_known [] (first ∷ others) id same none k device at = cc
absent_known (own ∷ rest) (first ∷ others) id same none k device at = by (own.id == id) refl none k at (absent_known rest others id (first_ids _ _ _ _ same).1)
  where
    by : (b : Bool) → (own.id == id) ≡ b → is_some (if b then Some own else device_by_id rest id) ≡ false → (k : ℕ) → slice_get (first ∷ others) k ≡ Some device
        → (has_device rest id ≡ false → (j : ℕ) (other : Device) → slice_get others j ≡ Some other → other.id ≢ id) → device.id ≢ id
    by true test none k at later = absurd (false≢true (sym none))
    by false test none zero at later = λ e.
        let here : first ≡ device = cc in
        false≢true (sym test ∙ eq-eqb own.id id ((first_ids _ _ _ _ same).0 ∙ ap (λ (d : Device). d.id) here ∙ e))
    by false test none (suc k) at later = later none k device at

own_ids_new : (devices : List Device) (device : Device) (id : ℕ) → HaveDistinctIds devices → ((k : ℕ) (other : Device) → slice_get devices k ≡ Some other → other.id ≢ id) → device.id ≡ id
    → HaveDistinctIds (devices ++ device ∷ [])
own_ids_new devices device id own absent new j k one other at at' same =
    by (get_pushed devices device one j at) (get_pushed devices device other k at')
  where
    by : (slice_get devices j ≡ Some one) ⊎ ((j ≡ length devices) × (one ≡ device)) → (slice_get devices k ≡ Some other) ⊎ ((k ≡ length devices) × (other ≡ device)) → j ≡ k
    by (inl a) (inl b) = own j k one other a b same
    by (inl a) (inr b) = absurd (absent j one a (same ∙ ap (λ (d : Device). d.id) b.1 ∙ new))
    by (inr a) (inl b) = absurd (absent k other b (sym same ∙ ap (λ (d : Device). d.id) a.1 ∙ new))
    by (inr a) (inr b) = a.0 ∙ sym b.0

map_pushed : {X Y : Type 0} (f : X → Y) (xs : List X) (x : X) → map f (xs ++ x ∷ []) ≡ map f xs ++ f x ∷ []
map_pushed f [] x = refl
map_pushed f (y ∷ ys) x = ap (λ zs. f y ∷ zs) (map_pushed f ys x)

-- a new row has nothing in flight
accesses_pushed : (rows : List FlightRow) (id : ℕ) → accesses_of (rows ++ new_row id ∷ []) ≡ accesses_of rows
accesses_pushed [] id = refl
accesses_pushed (row ∷ rows) id = ap (λ l. map (access_in_flight row.device) row.waiting ++ l) (accesses_pushed rows id)

module _ {walks : List Walk} (old new : Parts) (events id : ℕ) (what : NewDevice) (invariants : InvariantWith walks old events) (ready : IsReady new.driver new.memory (registers_of new.iommu))
    (admitted : NoneApplies (why_not_plug old.driver id)) (driver_now : new.driver ≡ record old.driver { devices = old.driver.devices ++ detached id (has_cache (kind_of what)) ∷ [] })
    (row : AddsDevice old.iommu id true new.iommu) (devices : new.devices ≡ old.devices ++ new_device id what ∷ []) (memory : new.memory ≡ old.memory) (fabric : new.fabric ≡ old.fabric) where
  leaves : LeavesWord old new
  leaves = record { size = ap (λ m. length m) memory; word = ap (λ m. slice_get m (completion_frame (length old.memory))) memory }

  rows_now : (flights_of new.iommu).rows ≡ (flights_of old.iommu).rows ++ new_row id ∷ []
  rows_now = ap (λ (f : Flights). f.rows) row.flights.2

  counted_now : (flights_of new.iommu).so_far ≡ (flights_of old.iommu).so_far
  counted_now = ap (λ (f : Flights). f.so_far) row.flights.2

  contexts_now : (other : ℕ) → contexts_of new.iommu other ≡ contexts_of old.iommu other
  contexts_now other = ap (λ c. cached_contexts c other) (ap (λ parts. parts.contexts) row.rest)

  free : has_device old.driver.devices id ≡ false
  free = none_at (why_not_plug old.driver id) 0 (has_device old.driver.devices id) AlreadyPlugged refl admitted

  absent : HaveNot old.devices id
  absent = absent_known old.driver.devices old.devices id invariants.known.driver free

  trusts_as : (b : Bool) (one : Bool) (d : ℕ) → one ≡ caches_translations (kind_in old.devices d)
      → (if b then has_cache (kind_of what) else one) ≡ caches_translations (if b then Some (kind_of what) else kind_in old.devices d)
  trusts_as true one d same = refl
  trusts_as false one d same = same

  known_now : AreKnown new
  known_now = record {
    own_ids = rw devices (own_ids_new old.devices (new_device id what) id invariants.known.own_ids absent refl);
    driver = ap (λ (d : DriverState). known_ids d.devices) driver_now ∙ map_pushed (λ (d : driver.Device). d.id) old.driver.devices (detached id (has_cache (kind_of what)))
        ∙ ap (λ ids. ids ++ id ∷ []) invariants.known.driver ∙ sym (ap plugged_ids devices ∙ map_pushed (λ (d : Device). d.id) old.devices (new_device id what));
    iommu = ap row_ids rows_now ∙ map_pushed (λ (r : FlightRow). r.device) (flights_of old.iommu).rows (new_row id)
        ∙ ap (λ ids. ids ++ id ∷ []) invariants.known.iommu ∙ sym (ap plugged_ids devices ∙ map_pushed (λ (d : Device). d.id) old.devices (new_device id what));
    caches = rw devices (All-push HasItsCache old.devices (new_device id what) invariants.known.caches (its_cache id what));
    askers = rw (devices, fabric) (λ k d lt. asker_pushed old.devices (new_device id what) (get_or old.fabric k d) (invariants.known.askers k d lt));
    trusted = λ d.
        ap (λ (s : DriverState). has_trusted_cache s.devices d) driver_now ∙ trusted_pushed old.driver.devices id (has_cache (kind_of what)) d free
        ∙ trusts_as (id == d) (has_trusted_cache old.driver.devices d) d (invariants.known.trusted d)
        ∙ sym (ap (λ (ds : List Device). caches_translations (kind_in ds d)) devices ∙ ap caches_translations (kind_pushed old.devices id what d absent));
  }

  traffic_now : (values_of new).traffic ≡ (values_of old).traffic
  traffic_now =
      ap (λ (ds : List Device). traffic_of ds new.fabric (slots_of new.iommu)) devices
      ∙ ap (λ (es : List Copy). record (traffic_of (old.devices ++ new_device id what ∷ []) new.fabric (slots_of new.iommu)) { entries = es }) (entries_pushed old.devices id what)
      ∙ ap (λ (es : ℕ → ℕ). record (traffic_of old.devices new.fabric (slots_of new.iommu)) { epoch_of = es })
      (same_function (epoch_in (old.devices ++ new_device id what ∷ [])) (epoch_in old.devices) (epoch_pushed old.devices id what))
      ∙ ap (λ (ms : List OnLink). traffic_of old.devices ms (slots_of new.iommu)) fabric
      ∙ ap (traffic_of old.devices old.fabric) (ap (λ parts. parts.slots) row.rest)

  attachments_now : (other : ℕ) → attachment_by_id new.driver.devices other ≡ attachment_by_id old.driver.devices other
  attachments_now other = ap (λ (d : DriverState). attachment_by_id d.devices other) driver_now ∙ attachment_plugged old.driver.devices id (has_cache (kind_of what)) other

  plugs_one : PlugsOne (values_of old) (values_of new) id (kind_of what)
  plugs_one = record {
    free = kind_absent old.devices id absent;
    kinds = λ d. ap (λ (ds : List Device). kind_in ds d) devices ∙ kind_pushed old.devices id what d absent;
    agrees = λ h agrees. subst (λ (s : DriverState). Agrees s.ledger h) (sym driver_now) agrees;
    address = ap completion_address leaves.size;
    waiting = same_waiting old new events invariants (ap (λ parts. parts.registers) row.rest) (ap (λ m. slice_get m (command_frame (length old.memory))) memory);
    completed = same_completed old.memory new.memory leaves.size leaves.word;
    last_fence = ap (λ (d : DriverState). last_fence d) driver_now;
    given = ap (λ (d : DriverState). d.given) driver_now;
    confirmed = ap (λ (d : DriverState). d.confirmed) driver_now;
    so_far = counted_now;
    in_flight = ap accesses_of rows_now ∙ accesses_pushed (flights_of old.iommu).rows id;
    attachments = λ d. ap shown_attachment (attachments_now d);
    contexts = λ d is. sym (ap is_some (contexts_now d)) ∙ is;
    cached = record {
      spaces = λ other space at. ap (λ a. option_map (λ (stage : Stages). space_in stage.mode stage.number) (owned_stages a)) (attachments_now other) ∙ at;
      translations = λ key translation at. sym (ap (λ c. ioatc.content c key) (ap (λ parts. parts.translations) row.rest)) ∙ at;
      fence_snapshot = (ap (λ parts. parts.fence_snapshot) row.rest);
      fences = ap (λ (d : DriverState). fence_of d) driver_now;
      stopped = ap (λ (r : Registers). (command_status r).cmd_to) (ap (λ parts. parts.registers) row.rest);
      traffic = traffic_now;
    };
  }

  pub plugged_sound : InvariantWith walks new events
  plugged_sound =
      sound_from old new events invariants leaves
      (record { status = ap command_status (ap (λ parts. parts.registers) row.rest); frames = (ap (λ parts. parts.frames) row.rest); so_far = counted_now; slots = (ap (λ parts. parts.slots) row.rest) })
      (ap (λ (d : DriverState). d.started) driver_now) ready known_now
      (λ d. subst (λ (n : ℕ). n ≤ events) (sym (ap (λ (ds : List Device). epoch_in ds d) devices ∙ epoch_pushed old.devices id what d)) (invariants.epochs d))
      (subst (λ (d : DriverState). d.given < 2 ^ 32) (sym driver_now) invariants.small)
      (λ other context cached. ap (λ a. option_map context_for (owned_stages a)) (attachments_now other) ∙ invariants.contexts other context (sym (contexts_now other) ∙ cached))
      (∥∥₁_map invariants.copies (plug_scene (values_of old) (values_of new) id (kind_of what) plugs_one walks))

pub keeps_plugged : {walks : List Walk} (disks : List ℕ) (old new : Parts) (events id : ℕ) (what : NewDevice) (reply : Outcome) → InvariantWith walks old events → IsReady new.driver new.memory (registers_of new.iommu)
    → PlugsIn disks old id what reply new → InvariantWith walks new events
keeps_plugged {walks = walks} disks old new events id what reply invariants ready plugs = by plugs.answer plugs.call plugs.row plugs.devices
  where
    by : (answer : Result (Unit {0}) Refusal) → AnswersPlug old.driver id (has_cache (kind_of what)) answer new.driver → AddsRow answer old.iommu id new.iommu → new.devices ≡ devices_after answer old.devices id what → InvariantWith walks new events
    by (Ok done) (admitted, driver_now) row devices = plugged_sound old new events id what invariants ready admitted driver_now row devices plugs.memory plugs.fabric
    by (Err why) (refused, driver_stays) row devices = rw (plugs.memory, row, driver_stays, devices, plugs.fabric) invariants
