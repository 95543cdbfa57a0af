-- The devices' own caches: a reset, a request to invalidate, an answer that is taken.
use Rattle.std.proofs.Common.{◌≡◌, ◌≢◌, ◌==◌, ◌⊎◌, ◌∙◌, ◌+◌, inl, inr, ℕ, Bool, true, false, List, [], map, Contains, Option, None, Some, option_map, Result, refl, sym, ap, subst, if◌then◌else◌}
use Rattle.std.proofs.lemmas.Bool.Decides.{eqb_tells}
use Rattle.iom_ats_cache.specs.Cache.{Cache}
use Rattle.iom_base.specs.DeviceKinds.{is_any_kind}
use Rattle.iom_base.specs.declared.refusal.Refusal.{Refusal}
use Rattle.iom_device.specs.declared.device.Device.{Device}
use Rattle.iom_device.specs.Caches.{kind_in, cache_of, epoch_of, epoch_in, with_cache}
use Rattle.iom_device.specs.Calls.{reset_of}
use Rattle.iom_board.specs.Commits.{ResetsAnyDevice, ClearsCache}
use Rattle.iom_board.specs.BoardParts.{BoardParts}
use Rattle.iom_reach.specs.Transitions.{AreSomeOf, with_raised_epoch, DropEntries}
use Rattle.iom_reach.specs.Scene.{AtsKind, AtsEntry}
use Rattle.iom_hardware_ways.specs.Scenes.{ats_kind, kept_entry, kept_entries, scene_of}
use Rattle.iom_hardware_ways.proofs.CarryLemmas.{by_device}
use Rattle.iom_hardware_ways.proofs.DeviceSets.{kinds_set, cache_set, cache_other, cache_kept, cache_there}
use Rattle.iom_hardware_ways.proofs.ListLemmas.{in_none, same_function}
use Rattle.iom_hardware_ways.proofs.Turns.{Comes, nothing, one}

-- the caches as a scene has them
abbrev pub entries_in : List Device → ℕ → List AtsEntry
entries_in devices d = kept_entries (cache_of devices d)

-- a scene with other caches and epochs, where the devices are of the same kinds
pub with_devices : (trusted : ℕ → Bool) (old : BoardParts) (id : ℕ) (cache : Option Cache)
    → scene_of trusted (record old { devices = with_cache old.devices id cache })
    ≡ record (scene_of trusted old) { ats_entries = entries_in (with_cache old.devices id cache); epoch_of = epoch_in (with_cache old.devices id cache) }
with_devices trusted old id cache =
    ap (λ (k : ℕ → Option AtsKind). record (scene_of trusted old) { kind_of = k; ats_entries = entries_in (with_cache old.devices id cache); epoch_of = epoch_in (with_cache old.devices id cache) })
    (same_function (λ d. option_map ats_kind (kind_in (with_cache old.devices id cache) d)) (λ d. option_map ats_kind (kind_in old.devices d))
    (λ d. ap (option_map ats_kind) (kinds_set old.devices id cache d)))

-- where a device's cache has less, so have all
pub entries_among : (devices : List Device) (id : ℕ) (cache left : Cache) → cache_of devices id ≡ Some cache
    → ((x : AtsEntry) → Contains (map kept_entry left.entries) x → Contains (map kept_entry cache.entries) x)
    → AreSomeOf (entries_in (with_cache devices id (Some left))) (entries_in devices)
entries_among devices id cache left at among d x there = elim (eqb_tells d id) [
  | inl e ↦
      let (device, found, own) = cache_there devices id cache at in
      let mine : Contains (map kept_entry left.entries) x =
      subst (λ o. Contains (kept_entries o) x) (ap (λ k. cache_of (with_cache devices id (Some left)) k) e.1 ∙ cache_set devices id (Some left) device found) there in
      subst (λ o. Contains (kept_entries o) x) (sym (ap (λ k. cache_of devices k) e.1 ∙ at)) (among x mine)
  | inr ne ↦ subst (λ o. Contains (kept_entries o) x) (cache_other devices id (Some left) d ne.1) there
]

-- where a device's epoch is the next, the epochs are raised
pub epochs_raised : (devices : List Device) (id : ℕ) (cache left : Cache) → cache_of devices id ≡ Some cache → left.epoch ≡ cache.epoch + 1
    → epoch_in (with_cache devices id (Some left)) ≡ with_raised_epoch (epoch_in devices) id
epochs_raised devices id cache left at next = same_function (epoch_in (with_cache devices id (Some left))) (with_raised_epoch (epoch_in devices) id) (λ d. at_each d (eqb_tells id d))
  where
    at_each : (d : ℕ) → (((id == d) ≡ true) × (id ≡ d)) ⊎ (((id == d) ≡ false) × (id ≢ d)) → epoch_in (with_cache devices id (Some left)) d ≡ with_raised_epoch (epoch_in devices) id d
    at_each d (inl e) =
        let (device, found, own) = cache_there devices id cache at in
        let now : epoch_in (with_cache devices id (Some left)) d ≡ left.epoch = ap epoch_of (ap (λ k. cache_of (with_cache devices id (Some left)) k) (sym e.1) ∙ cache_set devices id (Some left) device found) in
        let before : epoch_in devices d ≡ cache.epoch = ap epoch_of (ap (λ k. cache_of devices k) (sym e.1) ∙ at) in
        now ∙ next ∙ ap (λ n. n + 1) (sym before) ∙ ap (λ (b : Bool). if b then epoch_in devices d + 1 else epoch_in devices d) (sym e.0)
    at_each d (inr ne) =
        ap epoch_of (cache_other devices id (Some left) d (λ same. ne.1 (sym same)))
        ∙ ap (λ (b : Bool). if b then epoch_in devices d + 1 else epoch_in devices d) (sym ne.0)

-- a cache drops entries, and begins an epoch
pub drops : (trusted : ℕ → Bool) (old new : BoardParts) (id : ℕ) (cache left : Cache) → cache_of old.devices id ≡ Some cache → left.epoch ≡ cache.epoch + 1
    → ((x : AtsEntry) → Contains (map kept_entry left.entries) x → Contains (map kept_entry cache.entries) x)
    → new ≡ record old { devices = with_cache old.devices id (Some left) } → Comes (scene_of trusted old) (scene_of trusted new)
drops trusted old new id cache left at next among is =
    one (DropEntries id) tt (scene_of trusted old) (scene_of trusted new) (
      entries_in (with_cache old.devices id (Some left)),
      entries_among old.devices id cache left at among,
      ap (scene_of trusted) is ∙ with_devices trusted old id (Some left)
          ∙ ap (λ (e : ℕ → ℕ). record (scene_of trusted old) { ats_entries = entries_in (with_cache old.devices id (Some left)); epoch_of = e }) (epochs_raised old.devices id cache left at next),
    )

pub resets : (trusted : ℕ → Bool) (old : BoardParts) (id : ℕ) (answer : Result (Unit {0}) Refusal) (new : BoardParts) → ResetsAnyDevice old id answer new
    → Comes (scene_of trusted old) (scene_of trusted new)
resets trusted old id answer new call =
    by_device trusted is_any_kind (ClearsCache id) old id answer new call (λ done able reply effect. by (cache_of old.devices id) refl effect.cleared)
  where
    by : (cache : Option Cache) → cache_of old.devices id ≡ cache → new ≡ record old { devices = with_cache old.devices id (reset_of cache) } → Comes (scene_of trusted old) (scene_of trusted new)
    by None at is = nothing (scene_of trusted old) (scene_of trusted new)
        (ap (scene_of trusted) (is ∙ ap (λ (c : Option Cache). record old { devices = with_cache old.devices id c }) (sym at)
        ∙ ap (λ (ds : List Device). record old { devices = ds }) (cache_kept old.devices id)))
    by (Some cache) at is = drops trusted old new id cache (record { epoch = cache.epoch + 1; entries = [] }) at refl (λ x there. absurd (in_none x there)) is
