-- What a board knows of its block devices, where one device changes.
use Rattle.std.proofs.Common.{suc, ◌≡◌, ◌≢◌, ◌==◌, ◌≤◌, ◌∙◌, inl, inr, ℕ, Bool, true, false, List, [], ◌∷◌, ◌++◌, length, Option, Some, None, slice_get, refl, sym, ap, arith, if◌then◌else◌}
use Rattle.std.specs.Option.{option_map}
use Rattle.std.proofs.lemmas.Bool.Decides.{eqb_tells}
use Rattle.iom_ats_cache.specs.Cache.{Cache}
use Rattle.iom_base.specs.declared.device_kind.DeviceKind.{DeviceKind}
use Rattle.iom_base.specs.DeviceKinds.{is_block_device}
use Rattle.iom_device.specs.declared.device.Device.{Device}
use Rattle.iom_device.specs.Caches.{IsAble, device_with, with_cache, with_has_disk}
use Rattle.iom_board.specs.Invariant.{AreOfOneId}
use Rattle.iom_block_devices.specs.Entries.{DiskEntry}
use Rattle.iom_hardware.specs.Agreement.{known_blocks}
use Rattle.iom_block_devices.specs.Places.{has_in, with_has}
use Rattle.iom_block_devices.proofs.PlaceLemmas.{with_none}

-- a device, behind which these block devices are known
abbrev before : Device → List DiskEntry → List DiskEntry
before device known = if is_block_device device.kind then (device.id, device.has_disk) ∷ known else known

-- a cache doesn't matter
pub known_cache : (devices : List Device) (id : ℕ) (cache : Option Cache) → known_blocks (with_cache devices id cache) ≡ known_blocks devices
known_cache [] id cache = refl
known_cache (first ∷ others) id cache = by (first.id == id) (known_cache others id cache)
  where
    by : (b : Bool) → known_blocks (with_cache others id cache) ≡ known_blocks others
        → known_blocks (if b then (record first { cache = cache }) ∷ others else first ∷ with_cache others id cache) ≡ known_blocks (first ∷ others)
    by true rest = refl
    by false rest = ap (before first) rest

-- a device that is plugged in stands last
pub known_append : (devices : List Device) (new : Device) → known_blocks (devices ++ new ∷ []) ≡ known_blocks devices ++ known_blocks (new ∷ [])
known_append [] new = refl
known_append (first ∷ others) new = by (is_block_device first.kind) (known_append others new)
  where
    by : (b : Bool) → known_blocks (others ++ new ∷ []) ≡ known_blocks others ++ known_blocks (new ∷ [])
        → (if b then (first.id, first.has_disk) ∷ known_blocks (others ++ new ∷ []) else known_blocks (others ++ new ∷ []))
        ≡ (if b then (first.id, first.has_disk) ∷ known_blocks others else known_blocks others) ++ known_blocks (new ∷ [])
    by true rest = ap (λ (l : List DiskEntry). (first.id, first.has_disk) ∷ l) rest
    by false rest = rest

-- there are no more than devices
pub known_length : (devices : List Device) → length (known_blocks devices) ≤ length devices
known_length [] = omega arith
known_length (first ∷ others) = by (is_block_device first.kind) (known_length others)
  where
    by : (b : Bool) → length (known_blocks others) ≤ length others
        → length (if b then (first.id, first.has_disk) ∷ known_blocks others else known_blocks others) ≤ suc (length others)
    by true rest = omega (arith, rest)
    by false rest = omega (arith, rest)

-- no device has this id
abbrev AreOthers : List Device → ℕ → Type 0
AreOthers devices id = (k : ℕ) (other : Device) → slice_get devices k ≡ Some other → other.id ≢ id

others_own : (first : Device) (others : List Device) → AreOfOneId (first ∷ others) → AreOthers others first.id
others_own first others own k other at same = let e = own 0 (suc k) first other refl at (sym same) in omega (arith, e)

own_tail : (first : Device) (others : List Device) → AreOfOneId (first ∷ others) → AreOfOneId others
own_tail first others own j k one other at at' same = let e = own (suc j) (suc k) one other at at' same in omega (arith, e)

others_tail : (first : Device) (others : List Device) (id : ℕ) → AreOthers (first ∷ others) id → AreOthers others id
others_tail first others id none k other at = none (suc k) other at

-- then none of the block devices has it
none_has : (devices : List Device) (id : ℕ) → AreOthers devices id → has_in (known_blocks devices) id ≡ None
none_has [] id none = refl
none_has (first ∷ others) id none = elim (eqb_tells first.id id) [
  | inl e ↦ absurd (none 0 first refl e.1)
  | inr ne ↦ by (is_block_device first.kind) ne.0 (none_has others id (others_tail first others id none))
]
  where
    by : (b : Bool) → (first.id == id) ≡ false → has_in (known_blocks others) id ≡ None
        → has_in (if b then (first.id, first.has_disk) ∷ known_blocks others else known_blocks others) id ≡ None
    by true differs rest = rw differs rest
    by false differs rest = rest

-- the one with the id has a disk, or has none
pub known_has : (devices : List Device) (id : ℕ) (has : Bool) → AreOfOneId devices → known_blocks (with_has_disk devices id has) ≡ with_has (known_blocks devices) id has
known_has [] id has own = refl
known_has (first ∷ others) id has own = elim (eqb_tells first.id id) [
  | inl e ↦ rw e.0 (here (is_block_device first.kind) e.0 (none_has others id (λ k other at same. others_own first others own k other at (same ∙ sym e.1))))
  | inr ne ↦ rw ne.0 (there (is_block_device first.kind) ne.0 (known_has others id has (own_tail first others own)))
]
  where
    here : (b : Bool) → (first.id == id) ≡ true → has_in (known_blocks others) id ≡ None
        → (if b then (first.id, has) ∷ known_blocks others else known_blocks others) ≡ with_has (if b then (first.id, first.has_disk) ∷ known_blocks others else known_blocks others) id has
    here true same none = rw same refl
    here false same none = sym (with_none (known_blocks others) id has none)

    there : (b : Bool) → (first.id == id) ≡ false → known_blocks (with_has_disk others id has) ≡ with_has (known_blocks others) id has
        → (if b then (first.id, first.has_disk) ∷ known_blocks (with_has_disk others id has) else known_blocks (with_has_disk others id has))
        ≡ with_has (if b then (first.id, first.has_disk) ∷ known_blocks others else known_blocks others) id has
    there true differs rest = rw differs (ap (λ (l : List DiskEntry). (first.id, first.has_disk) ∷ l) rest)
    there false differs rest = rest

-- what is known of a device
abbrev is_block : Option DeviceKind → Type 0
is_block kind = (it : DeviceKind) × (kind ≡ Some it) × (is_block_device it ≡ true)

-- one of which it is known whether it has a disk is a block device
pub able_known : (devices : List Device) (id : ℕ) (has : Bool) → AreOfOneId devices → has_in (known_blocks devices) id ≡ Some has → IsAble is_block_device devices id
able_known [] id has own at = cc
able_known (first ∷ others) id has own at = elim (eqb_tells first.id id) [
  | inl e ↦ rw e.0 (here (is_block_device first.kind) refl e.0 (none_has others id (λ k other there same. others_own first others own k other there (same ∙ sym e.1))) at)
  | inr ne ↦ rw ne.0 (able_known others id has (own_tail first others own) (there (is_block_device first.kind) ne.0 at))
]
  where
    here : (b : Bool) → is_block_device first.kind ≡ b → (first.id == id) ≡ true → has_in (known_blocks others) id ≡ None
        → has_in (if b then (first.id, first.has_disk) ∷ known_blocks others else known_blocks others) id ≡ Some has → is_block (Some first.kind)
    here true is same none at = (first.kind, refl, is)
    here false is same none at = absurd (some_none (sym none ∙ at))
      where
        some_none : ◌≡◌ {A = Option Bool} None (Some has) → ⊥
        some_none same = cc

    there : (b : Bool) → (first.id == id) ≡ false → has_in (if b then (first.id, first.has_disk) ∷ known_blocks others else known_blocks others) id ≡ Some has
        → has_in (known_blocks others) id ≡ Some has
    there true differs at = rw differs at at
    there false differs at = at

-- of one that is a block device it is known whether it has a disk
pub known_there : (devices : List Device) (id : ℕ) (device : Device) → device_with devices id ≡ Some device → is_block_device device.kind ≡ true
    → has_in (known_blocks devices) id ≡ Some device.has_disk
known_there [] id device at able = cc
known_there (first ∷ others) id device at able = elim (eqb_tells first.id id) [
  | inl e ↦
      let same : Some first ≡ Some device = rw e.0 at at in
      here (is_block_device first.kind) e.0 (ap (λ (d : Device). is_block_device d.kind) (the_same first device same) ∙ able) (ap (λ (d : Device). d.has_disk) (the_same first device same))
  | inr ne ↦ there (is_block_device first.kind) ne.0 (known_there others id device (rw ne.0 at at) able)
]
  where
    the_same : (x y : Device) → Some x ≡ Some y → x ≡ y
    the_same x y both = cc

    here : (b : Bool) → (first.id == id) ≡ true → b ≡ true → first.has_disk ≡ device.has_disk
        → has_in (if b then (first.id, first.has_disk) ∷ known_blocks others else known_blocks others) id ≡ Some device.has_disk
    here true same able has = rw same (ap (λ (b : Bool). Some b) has)
    here false same able has = cc

    there : (b : Bool) → (first.id == id) ≡ false → has_in (known_blocks others) id ≡ Some device.has_disk
        → has_in (if b then (first.id, first.has_disk) ∷ known_blocks others else known_blocks others) id ≡ Some device.has_disk
    there true differs rest = rw differs rest
    there false differs rest = rest

-- so where nothing is known of it, it is none
pub unable_known : (devices : List Device) (id : ℕ) → has_in (known_blocks devices) id ≡ None → ¬ IsAble is_block_device devices id
unable_known devices id none (kind, there, able) = at (device_with devices id) refl there
  where
    at : (found : Option Device) → device_with devices id ≡ found → option_map (λ (device : Device). device.kind) found ≡ Some kind → ⊥
    at None is there = cc
    at (Some device) is there =
        let same : device.kind ≡ kind = cc in
        some_none device.has_disk (sym none ∙ known_there devices id device is (ap is_block_device same ∙ able))
      where
        some_none : (b : Bool) → ◌≡◌ {A = Option Bool} None (Some b) → ⊥
        some_none b same = cc
