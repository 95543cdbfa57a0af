-- A device that is plugged in, a disk that is put into a block device, and one that goes: what a board knows of its block devices then.
use Rattle.std.proofs.Common.{◌≡◌, ◌<◌, ◌∙◌, ℕ, Bool, true, false, is_some, nat_le, not, List, [], ◌∷◌, ◌++◌, length, Option, None, Some, Result, Ok, Err, inl, inr, if◌then◌else◌, refl, sym, ap, subst, arith}
use Rattle.std.specs.Option.{option_map, option_map_or}
use Rattle.std.proofs.lemmas.Bool.{leb-false}
use Rattle.std.proofs.lemmas.List.{length-map}
use Rattle.iom_base.specs.declared.device_kind.NewDevice.{NewDevice}
use Rattle.iom_base.specs.declared.device_kind.NewDevice.TheVariants as newly
use Rattle.iom_base.specs.declared.refusal.Refusal.{Refusal}
use Rattle.iom_base.specs.declared.refusal.Refusal.TheVariants.{AlreadyPlugged, BadMedium, NoSuchDevice, TooManyDevices, WrongKind}
use Rattle.iom_base.specs.Refusals.{NoneApplies}
use Rattle.iom_base.specs.DeviceKinds.{disk_of, is_block_device}
use Rattle.iom_base.specs.Disks.{is_among, is_missing}
use Rattle.iom_block_devices.specs.declared.block.Block.{Block}
use Rattle.iom_block_devices.specs.Entries.{DiskEntry, disk_entry_of, disk_entries_of}
use Rattle.iom_block_devices.specs.Places.{has_in, with_has}
use Rattle.iom_board.specs.BoardParts.{BoardParts}
use Rattle.iom_board.specs.Plugging.{LetsDiskGo, LosesDisk, PutsDiskIntoDevice, TakesDisk, has_disk_in, newly_plugged, why_not_plugged}
use Rattle.iom_board.specs.Invariant.{AreOfOneId}
use Rattle.iom_device.specs.declared.device.Device.{Device}
use Rattle.iom_device.specs.Caches.{IsAble, cache_of, device_with, kind_in, with_has_disk}
use Rattle.iom_device.specs.Calls.{reset_of, with_block_reset, with_reset}
use Rattle.iom_virtio_blk.specs.declared.disk.Disk.{Ghosts}
use Rattle.iom_hardware.specs.Agreement.{known_blocks}
use Rattle.iom_hardware.proofs.KnownBlocks.{known_append, known_cache, known_has, known_length, known_there}

ok_err : (why : Refusal) → ◌≡◌ {A = Result (Unit {0}) Refusal} (Ok tt) (Err why) → ⊥
ok_err why same = cc

append_nothing : (entries : List DiskEntry) → entries ++ [] ≡ entries
append_nothing [] = refl
append_nothing (first ∷ others) = ap (λ (l : List DiskEntry). first ∷ l) (append_nothing others)

-- A DEVICE IS PLUGGED IN that is no block device

not_known : (id : ℕ) (what : NewDevice) → disk_of what ≡ None → known_blocks (newly_plugged id what ∷ []) ≡ []
not_known id newly.Raw none = refl
not_known id newly.Ats none = refl
not_known id (newly.Block disk) none = cc
not_known id (newly.CachedBlock disk) none = cc

pub plugged_none : (devices : List Device) (id : ℕ) (what : NewDevice) → disk_of what ≡ None → known_blocks (devices ++ newly_plugged id what ∷ []) ≡ known_blocks devices
plugged_none devices id what none =
    known_append devices (newly_plugged id what) ∙ ap (λ (l : List DiskEntry). known_blocks devices ++ l) (not_known id what none) ∙ append_nothing (known_blocks devices)

-- and one that is

one_known : (id number : ℕ) (what : NewDevice) → disk_of what ≡ Some number → known_blocks (newly_plugged id what ∷ []) ≡ (id, true) ∷ []
one_known id number newly.Raw has = cc
one_known id number newly.Ats has = cc
one_known id number (newly.Block disk) has = refl
one_known id number (newly.CachedBlock disk) has = refl

pub plugged_block : (devices : List Device) (id number : ℕ) (what : NewDevice) → disk_of what ≡ Some number
    → known_blocks (devices ++ newly_plugged id what ∷ []) ≡ known_blocks devices ++ (id, true) ∷ []
plugged_block devices id number what has =
    known_append devices (newly_plugged id what) ∙ ap (λ (l : List DiskEntry). known_blocks devices ++ l) (one_known id number what has)

second : (one two three : Bool) (a b c : Refusal) → NoneApplies ((one, a) ∷ (two, b) ∷ (three, c) ∷ []) → two ≡ false
second true two three a b c none = cc
second false true three a b c none = cc
second false false three a b c none = refl

third : (one two three : Bool) (a b c : Refusal) → NoneApplies ((one, a) ∷ (two, b) ∷ (three, c) ∷ []) → three ≡ false
third true two three a b c none = cc
third false true three a b c none = cc
third false false true a b c none = cc
third false false false a b c none = refl

pub few_devices : (disks : List ℕ) (old : BoardParts) (id : ℕ) (what : NewDevice) → NoneApplies (why_not_plugged disks old id what) → length old.devices < 16
few_devices disks old id what none = leb-false 16 (length old.devices) (second (is_some (kind_in old.devices id)) (nat_le 16 (length old.devices)) (is_missing disks (disk_of what)) AlreadyPlugged TooManyDevices BadMedium none)

not_missing : (disks : List ℕ) (number : ℕ) (named : Option ℕ) → named ≡ Some number → is_missing disks named ≡ false → is_among disks number ≡ true
not_missing disks number None same there = cc
not_missing disks number (Some other) same there = let it : other ≡ number = cc in subst (λ (n : ℕ). is_among disks n ≡ true) it (back (is_among disks other) there)
  where
    back : (b : Bool) → not b ≡ false → b ≡ true
    back true there = refl
    back false there = cc

pub is_at_hand : (disks : List ℕ) (old : BoardParts) (id number : ℕ) (what : NewDevice) → disk_of what ≡ Some number → NoneApplies (why_not_plugged disks old id what) → is_among disks number ≡ true
is_at_hand disks old id number what has none = not_missing disks number (disk_of what) has
    (third (is_some (kind_in old.devices id)) (nat_le 16 (length old.devices)) (is_missing disks (disk_of what)) AlreadyPlugged TooManyDevices BadMedium none)

pub few_blocks : {D : Type 0} {d : Ghosts D} (blocks : List (Block D d)) (devices : List Device) → disk_entries_of blocks ≡ known_blocks devices → length devices < 16 → length blocks < 16
few_blocks blocks devices same few =
    let most = known_length devices in
    let count : length blocks ≡ length (known_blocks devices) = sym (length-map blocks disk_entry_of) ∙ ap length same in
    omega (arith, most, count, few)

-- A BLOCK DEVICE WITHOUT A DISK

pub has_none : (devices : List Device) (id : ℕ) → IsAble is_block_device devices id → has_disk_in devices id ≡ false → has_in (known_blocks devices) id ≡ Some false
has_none devices id able none = by (device_with devices id) refl able.1 none
  where
    by : (found : Option Device) → device_with devices id ≡ found → option_map (λ (device : Device). device.kind) found ≡ Some able.0
        → option_map_or (λ (device : Device). device.has_disk) found false ≡ false → has_in (known_blocks devices) id ≡ Some false
    by None at is has = cc
    by (Some device) at is has =
        let same : device.kind ≡ able.0 = cc in known_there devices id device at (ap is_block_device same ∙ able.2) ∙ ap (λ (b : Bool). Some b) has

-- A DISK GOES, and a block device is reset
pub known_left : (devices : List Device) (id : ℕ) → AreOfOneId devices → known_blocks (with_block_reset (with_has_disk devices id false) id) ≡ with_has (known_blocks devices) id false
known_left devices id own = reset_or (option_map_or is_block_device (kind_in (with_has_disk devices id false) id) false) ∙ known_has devices id false own
  where
    reset_or : (b : Bool) → known_blocks (if b then with_reset (with_has_disk devices id false) id else with_has_disk devices id false) ≡ known_blocks (with_has_disk devices id false)
    reset_or true = known_cache (with_has_disk devices id false) id (reset_of (cache_of (with_has_disk devices id false) id))
    reset_or false = refl

-- the disk was put in
pub disk_taken : (disks left : List ℕ) (old new : BoardParts) (id disk : ℕ) (answer : Result (Unit {0}) Refusal) → PutsDiskIntoDevice disks old id disk answer new left → answer ≡ Ok tt
    → TakesDisk disks old id disk answer new left
disk_taken disks left old new id disk answer (inl (none, kept)) done = absurd (ok_err NoSuchDevice (sym done ∙ none.answered))
disk_taken disks left old new id disk answer (inr (inl (wrong, kept))) done = absurd (ok_err WrongKind (sym done ∙ wrong.answered))
disk_taken disks left old new id disk answer (inr (inr (inl refuses))) done = absurd (ok_err BadMedium (sym done ∙ refuses.answered))
disk_taken disks left old new id disk answer (inr (inr (inr takes))) done = takes

-- the disk is gone
pub disk_gone : (old new : BoardParts) (id : ℕ) (answer : Result (Unit {0}) Refusal) → LosesDisk old id answer new → answer ≡ Ok tt → LetsDiskGo id old tt new
disk_gone old new id answer (inl none) done = absurd (ok_err NoSuchDevice (sym done ∙ none.answered))
disk_gone old new id answer (inr (inl wrong)) done = absurd (ok_err WrongKind (sym done ∙ wrong.answered))
disk_gone old new id answer (inr (inr effect)) done = record { gone = effect.call.gone }
