-- Where a device is a block device there is one itself, and else none.
use Rattle.std.proofs.Common.{◌≡◌, ◌∙◌, inl, inr, ℕ, ◌==◌, Bool, true, false, IsSome, is_some, List, [], ◌∷◌, Option, None, Some, Err, if◌then◌else◌, refl, sym, ap, subst}
use Rattle.std.proofs.lemmas.Bool.{false≢true}
use Rattle.iom_base.specs.declared.device_kind.DeviceKind.{DeviceKind}
use Rattle.iom_base.specs.declared.refusal.Refusal.{Refusal}
use Rattle.iom_base.specs.DeviceKinds.{is_block_device}
use Rattle.iom_block_devices.specs.declared.block.Block.{Block}
use Rattle.iom_block_devices.specs.Changes.{block_with}
use Rattle.iom_block_devices.specs.Entries.{DiskEntry, disk_entries_of}
use Rattle.iom_block_devices.specs.Places.{has_in}
use Rattle.iom_block_devices.specs.Shown.{ShownBlock, shown_block, shown_blocks}
use Rattle.iom_block_devices.proofs.PlaceLemmas.{none_entries}
use Rattle.iom_board.specs.BoardParts.{BoardParts}
use Rattle.iom_device.specs.declared.device.Device.{Device}
use Rattle.iom_device.specs.Caches.{IsAble, kind_in}
use Rattle.iom_virtio_blk.specs.declared.disk.Disk.{Ghosts}
use Rattle.iom_virtio_blk.specs.DiskStates.{DiskState}
use Rattle.iom_hardware.specs.declared.hardware.Hardware.{Hardware}
use Rattle.iom_hardware.specs.Permits.{IsBlockOrRefused}
use Rattle.iom_hardware.specs.Invariant.{HardwareInvariant}
use Rattle.iom_hardware.specs.Status.{FindsNoBlock}
use Rattle.iom_hardware.proofs.KnownBlocks.{able_known, unable_known}

-- of a block device that is there it is known whether it has a disk
found_entry : {D : Type 0} {d : Ghosts D} (shown : D → DiskState) (blocks : List (Block D d)) (id : ℕ) (block : ShownBlock) → block_with (shown_blocks shown blocks) id ≡ Some block
    → (has : Bool) × (has_in (disk_entries_of blocks) id ≡ Some has)
found_entry shown [] id block there = cc
found_entry shown (first ∷ others) id block there = by (first.id == id) there (λ rest. found_entry shown others id block rest)
  where
    by : (b : Bool) → (if b then Some (shown_block shown first) else block_with (shown_blocks shown others) id) ≡ Some block
        → (block_with (shown_blocks shown others) id ≡ Some block → (has : Bool) × (has_in (disk_entries_of others) id ≡ Some has))
        → (has : Bool) × ((if b then Some (is_some first.blk.drive.disk) else has_in (disk_entries_of others) id) ≡ Some has)
    by true there rest = (is_some first.blk.drive.disk, refl)
    by false there rest = rest there

module _ {D : Type 0} {d : Ghosts D} (shown : D → DiskState) (hardware : Hardware D d) (invariants : HardwareInvariant hardware) (id : ℕ) where
  -- one that is there is a block device for the board
  pub able_there : (block : ShownBlock) → block_with (shown_blocks shown hardware.blocks.items) id ≡ Some block → IsAble is_block_device hardware.board.devices.items id
  able_there block there =
      let entry = found_entry shown hardware.blocks.items id block there in
      able_known hardware.board.devices.items id entry.0 invariants.board.own_ids
      (subst (λ (entries : List DiskEntry). has_in entries id ≡ Some entry.0) invariants.agrees.known entry.1)

  -- and one that is a block device for the board is there
  pub there_able : IsAble is_block_device hardware.board.devices.items id → block_with (shown_blocks shown hardware.blocks.items) id ≡ None → ⊥
  there_able able none =
      unable_known hardware.board.devices.items id
      (subst (λ (entries : List DiskEntry). has_in entries id ≡ None) invariants.agrees.known (none_entries shown hardware.blocks.items id none)) able

  -- none is there where the board says why not
  pub none_there : (why : Refusal) → IsBlockOrRefused (kind_in hardware.board.devices.items id) (Some why) → block_with (shown_blocks shown hardware.blocks.items) id ≡ None
  none_there why refuses = by (block_with (shown_blocks shown hardware.blocks.items) id) refl
    where
      never : (known : Option DeviceKind) (kind : DeviceKind) → known ≡ Some kind → is_block_device kind ≡ true → IsBlockOrRefused known (Some why) → ⊥
      never None kind at able refuses = cc
      never (Some other) kind at able (cannot, is) = let same : other ≡ kind = cc in false≢true (sym cannot ∙ ap is_block_device same ∙ able)

      by : (found : Option ShownBlock) → block_with (shown_blocks shown hardware.blocks.items) id ≡ found → found ≡ None
      by None at = refl
      by (Some block) at = let able = able_there block at in absurd (never (kind_in hardware.board.devices.items id) able.0 able.1 able.2 refuses)

-- how that is told
pub no_block : {A : Type 0} (devices : List Device) (parts : BoardParts) (id : ℕ) (why : Refusal) → parts.devices ≡ devices → IsBlockOrRefused (kind_in devices id) (Some why)
    → FindsNoBlock {A = A} parts id (Err why) parts
no_block {A = A} devices parts id why same refuses = by (kind_in devices id) refl refuses
  where
    by : (known : Option DeviceKind) → kind_in devices id ≡ known → IsBlockOrRefused known (Some why) → FindsNoBlock {A = A} parts id (Err why) parts
    by None at is = inl (record { absent = ap (λ ds. kind_in ds id) same ∙ at; answered = ap Err is; same = refl })
    by (Some kind) at (cannot, is) = inr (record { kind = kind; there = ap (λ ds. kind_in ds id) same ∙ at; cannot = cannot; answered = ap Err is; same = refl })

pub is_able : (devices : List Device) (id : ℕ) → IsBlockOrRefused (kind_in devices id) None → IsAble is_block_device devices id
is_able devices id permits = by (kind_in devices id) refl permits
  where
    by : (known : Option DeviceKind) → kind_in devices id ≡ known → IsBlockOrRefused known None → IsAble is_block_device devices id
    by None at never = absurd never
    by (Some kind) at able = (kind, at, able)

-- where none is there, the board says why not
pub is_refused : {D : Type 0} {d : Ghosts D} (shown : D → DiskState) (hardware : Hardware D d) → HardwareInvariant hardware → (id : ℕ) → block_with (shown_blocks shown hardware.blocks.items) id ≡ None
    → (why : Option Refusal) → IsBlockOrRefused (kind_in hardware.board.devices.items id) why → IsSome why
is_refused shown hardware invariants id none None permits = absurd (there_able shown hardware invariants id (is_able hardware.board.devices.items id permits) none)
is_refused shown hardware invariants id none (Some why) refuses = refl
