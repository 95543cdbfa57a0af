-- What becomes of block devices, and of the disks that were never in one (virtio 1.2, sections 2.1, 2.4, 3.1 and 5.2).
use Rattle.std.specs.Prelude.{◌≡◌, ◌≢◌, ◌⊎◌, ℕ, ◌==◌, not, List, [], ◌∷◌, ◌++◌, find, filter, Option, None, Some, if◌then◌else◌}
use Rattle.iom_virtio_blk.specs.declared.front.Front.{Front}
use Rattle.iom_virtio_blk.specs.declared.stage.Stage.TheVariants.{Reset}
use Rattle.iom_virtio_blk.specs.Blocks.{IsQuiet, EndsWaiting, given_up, down, negotiated, with_queue}
use Rattle.iom_virtio_blk.specs.DiskStates.{DiskState}
use Rattle.iom_virtio_blk.specs.Features.{offered, flush_of}
use Rattle.iom_virtio_blk.specs.Steps.{Device, device}
use Rattle.iom_virtqueue.specs.declared.layout.Layout.{Layout}
use Rattle.iom_block_devices.specs.Numbered.{ShownDisk}
use Rattle.iom_block_devices.specs.Shown.{ShownBlock, ShownBlocks}

-- the block device with this id
abbrev pub block_with : List ShownBlock → ℕ → Option ShownBlock
block_with blocks id = find (λ (block : ShownBlock). block.id == id) blocks

-- the block devices, where the one with this id has become this
abbrev pub with_block : List ShownBlock → ℕ → Device → List ShownBlock
with_block [] id after = []
with_block (block ∷ others) id after = if block.id == id then (record block { device = after }) ∷ others else block ∷ with_block others id after

-- so one block device changes, if it is there, and no other
abbrev pub ChangesIfThere : Option ShownBlock → (Device → Device → Type 0) → List ShownBlock → ℕ → List ShownBlock → Type 0
ChangesIfThere None How old id new = new ≡ old
ChangesIfThere (Some block) How old id new = (after : Device) × How block.device after × (new ≡ with_block old id after)

-- so the one with this id does
abbrev pub ChangesOne : (Device → Device → Type 0) → List ShownBlock → ℕ → List ShownBlock → Type 0
ChangesOne How old id new = ChangesIfThere (block_with old id) How old id new

-- THE BLOCK DEVICE with this id changes so, if there is one. All others stay, and so do the disks at hand
abbrev pub Changes : (Device → Device → Type 0) → ShownBlocks → ℕ → ShownBlocks → Type 0
Changes How old id new = ChangesOne How old.blocks id new.blocks × (new.at_hand ≡ old.at_hand)

-- THE DISK with this number is taken: it was at hand, and isn't any more
pub record IsDiskTaken (number : ℕ) (old : List ShownDisk) (disk : DiskState) (new : List ShownDisk) : Type 0 where
  pub held : find (λ (one : ShownDisk). one.number == number) old ≡ Some (record { number = number; disk = disk })
  pub left : new ≡ filter (λ (one : ShownDisk). not (one.number == number)) old

-- a block device that was just plugged in, with this disk: it is reset, and nothing is under way
pub record IsNew (disk : DiskState) (new : Device) : Type 0 where
  pub stage : new.front.stage ≡ Reset
  pub quiet : IsQuiet new.front
  pub has : new.disk ≡ Some disk

-- it stands behind the others, with the disk of this number
pub record IsPluggedIn (number id : ℕ) (old : List ShownBlock) (old_disks : List ShownDisk) (new : List ShownBlock) (new_disks : List ShownDisk) : Type 0 where
  pub disk : DiskState
  pub taken : IsDiskTaken number old_disks disk new_disks
  pub after : Device
  pub is_new : IsNew disk after
  pub behind : new ≡ old ++ record { id = id; device = after } ∷ []

-- the disk goes into a device that has none; what it had in work stays in work
abbrev pub HasDisk : DiskState → Device → Device → Type 0
HasDisk disk old new = (old.disk ≡ None) × (new ≡ device old.front (Some disk))

-- the disk of this number goes into the block device with the id, which is there
pub record IsPutIn (number id : ℕ) (old : List ShownBlock) (old_disks : List ShownDisk) (new : List ShownBlock) (new_disks : List ShownDisk) : Type 0 where
  pub block : ShownBlock
  pub there : block_with old id ≡ Some block
  pub disk : DiskState
  pub taken : IsDiskTaken number old_disks disk new_disks
  pub changed : ChangesOne (HasDisk disk) old id new

-- the device gives up what it had in work, and its disk is dropped
abbrev pub IsGivenUp : Device → Device → Type 0
IsGivenUp old new = new ≡ device (given_up Reset old.front) None

-- the device gives up what it had in work, and has no queue; its disk stays
abbrev pub IsReset : Device → Device → Type 0
IsReset old new = new ≡ device (given_up Reset old.front) old.disk

-- the driver resets the device, takes all features that it offers, and sets its queue: then it works (section 3.1.1)
pub record SetsUp (layout : Layout) (old : Device) (new : Device) : Type 0 where
  pub between : Front
  pub features : negotiated Reset (flush_of offered) (given_up Reset old.front) ≡ Some between
  pub queue : with_queue between.stage layout between ≡ Some new.front
  pub disk : new.disk ≡ old.disk

-- the access of this number was made, and gave these bytes: a device that waits for it waits no longer, and to any other nothing happens
abbrev pub HearsMade : ℕ → List ℕ → Device → Device → Type 0
HearsMade number bytes old new =
    ((old.front.waits ≡ Some number) × EndsWaiting old.front bytes new.front × (new.disk ≡ old.disk)) ⊎ ((old.front.waits ≢ Some number) × (new ≡ old))

-- the device is down where its access still wants the page that is refused
abbrev pub HearsRefusal : ℕ → Device → Device → Type 0
HearsRefusal page old new =
    ((old.front.asked ≡ Some page) × (new ≡ device (down old.front) old.disk)) ⊎ ((old.front.asked ≢ Some page) × (new ≡ old))
