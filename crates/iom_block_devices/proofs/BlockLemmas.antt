-- What becomes of one block device, by what its calls say.
use Rattle.std.proofs.Common.{◌≡◌, ◌≢◌, ◌⊎◌, ◌∙◌, ℕ, Bool, inl, inr, List, Option, Some, None, is_some, unwrap_or, slice_set, refl, sym, ap}
use Rattle.std.proofs.lemmas.Bool.Decides.{eqb_tells}
use Rattle.iom_virtio_blk.specs.declared.disk.Disk.{Ghosts}
use Rattle.iom_virtio_blk.specs.declared.front.Front.{Front}
use Rattle.iom_virtio_blk.specs.declared.stage.Stage.{Stage}
use Rattle.iom_virtio_blk.specs.declared.stage.Stage.TheVariants.{Reset, FeaturesOk, DriverOk, NeedsReset}
use Rattle.iom_virtio_blk.specs.Blocks.{EndsWaiting, given_up, down, negotiated, with_queue}
use Rattle.iom_virtio_blk.specs.Disks.{disk_in}
use Rattle.iom_virtio_blk.specs.DiskStates.{DiskState}
use Rattle.iom_virtio_blk.specs.Features.{offered, flush_of}
use Rattle.iom_virtio_blk.specs.Steps.{device}
use Rattle.iom_virtqueue.specs.declared.layout.Layout.{Layout}
use Rattle.iom_block_devices.specs.declared.block.Block.{Block}
use Rattle.iom_block_devices.specs.Entries.{disk_entries_of}
use Rattle.iom_block_devices.specs.Changes.{HasDisk, IsGivenUp, IsReset, SetsUp, HearsMade, HearsRefusal}
use Rattle.iom_block_devices.specs.Places.{IsBlockPlace, with_has}
use Rattle.iom_block_devices.specs.Shown.{shown_block}

-- THE ENTRIES of all, where the one at the place changes

pub entries_as : {D : Type 0} {d : Ghosts D} (shown : D → DiskState) (blocks : List (Block D d)) (id place : ℕ) (at other : Block D d) (has : Bool)
    → (is : IsBlockPlace shown blocks id place) → at ≡ is.block → other.id ≡ at.id → is_some other.blk.drive.disk ≡ has
    → disk_entries_of (slice_set blocks place other) ≡ with_has (disk_entries_of blocks) id has
entries_as {D = D} {d = d} shown blocks id place at other has is same own has_is =
    is.entries other (own ∙ ap (λ (b : Block D d). b.id) same) ∙ ap (λ (x : Bool). with_has (disk_entries_of blocks) id x) has_is

pub entries_kept : {D : Type 0} {d : Ghosts D} (shown : D → DiskState) (blocks : List (Block D d)) (id place : ℕ) (at other : Block D d)
    → (is : IsBlockPlace shown blocks id place) → at ≡ is.block → other.id ≡ at.id → other.blk.drive ≡ at.blk.drive → disk_entries_of (slice_set blocks place other) ≡ disk_entries_of blocks
entries_kept {D = D} {d = d} shown blocks id place at other is same own drive =
    is.kept other (own ∙ ap (λ (b : Block D d). b.id) same) (drive ∙ ap (λ (b : Block D d). b.blk.drive) same)

-- ONE OF THEM

disk_kept : {D : Type 0} {d : Ghosts D} (shown : D → DiskState) (at other : Block D d) → other.blk.drive ≡ at.blk.drive
    → disk_in shown other.blk.drive.disk ≡ disk_in shown at.blk.drive.disk
disk_kept shown at other drive = ap (λ x. disk_in shown x.disk) drive

-- its front becomes this, and its disk stays
front_as : {D : Type 0} {d : Ghosts D} (shown : D → DiskState) (at other : Block D d) (front : Front) → other.blk.front ≡ front → other.blk.drive ≡ at.blk.drive
    → (shown_block shown other).device ≡ device front (disk_in shown at.blk.drive.disk)
front_as shown at other front is drive = rw (is, disk_kept shown at other drive) refl

pub is_reset : {D : Type 0} {d : Ghosts D} (shown : D → DiskState) (at other : Block D d) → other.blk.front ≡ given_up Reset at.blk.front → other.blk.drive ≡ at.blk.drive
    → IsReset (shown_block shown at).device (shown_block shown other).device
is_reset shown at other front drive = front_as shown at other (given_up Reset at.blk.front) front drive

pub is_left : {D : Type 0} {d : Ghosts D} (shown : D → DiskState) (at other : Block D d) → other.blk.front ≡ given_up Reset at.blk.front → other.blk.drive.disk ≡ None
    → IsGivenUp (shown_block shown at).device (shown_block shown other).device
is_left shown at other front none = rw (front, none) refl

pub has_disk : {D : Type 0} {d : Ghosts D} (shown : D → DiskState) (at other : Block D d) (disk : D) → at.blk.drive.disk ≡ None
    → other.blk.front ≡ at.blk.front → other.blk.drive.disk ≡ Some disk → HasDisk (shown disk) (shown_block shown at).device (shown_block shown other).device
has_disk shown at other disk none front has = (rw none refl, rw (front, has) refl)

-- the queue is set where the features are settled
queue_set : (stage : Stage) (layout : Layout) (between front : Front) → stage ≡ FeaturesOk → front ≡ unwrap_or (with_queue stage layout between) between
    → with_queue stage layout between ≡ Some front
queue_set FeaturesOk layout between front settled is = ap (λ (f : Front). Some f) (sym is)
queue_set Reset layout between front settled is = cc
queue_set DriverOk layout between front settled is = cc
queue_set NeedsReset layout between front settled is = cc

pub sets_up : {D : Type 0} {d : Ghosts D} (shown : D → DiskState) (at other : Block D d) (layout : Layout) (fresh between : Front)
    → fresh ≡ given_up Reset at.blk.front → between ≡ unwrap_or (negotiated fresh.stage (flush_of offered) fresh) fresh
    → other.blk.front ≡ unwrap_or (with_queue between.stage layout between) between → other.blk.drive ≡ at.blk.drive
    → SetsUp layout (shown_block shown at).device (shown_block shown other).device
sets_up shown at other layout fresh between is_fresh is_between is_set drive =
    let settled = rw is_fresh at is_between in
    record {
      between = between;
      features = ap (λ (f : Front). Some f) (sym settled);
      queue = queue_set between.stage layout between other.blk.front (ap (λ (f : Front). f.stage) settled) is_set;
      disk = disk_kept shown at other drive;
    }

-- whether it is this number
is_number : (found : Option ℕ) (number : ℕ) → (found ≡ Some number) ⊎ (found ≢ Some number)
is_number None number = inr (λ same. cc)
is_number (Some other) number = elim (eqb_tells other number) [
  | inl e ↦ inl (ap (λ (n : ℕ). Some n) e.1)
  | inr ne ↦ inr (λ same. let numbers : other ≡ number = cc in absurd (ne.1 numbers))
]

pub hears_made : {D : Type 0} {d : Ghosts D} (shown : D → DiskState) (at other : Block D d) (number : ℕ) (bytes : List ℕ)
    → (at.blk.front.waits ≡ Some number → EndsWaiting at.blk.front bytes other.blk.front) → (at.blk.front.waits ≢ Some number → other.blk.front ≡ at.blk.front)
    → other.blk.drive ≡ at.blk.drive → HearsMade number bytes (shown_block shown at).device (shown_block shown other).device
hears_made shown at other number bytes own others drive = elim (is_number at.blk.front.waits number) [
  | inl waits ↦ inl (waits, own waits, disk_kept shown at other drive)
  | inr never ↦ inr (never, front_as shown at other at.blk.front (others never) drive)
]

pub hears_refusal : {D : Type 0} {d : Ghosts D} (shown : D → DiskState) (at other : Block D d) (page : ℕ)
    → (at.blk.front.asked ≡ Some page → other.blk.front ≡ down at.blk.front) → (at.blk.front.asked ≢ Some page → other.blk.front ≡ at.blk.front)
    → other.blk.drive ≡ at.blk.drive → HearsRefusal page (shown_block shown at).device (shown_block shown other).device
hears_refusal shown at other page own others drive = elim (is_number at.blk.front.asked page) [
  | inl asked ↦ inl (asked, front_as shown at other (down at.blk.front) (own asked) drive)
  | inr never ↦ inr (never, front_as shown at other at.blk.front (others never) drive)
]
