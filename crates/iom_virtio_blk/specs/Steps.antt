-- A step of a block device, with its disk.
use Rattle.std.specs.Prelude.{◌≡◌, ◌≢◌, ℕ, ◌⊎◌, Bool, true, false, List, Option, Some, None, IsSome}
use Rattle.iom_virtqueue.specs.declared.phase.Phase.{Phase}
use Rattle.iom_virtqueue.specs.declared.phase.Phase.TheVariants.{AvailableIndex, Served, UsedIndex}
use Rattle.iom_virtqueue.specs.Descriptors.{number_at}
use Rattle.iom_virtqueue.specs.Accesses.{LiesInPage}
use Rattle.iom_virtqueue.specs.Queues.{chain_fault_of, after, new_requests}
use Rattle.iom_virtio_blk.specs.declared.front.Front.{Front}
use Rattle.iom_virtio_blk.specs.declared.serving.Serving.{Serving}
use Rattle.iom_virtio_blk.specs.declared.serving.Job.TheVariants.{Ending}
use Rattle.iom_virtio_blk.specs.declared.request.RequestStatus.TheVariants.{IoError}
use Rattle.iom_virtio_blk.specs.declared.stage.Stage.TheVariants.{DriverOk, NeedsReset}
use Rattle.iom_virtio_blk.specs.declared.step.Call.{Call}
use Rattle.iom_virtio_blk.specs.declared.step.Call.TheVariants.{Read, Write, Flush}
use Rattle.iom_virtio_blk.specs.declared.step.Step.{Step}
use Rattle.iom_virtio_blk.specs.declared.step.Step.TheVariants.{Idle, Waiting, Down, Chain, Finished, Wants}
use Rattle.iom_virtio_blk.specs.Disks.{sector_count, HasReason, HasFlushReason, CalledWell, KeepsSectors, DidRead, DidWrite, Tears, IsThere}
use Rattle.iom_virtio_blk.specs.DiskStates.{DiskState}
use Rattle.iom_virtio_blk.specs.Serving.{unread}
use Rattle.iom_virtio_blk.specs.Wants.{access_wanted}
use Rattle.iom_virtio_blk.specs.Blocks.{IsAsking, IsTaking, wanted_by, down, call_after, after_served}

-- a device with its disk, if there is one
pub record Device : Type 0 where
  pub front : Front
  pub disk : Option DiskState

abbrev pub device : Front → Option DiskState → Device
device front disk = record { front = front; disk = disk }

-- the call of the disk, if there is one, went well or didn't; the disk is the same one, and called at most once: `kept` is the buffer before it, and
-- `buffer` the one after it
abbrev pub Calls : Option Call → Bool → Option DiskState → List ℕ → Option DiskState → List ℕ → Type 0
Calls None true old kept new buffer = (new ≡ old) × (buffer ≡ kept)
Calls None false old kept new buffer = ⊥
Calls (Some (Read sector)) true old kept new buffer = DidRead old sector buffer × KeepsSectors old new × CalledWell old new
Calls (Some (Read sector)) false old kept new buffer = HasReason old sector new × KeepsSectors old new × (buffer ≡ kept)
Calls (Some (Write sector)) true old kept new buffer = DidWrite old sector kept new × (buffer ≡ kept) × CalledWell old new
Calls (Some (Write sector)) false old kept new buffer = HasReason old sector new × Tears old sector kept new × (buffer ≡ kept)
Calls (Some Flush) true old kept new buffer = IsThere old × KeepsSectors old new × (buffer ≡ kept) × CalledWell old new
Calls (Some Flush) false old kept new buffer = HasFlushReason old new × KeepsSectors old new × (buffer ≡ kept)

-- a request whose disk failed ends IOERR, and the rest of its data is left
abbrev pub settled : Bool → Serving → Serving
settled true s = s
settled false s = record s { job = Ending IoError }

-- a device that serves a request used the bytes of its access: the disk is called where a sector is complete or wanted
abbrev pub ServesWithDisk : Device → Device → Type 0
ServesWithDisk old new =
    (done : Bool)
    × Calls (call_after old.front (sector_count old.disk)) done old.disk (after_served old.front (sector_count old.disk)).buffer new.disk new.front.buffer
    × (new.front ≡ record (after_served old.front (sector_count old.disk)) { buffer = new.front.buffer; serving = settled done (after_served old.front (sector_count old.disk)).serving })

-- a chain that was just read whole is served from its first byte on
abbrev pub serving_from : Phase → Serving → Serving
serving_from Served s = unread
serving_from phase s = s

-- a device that reads its queue, or writes into it, used the bytes of its access
abbrev pub taken_front : Front → Front
taken_front b = record b { is_made = false; queue = after b.queue b.got.items; serving = serving_from (after b.queue b.got.items).phase b.serving }

abbrev pub TakesQueue : Device → Device → Type 0
TakesQueue old new = (chain_fault_of old.front.queue old.front.got.items ≡ None) × (new.disk ≡ old.disk) × (new.front ≡ taken_front old.front)

-- what a device does with the bytes that came, by what it does
abbrev pub UsesIn : Phase → Device → Device → Type 0
UsesIn Served old new = ServesWithDisk old new
UsesIn phase old new = TakesQueue old new

-- the device goes on to another access: nothing changes where the last one wasn't begun
abbrev pub GoesOnIn : Bool → Device → Device → Type 0
GoesOnIn false old new = new ≡ old
GoesOnIn true old new = UsesIn old.front.queue.phase old new

-- the avail idx that was read counts no new request
abbrev pub CountsNothingNew : Front → Type 0
CountsNothingNew b = IsTaking b × (b.queue.phase ≡ AvailableIndex) × (new_requests (number_at 2 0 b.got.items) b.queue.finished ≡ 0)

-- a step of a device that isn't serving a request, once its access was made
abbrev pub QueueSteps : Front → Step → Front → Type 0
QueueSteps old Idle new = CountsNothingNew old × (chain_fault_of old.queue old.got.items ≡ None) × (new ≡ taken_front old)
QueueSteps old Down new = ⊥
QueueSteps old Waiting new = ⊥
QueueSteps old (Chain fault) new = (chain_fault_of old.queue old.got.items ≡ Some fault) × (new ≡ record (down old) { queue = after old.queue old.got.items })
QueueSteps old (Finished head len) new =
    (old.queue.phase ≡ UsedIndex) × (head ≡ old.queue.head) × (len ≡ old.queue.written) × (chain_fault_of old.queue old.got.items ≡ None) × (new ≡ taken_front old)
QueueSteps old (Wants want) new =
    (access_wanted new.buffer want ≡ wanted_by new) × LiesInPage (wanted_by new) × (new.queue.phase ≢ AvailableIndex) × (chain_fault_of old.queue old.got.items ≡ None) × (new ≡ taken_front old)

-- a step, by its outcome
abbrev pub BlockDeviceSteps : Device → Step → Device → Type 0
BlockDeviceSteps old Down new = (old.front.stage ≡ NeedsReset) × (new ≡ old)
BlockDeviceSteps old Idle new = ((old.front.stage ≢ DriverOk) × (old.front.stage ≢ NeedsReset) × (new ≡ old)) ⊎ (CountsNothingNew old.front × TakesQueue old new)
BlockDeviceSteps old Waiting new = (old.front.stage ≡ DriverOk) × IsSome old.front.waits × (new ≡ old)
BlockDeviceSteps old (Chain fault) new =
    IsTaking old.front × (old.front.queue.phase ≢ Served) × (chain_fault_of old.front.queue old.front.got.items ≡ Some fault)
    × (new.disk ≡ old.disk) × (new.front ≡ record (down old.front) { queue = after old.front.queue old.front.got.items })
BlockDeviceSteps old (Finished head len) new =
    IsTaking old.front × (old.front.queue.phase ≡ UsedIndex) × (head ≡ old.front.queue.head) × (len ≡ old.front.queue.written) × TakesQueue old new
BlockDeviceSteps old (Wants want) new =
    (access_wanted new.front.buffer want ≡ wanted_by new.front) × LiesInPage (wanted_by new.front) × IsAsking new.front × (old.front.is_made ≡ true → new.front.queue.phase ≢ AvailableIndex)
    × GoesOnIn old.front.is_made old new
