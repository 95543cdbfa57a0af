-- The elements of the used ring that a block device writes (virtio 1.2, section 2.7.8, "The Virtqueue Used Ring").
use Rattle.std.specs.Prelude.{◌≡◌, ℕ, ◌+◌, ◌*◌, ◌%◌, ◌≤◌, Bool, true, false, List, [], ◌∷◌, ◌++◌, take, drop}
use Rattle.byteorder.specs.Endian.{little_bytes}
use Rattle.iom_virtqueue.specs.declared.layout.Layout.{Layout}
use Rattle.iom_virtqueue.specs.declared.phase.Phase.{Phase}
use Rattle.iom_virtqueue.specs.declared.phase.Phase.TheVariants.{AvailableIndex, RingEntry, Table, Served, UsedElement, UsedIndex, Faulted}
use Rattle.iom_virtqueue.specs.Accesses.{wrapped}
use Rattle.iom_virtqueue.specs.Queues.{QueueState, element_bytes, element_piece, more_finished}
use Rattle.iom_virtio_blk.specs.declared.step.Step.{Step}
use Rattle.iom_virtio_blk.specs.declared.step.Step.TheVariants.{Idle, Waiting, Down, Chain, Finished, Wants}
use Rattle.iom_virtio_blk.specs.Steps.{Device, BlockDeviceSteps}

-- a byte of memory that is written
pub record Byte : Type 0 where
  pub address : ℕ
  pub value : ℕ

-- where a byte of an element stands, by the count of the requests that were finished before, modulo the size of the ring
abbrev pub element_place : Layout → (count offset : ℕ) → ℕ
element_place layout count offset = wrapped (layout.used_ring + (4 + 8 * (count % layout.size) + offset))

-- bytes that are written into an element, from an offset on
abbrev pub bytes_from : Layout → (count offset : ℕ) → List ℕ → List Byte
bytes_from layout count offset [] = []
bytes_from layout count offset (value ∷ more) = record { address = element_place layout count offset; value = value } ∷ bytes_from layout count (offset + 1) more

-- a request that is finished: the head of its chain, and how many bytes were written for it
pub record Done : Type 0 where
  pub head : ℕ
  pub len : ℕ

-- its element, struct virtq_used_elem: le32 id, le32 len
abbrev pub element_of : Done → List ℕ
element_of done = little_bytes 4 done.head ++ little_bytes 4 done.len

-- THE ELEMENTS of requests that are finished one after another, one for each, all of whose bytes are written in their order
abbrev pub elements_from : Layout → ℕ → List Done → List Byte
elements_from layout count [] = []
elements_from layout count (done ∷ more) = bytes_from layout count 0 (element_of done) ++ elements_from layout (more_finished count) more

-- the count after these, which goes round at 2^16
abbrev pub count_after : ℕ → List Done → ℕ
count_after count [] = count
count_after count (done ∷ more) = count_after (more_finished count) more

-- the request in work
abbrev pub in_work : QueueState → Done
in_work q = record { head = q.head; len = q.written }

-- what is written of its element
abbrev pub begun_in : Phase → QueueState → List Byte
begun_in AvailableIndex q = []
begun_in RingEntry q = []
begun_in (Table index) q = []
begun_in Served q = []
begun_in (UsedElement written) q = bytes_from q.layout q.finished 0 (take written (element_of (in_work q)))
begun_in UsedIndex q = bytes_from q.layout q.finished 0 (element_of (in_work q))
begun_in Faulted q = []

abbrev pub begun : QueueState → List Byte
begun q = begun_in q.phase q

-- what the access wrote there that a device uses now
abbrev pub wrote_in : Phase → QueueState → List Byte
wrote_in AvailableIndex q = []
wrote_in RingEntry q = []
wrote_in (Table index) q = []
wrote_in Served q = []
wrote_in (UsedElement written) q = bytes_from q.layout q.finished written (take (element_piece q written) (drop written (element_bytes q)))
wrote_in UsedIndex q = []
wrote_in Faulted q = []

abbrev pub wrote_by : Bool → QueueState → List Byte
wrote_by false q = []
wrote_by true q = wrote_in q.phase q

-- the same of a step: one that goes on to another access uses what was made
abbrev pub wrote_at : Device → Step → List Byte
wrote_at old Idle = []
wrote_at old Waiting = []
wrote_at old Down = []
wrote_at old (Chain fault) = []
wrote_at old (Finished head len) = []
wrote_at old (Wants want) = wrote_by old.front.is_made old.front.queue

-- the request that the step finishes
abbrev pub done_at : Step → List Done
done_at Idle = []
done_at Waiting = []
done_at Down = []
done_at (Chain fault) = []
done_at (Finished head len) = record { head = head; len = len } ∷ []
done_at (Wants want) = []

-- no more of an element is written than it has
abbrev pub IsWithinIn : Phase → Type 0
IsWithinIn AvailableIndex = Unit {0}
IsWithinIn RingEntry = Unit {0}
IsWithinIn (Table index) = Unit {0}
IsWithinIn Served = Unit {0}
IsWithinIn (UsedElement written) = written ≤ 8
IsWithinIn UsedIndex = Unit {0}
IsWithinIn Faulted = Unit {0}

abbrev pub IsWithin : QueueState → Type 0
IsWithin q = IsWithinIn q.phase

-- what was begun, and what is written now, are the elements of the requests that are finished now, and what is begun then
pub record Writes (old new : QueueState) (wrote : List Byte) (finished : List Done) : Type 0 where
  pub layout : new.layout ≡ old.layout
  pub count : new.finished ≡ count_after old.finished finished
  pub bytes : begun old ++ wrote ≡ elements_from old.layout old.finished finished ++ begun new
  pub within : IsWithin new

-- THE LAW of a step
abbrev pub StepsWriteElements : Type 0
StepsWriteElements =
    (old new : Device) (outcome : Step) → BlockDeviceSteps old outcome new → IsWithin old.front.queue
    → Writes old.front.queue new.front.queue (wrote_at old outcome) (done_at outcome)
