-- The life of a block device, from the setting of its queue to the next reset, and the entries of its ring that it uses (virtio 1.2, section 2.7.6,
-- "The Virtqueue Available Ring", and section 2.7.8, "The Virtqueue Used Ring").
use Rattle.std.specs.Prelude.{◌≡◌, ◌≢◌, ℕ, ◌+◌, ◌*◌, ◌%◌, ◌≤◌, Bool, true, false, List, [], ◌∷◌, ◌++◌, length, map, slice_get, Some}
use Rattle.iom_virtqueue.specs.declared.layout.Layout.{Layout}
use Rattle.iom_virtqueue.specs.declared.phase.Phase.{Phase}
use Rattle.iom_virtqueue.specs.declared.phase.Phase.TheVariants.{AvailableIndex, RingEntry, Table, Served, UsedElement, UsedIndex, Faulted}
use Rattle.iom_virtqueue.specs.Accesses.{Access, reads, wrapped}
use Rattle.iom_virtqueue.specs.Descriptors.{number_at}
use Rattle.iom_virtqueue.specs.Layouts.{IsLayout}
use Rattle.iom_virtqueue.specs.Queues.{fresh_queue}
use Rattle.iom_virtio_blk.specs.declared.front.Front.{Front}
use Rattle.iom_virtio_blk.specs.declared.stage.Stage.TheVariants.{DriverOk}
use Rattle.iom_virtio_blk.specs.declared.step.Step.{Step}
use Rattle.iom_virtio_blk.specs.declared.step.Step.TheVariants.{Idle, Waiting, Down, Chain, Finished, Wants}
use Rattle.iom_virtio_blk.specs.declared.step.Reply.{Reply}
use Rattle.iom_virtio_blk.specs.Blocks.{EndsWaiting, wanted_by, replied, down}
use Rattle.iom_virtio_blk.specs.Steps.{Device, BlockDeviceSteps}

-- what happens to a device: it takes a step, with this outcome; it hears that its access of this number was made, with these bytes; it hears what became
-- of the access that it wants; it hears that the translation of a page is refused; a disk is put in or taken out, or a call is refused, and all but the disk
-- stays
pub data Turn : Type 0 where
  TakesStep : (outcome : Step) → Turn
  HearsMade : (number : ℕ) (bytes : List ℕ) → Turn
  HearsReply : (reply : Reply) → Turn
  HearsRefusal : (page : ℕ) → Turn
  ChangesDisk : Turn

-- the device before and after it
abbrev pub Turns : Device → Turn → Device → Type 0
Turns old (TakesStep outcome) new = BlockDeviceSteps old outcome new
Turns old (HearsMade number bytes) new =
    (old.front.waits ≡ Some number → EndsWaiting old.front bytes new.front) × (old.front.waits ≢ Some number → new.front ≡ old.front)
Turns old (HearsReply reply) new = new.front ≡ replied reply old.front
Turns old (HearsRefusal page) new =
    (old.front.asked ≡ Some page → new.front ≡ down old.front) × (old.front.asked ≢ Some page → new.front ≡ old.front)
Turns old ChangesDisk new = new.front ≡ old.front

-- an entry of the ring that was taken: the access that the device wants when it uses the bytes, and the head of a chain that these name
pub record Taken : Type 0 where
  pub access : Access
  pub head : ℕ

-- the access that reads the k-th entry of the ring, modulo its size
abbrev pub reads_entry : Layout → ℕ → Access
reads_entry layout k = reads (wrapped (layout.available_ring + (4 + 2 * (k % layout.size)))) 2

-- the entry that a device takes that uses the bytes of the access that it wanted
abbrev pub entry_in : Bool → Phase → Front → List Taken
entry_in false phase b = []
entry_in true AvailableIndex b = []
entry_in true RingEntry b = record { access = wanted_by b; head = number_at 2 0 b.got.items } ∷ []
entry_in true (Table index) b = []
entry_in true Served b = []
entry_in true (UsedElement done) b = []
entry_in true UsedIndex b = []
entry_in true Faulted b = []

-- the entry that is taken, where the device goes on to another access
abbrev pub taken_at : Device → Turn → List Taken
taken_at old (TakesStep Idle) = []
taken_at old (TakesStep Waiting) = []
taken_at old (TakesStep Down) = []
taken_at old (TakesStep (Chain fault)) = []
taken_at old (TakesStep (Finished head len)) = []
taken_at old (TakesStep (Wants want)) = entry_in old.front.is_made old.front.queue.phase old.front
taken_at old (HearsMade number bytes) = []
taken_at old (HearsReply reply) = []
taken_at old (HearsRefusal page) = []
taken_at old ChangesDisk = []

-- the head of the request that is finished: its used element and the used idx are written
abbrev pub finished_at : Turn → List ℕ
finished_at (TakesStep Idle) = []
finished_at (TakesStep Waiting) = []
finished_at (TakesStep Down) = []
finished_at (TakesStep (Chain fault)) = []
finished_at (TakesStep (Finished head len)) = head ∷ []
finished_at (TakesStep (Wants want)) = []
finished_at (HearsMade number bytes) = []
finished_at (HearsReply reply) = []
finished_at (HearsRefusal page) = []
finished_at ChangesDisk = []

-- one after another, the oldest first, with the entries that were taken and the heads that were finished
abbrev pub Lives : Device → List Turn → List Taken → List ℕ → Device → Type 0
Lives old [] taken finished new = (taken ≡ []) × (finished ≡ []) × (new ≡ old)
Lives old (turn ∷ turns) taken finished new =
    (next : Device) × (later : List Taken) × (ends : List ℕ)
    × Turns old turn next × (taken ≡ taken_at old turn ++ later) × (finished ≡ finished_at turn ++ ends) × Lives next turns later ends new

-- a device whose queue was just set
pub record HasFreshQueue (layout : Layout) (d : Device) : Type 0 where
  pub stage : d.front.stage ≡ DriverOk
  pub lawful : IsLayout layout
  pub queue : d.front.queue ≡ fresh_queue layout

abbrev pub head_of : Taken → ℕ
head_of entry = entry.head

-- The entries are taken in their order, from the first one on, each once: the k-th of them, counted from 0, is wanted from place k of the ring, modulo its
-- size. What is finished is what was taken, in the same order and each once, but for the last one, which may be in work or given up. The used idx that
-- the device keeps counts what was finished, modulo 2^16
pub record UsesEachOnce (layout : Layout) (taken : List Taken) (finished : List ℕ) (d : Device) : Type 0 where
  pub order : (k : ℕ) (entry : Taken) → slice_get taken k ≡ Some entry → entry.access ≡ reads_entry layout k
  pub rest : List ℕ
  pub ends : map head_of taken ≡ finished ++ rest
  pub few : length rest ≤ 1
  pub counted : d.front.queue.finished ≡ length finished % 65536

-- THE LAW, whatever the driver writes into its rings
abbrev pub LivesUseEachOnce : Type 0
LivesUseEachOnce =
    (layout : Layout) (old new : Device) (turns : List Turn) (taken : List Taken) (finished : List ℕ)
    → HasFreshQueue layout old → Lives old turns taken finished new → UsesEachOnce layout taken finished new
