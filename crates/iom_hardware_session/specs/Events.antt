-- What a line of devices, hardware or software does to hardware, by its answer, where a walk is one event.
use Rattle.std.specs.Prelude.{◌≡◌, ℕ, List, slice_get, Option, Some, None, option_map, Result, Ok, Err}
use Rattle.iom_base.specs.Accesses.{read_of, write_of}
use Rattle.iom_base.specs.DeviceKinds.{disk_of}
use Rattle.iom_base.specs.declared.refusal.Refusal.{Refusal}
use Rattle.iom_block_devices.specs.Changes.{block_with}
use Rattle.iom_board.specs.BoardParts.{board_parts, disks_at_hand}
use Rattle.iom_board.specs.Plugging.{PlugsNewDevice, PutsDiskIntoDevice}
use Rattle.iom_board.specs.Processor.{ProcessorWrites, BytesStandAt, HaveNoPlace}
use Rattle.iom_board.specs.declared.answers.NoPlace.{NoPlace}
use Rattle.iom_board.specs.declared.sender.Sender.TheVariants.{Own}
use Rattle.iom_hardware.specs.Blocks.{BlocksUnchanged, PlugsInside, PutsDiskInside, ResetsInside, SetsQueueInside, HearsIfMade, DeliversInside, oldest_number}
use Rattle.iom_hardware.specs.Queues.{SetsQueue}
use Rattle.iom_hardware.specs.Status.{TellsStatus}
use Rattle.iom_hardware.specs.Steps.{TakesStep, IsRefusedIfNone}
use Rattle.iom_hardware.specs.declared.steps.Stepped.{Stepped}
use Rattle.iom_hardware_ways.specs.Calls.{HardwareCall, CallEffect}
use Rattle.iom_hardware_ways.specs.Calls as call
use Rattle.iom_inflight.specs.Flights.{row_of}
use Rattle.iom_iommu.specs.Parts.{flights_of}
use Rattle.iom_machine.specs.declared.event.Event.{Event}
use Rattle.iom_machine.specs.declared.event.Event.TheVariants.{Plug, Reset, Read, Write, ReadTranslated, WriteTranslated, ReadThroughCache, WriteThroughCache, Ask, Forge, Commit, Fetch, Timeout, Deliver, Drop, Repeat, Poke, Peek, Medium, Queue, Step, Status}
use Rattle.iom_base.specs.declared.device_kind.NewDevice.{NewDevice}
use Rattle.iom_hardware_session.specs.Answered.{reply_in, cache_reply_in, sending_in, fetch_in, timeout_in, delivery_in, drop_in, repeat_in, commit_in, reset_in, plug_in, medium_in, queue_in, step_in, status_in, store_in, load_in}
use Rattle.iom_hardware_session.specs.Shown.{ShownHardware}
use Rattle.iom_hardware_session.specs.declared.answer.Answer.{Answer}
use Rattle.iom_hardware_session.specs.declared.answer.Answer.TheVariants as answered
use Rattle.iom_virtqueue.specs.Layouts.{layout_of}
use Rattle.iom_virtqueue.specs.declared.layout.Layout.{Layout}

-- the call of hardware that an event is, with what it answers; none for what software does, or where the answer is of another kind
abbrev pub call_of : Event → Answer → Option HardwareCall
call_of (Read device address len) answer = option_map (call.Request Own device (read_of address len)) (reply_in answer)
call_of (Write device address bytes) answer = option_map (call.Request Own device (write_of address bytes)) (reply_in answer)
call_of (ReadTranslated device address len) answer = option_map (call.Translated device (read_of address len)) (reply_in answer)
call_of (WriteTranslated device address bytes) answer = option_map (call.Translated device (write_of address bytes)) (reply_in answer)
call_of (ReadThroughCache device address len) answer = option_map (call.ThroughCache Own device (read_of address len)) (cache_reply_in answer)
call_of (WriteThroughCache device address bytes) answer = option_map (call.ThroughCache Own device (write_of address bytes)) (cache_reply_in answer)
call_of (Ask device page) answer = option_map (call.Ask device page) (sending_in answer)
call_of (Forge device serial) answer = option_map (call.Forge device serial) (sending_in answer)
call_of Fetch answer = option_map call.Fetch (fetch_in answer)
call_of Timeout answer = option_map call.Timeout (timeout_in answer)
call_of (Deliver place) answer = option_map (call.Deliver place) (delivery_in answer)
call_of (Drop place) answer = option_map (call.Drop place) (drop_in answer)
call_of (Repeat place) answer = option_map (call.Repeat place) (repeat_in answer)
call_of (Commit device) answer = option_map (call.Commit device) (commit_in answer)
call_of (Reset device) answer = option_map (call.Reset device) (reset_in answer)
call_of event answer = None

-- WHAT BLOCK DEVICES HEAR of a call: one whose access is made, one that is told that a page has no translation, and one that is reset. Else they stay as they are
abbrev pub HearsCall : HardwareCall → ShownHardware → ShownHardware → Type 0
HearsCall (call.Commit id answer) old new =
    HearsIfMade answer (oldest_number (row_of (flights_of old.board.iommu).rows id)) new.board.memory old.inside id new.inside
HearsCall (call.Deliver place delivered) old new = DeliversInside (slice_get old.board.fabric place) delivered old.inside new.inside
HearsCall (call.Reset id answer) old new = ResetsInside old.inside id answer new.inside
HearsCall call old new = BlocksUnchanged old.inside new.inside

-- the call does this, leaves the disks at hand, and is heard
abbrev pub CallOrNothing : Option HardwareCall → ShownHardware → ShownHardware → Type 0
CallOrNothing None old new = ⊥
CallOrNothing (Some call) old new =
    CallEffect call (board_parts old.board) (board_parts new.board) × (disks_at_hand new.board ≡ disks_at_hand old.board) × HearsCall call old new

-- all stays
pub record Unchanged (old new : ShownHardware) : Type 0 where
  pub parts : board_parts new.board ≡ board_parts old.board
  pub disks : disks_at_hand new.board ≡ disks_at_hand old.board
  pub blocks : BlocksUnchanged old.inside new.inside
  pub beside : new.beside ≡ old.beside

-- memory alone changes
abbrev pub MemoryChanges : ShownHardware → ShownHardware → Type 0
MemoryChanges old new =
    (board_parts new.board ≡ record (board_parts old.board) { memory = new.board.memory }) × (disks_at_hand new.board ≡ disks_at_hand old.board)
    × BlocksUnchanged old.inside new.inside

-- the processor's load of so many bytes has a place, or hasn't
abbrev pub Loads : List (List ℕ) → ℕ → ℕ → Result (Unit {0}) NoPlace → Type 0
Loads memory address len (Ok done) = (bytes : List ℕ) × BytesStandAt memory address len bytes
Loads memory address len (Err why) = HaveNoPlace memory address len why

-- the processor stores; it loads
abbrev pub StoresAsAnswered : Option (Result (Unit {0}) NoPlace) → ℕ → List ℕ → ShownHardware → ShownHardware → Type 0
StoresAsAnswered None address bytes old new = ⊥
StoresAsAnswered (Some answer) address bytes old new = ProcessorWrites old.board.memory address bytes answer new.board.memory × MemoryChanges old new

abbrev pub LoadsAsAnswered : Option (Result (Unit {0}) NoPlace) → ℕ → ℕ → ShownHardware → ShownHardware → Type 0
LoadsAsAnswered None address len old new = ⊥
LoadsAsAnswered (Some answer) address len old new = Loads old.board.memory address len answer × Unchanged old new

-- a device is plugged in, a block device with its disk
abbrev pub PlugsAsAnswered : Option (Result (Unit {0}) Refusal) → ℕ → NewDevice → ShownHardware → ShownHardware → Type 0
PlugsAsAnswered None device what old new = ⊥
PlugsAsAnswered (Some answer) device what old new =
    PlugsNewDevice (disks_at_hand old.board) (board_parts old.board) device what answer (board_parts new.board) (disks_at_hand new.board)
    × PlugsInside (disk_of what) old.inside device answer new.inside

-- a disk is put into a block device
abbrev pub PutsDiskAsAnswered : Option (Result (Unit {0}) Refusal) → (device disk : ℕ) → ShownHardware → ShownHardware → Type 0
PutsDiskAsAnswered None device disk old new = ⊥
PutsDiskAsAnswered (Some answer) device disk old new =
    PutsDiskIntoDevice (disks_at_hand old.board) (board_parts old.board) device disk answer (board_parts new.board) (disks_at_hand new.board)
    × PutsDiskInside disk old.inside device answer new.inside

-- the queue of a block device is set
abbrev pub SetsQueueAsAnswered : Option (Result (Unit {0}) Refusal) → ℕ → Layout → ShownHardware → ShownHardware → Type 0
SetsQueueAsAnswered None device layout old new = ⊥
SetsQueueAsAnswered (Some answer) device layout old new =
    SetsQueue (board_parts old.board) device layout answer (board_parts new.board) × (disks_at_hand new.board ≡ disks_at_hand old.board)
    × SetsQueueInside layout old.inside device answer new.inside

-- a block device takes a step, or is refused where there is none with the id
abbrev pub StepsAsAnswered : Option (Result Stepped Refusal) → ℕ → ShownHardware → ShownHardware → Type 0
StepsAsAnswered None device old new = ⊥
StepsAsAnswered (Some answer) device old new =
    TakesStep (board_parts old.board) old.inside device answer (board_parts new.board) new.inside
    × IsRefusedIfNone (block_with old.inside.blocks device) (board_parts old.board) device answer (board_parts new.board)
    × (disks_at_hand new.board ≡ disks_at_hand old.board)

-- it tells its status
abbrev pub TellsAsAnswered : Option (Result ℕ Refusal) → ℕ → ShownHardware → ShownHardware → Type 0
TellsAsAnswered None device old new = ⊥
TellsAsAnswered (Some answer) device old new = TellsStatus (block_with old.inside.blocks device) (board_parts old.board) device answer × Unchanged old new

-- WHAT AN EVENT DOES TO HARDWARE whose walks are one event, by its answer. Events of the model's own driver aren't of hardware
abbrev pub EventEffect : Event → Answer → ShownHardware → ShownHardware → Type 0
EventEffect (Plug device what) answer old new = PlugsAsAnswered (plug_in answer) device what old new
EventEffect (Poke address bytes) answer old new = StoresAsAnswered (store_in answer) address bytes old new
EventEffect (Peek address len) answer old new = LoadsAsAnswered (load_in answer) address len old new
EventEffect (Medium device disk) answer old new = PutsDiskAsAnswered (medium_in answer) device disk old new
EventEffect (Queue device size descriptors available used) answer old new =
    SetsQueueAsAnswered (queue_in answer) device (layout_of size descriptors available used) old new
EventEffect (Step device) answer old new = StepsAsAnswered (step_in answer) device old new
EventEffect (Status device) answer old new = TellsAsAnswered (status_in answer) device old new
EventEffect event answer old new = CallOrNothing (call_of event answer) old new

-- an event that is none of hardware is answered so, and does nothing
abbrev pub IsForeign : Answer → ShownHardware → ShownHardware → Type 0
IsForeign answer old new = (answer ≡ answered.NotOfHardware) × Unchanged old new

-- the event is a request for an access, at an address that the IOMMU translates
abbrev pub IsUntranslated : Event → Type 0
IsUntranslated (Read device address len) = Unit {0}
IsUntranslated (Write device address bytes) = Unit {0}
IsUntranslated _ = ⊥

-- at one that is said to be translated
abbrev pub IsTranslated : Event → Type 0
IsTranslated (ReadTranslated device address len) = Unit {0}
IsTranslated (WriteTranslated device address bytes) = Unit {0}
IsTranslated _ = ⊥

-- through the device's own cache
abbrev pub IsThroughCache : Event → Type 0
IsThroughCache (ReadThroughCache device address len) = Unit {0}
IsThroughCache (WriteThroughCache device address bytes) = Unit {0}
IsThroughCache _ = ⊥

-- it is one of a message
abbrev pub IsMessage : Event → Type 0
IsMessage (Ask device page) = Unit {0}
IsMessage (Forge device serial) = Unit {0}
IsMessage (Deliver place) = Unit {0}
IsMessage (Drop place) = Unit {0}
IsMessage (Repeat place) = Unit {0}
IsMessage _ = ⊥

-- it is another of hardware
abbrev pub IsOther : Event → Type 0
IsOther (Plug device what) = Unit {0}
IsOther (Reset device) = Unit {0}
IsOther (Commit device) = Unit {0}
IsOther Fetch = Unit {0}
IsOther Timeout = Unit {0}
IsOther (Poke address bytes) = Unit {0}
IsOther (Peek address len) = Unit {0}
IsOther _ = ⊥

-- it is one of a block device alone
abbrev pub IsOfBlock : Event → Type 0
IsOfBlock (Medium device disk) = Unit {0}
IsOfBlock (Queue device size descriptors available used) = Unit {0}
IsOfBlock (Step device) = Unit {0}
IsOfBlock (Status device) = Unit {0}
IsOfBlock _ = ⊥
