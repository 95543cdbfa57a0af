-- What the disk of a block device holds over a run of the model, told by the events (virtio 1.2, section 5.2.6, "Device Operation").
use Rattle.std.specs.Prelude.{◌≡◌, ℕ, ◌==◌, List, [], ◌∷◌, find, Option, None, Some, if◌then◌else◌}
use Rattle.iom_machine.specs.declared.event.Event.{Event}
use Rattle.iom_machine.specs.declared.event.Event.TheVariants as events
use Rattle.iom_machine.specs.declared.outcome.Outcome.{Outcome}
use Rattle.iom_machine.specs.declared.outcome.Outcome.TheVariants as outcome
use Rattle.iom_machine.specs.declared.outcome.Trace.{Trace}
use Rattle.iom_base.specs.declared.device_kind.NewDevice.{NewDevice}
use Rattle.iom_machine.specs.declared.state.State.{State}
use Rattle.iom_base.specs.DeviceKinds.{disk_of}
use Rattle.iom_machine.specs.Machine.{Run}
use Rattle.iom_virtio_blk.specs.Disks.{name_in}
use Rattle.iom_virtio_blk.specs.DiskStates.{DiskState}
use Rattle.iom_virtio_blk.specs.Histories.{Entry, inserted, TellsDisk, history_after}
use Rattle.iom_virtio_blk.specs.Steps.{Device}
use Rattle.iom_block_devices.specs.Changes.{block_with, IsDiskTaken}
use Rattle.iom_block_devices.specs.Numbered.{ShownDisk}
use Rattle.iom_block_devices.specs.Shown.{ShownBlock}
use Rattle.iom_world.specs.Happens.{Happens}
use Rattle.iom_world.specs.Runs.{GoesThrough}
use Rattle.iom_world.specs.Shown.{Shown}

-- the story of a device's disk: which disk it is, if there is one, and what happened to it since it was put in, the newest first
pub record Story : Type 0 where
  pub disk : Option ℕ
  pub history : List Entry

-- THE DISK OF THE DEVICE is that one, and holds what the history says: the data of the requests OUT that ended well, each sector of one that failed or is in
-- work old or new, and the rest as it was put in; while an IN is served, the sector that is written to memory is the disk's (`TellsDisk` of iom_virtio_blk)
pub record Tells (story : Story) (device : Device) : Type 0 where
  pub disk : name_in device.disk ≡ story.disk
  pub history : TellsDisk story.history device

-- a disk that is put in begins a story, with what it holds then
abbrev pub begins : DiskState → Story
begins disk = record { disk = Some disk.name; history = inserted disk.sectors ∷ [] }

-- the one of these disks that is put in
abbrev pub put_in : Option ShownDisk → Story → Story
put_in None story = story
put_in (Some one) story = begins one.disk

-- without a disk there is nothing to tell
abbrev pub ended : Story
ended = record { disk = None; history = [] }

-- a step goes on with it, by what the device did before the step and does after it, and the bytes that came: `history_after` of iom_virtio_blk
abbrev pub goes_on : Option ShownBlock → Option ShownBlock → Story → Story
goes_on None new story = story
goes_on (Some old) None story = story
goes_on (Some old) (Some new) story =
    record { disk = story.disk; history = history_after old.device.front.is_made old.device new.device story.history }

-- THE STORY AFTER AN EVENT that is told so: a disk is put into the device, it is detached, and loses its disk, or it takes a step. By no other event does the
-- story change, and by none of another device
abbrev pub story_after : ℕ → Shown → Event → Outcome → Shown → Story → Story
story_after id old (events.Medium other number) outcome.Done new story =
    if id == other then put_in (find (λ (one : ShownDisk). one.number == number) old.inside.at_hand) story else story
story_after id old (events.Detach other) (outcome.Ticket ticket) new story = if id == other then ended else story
story_after id old (events.Step other) reply new story = if id == other then goes_on (block_with old.inside.blocks id) (block_with new.inside.blocks id) story else story
story_after id old event reply new story = story

-- the same after all events, in the states that the world goes through
abbrev pub story_in : (id : ℕ) (state : State) (old : Shown) (events : List Event) (outcomes : List Outcome) (traces : List (Option Trace)) (last : State)
    (run : Run state events outcomes last) (new : Shown) → GoesThrough state old events outcomes traces last run new → Story → Story
story_in id state old [] outcomes traces last run new through story = story
story_in id state old (event ∷ events) [] traces last run new through story = story
story_in id state old (event ∷ events) (reply ∷ outcomes) [] last run new through story = story
story_in id state old (event ∷ events) (reply ∷ outcomes) (trace ∷ traces) last (next, step, rest) new (shows, mid, happens, counts, later) story =
    story_in id next mid events outcomes traces last rest new later (story_after id old event reply mid story)

-- a block device that is plugged in begins the story of its disk, which is the one at hand with this number
abbrev pub PlugsBeginStories : Type 0
PlugsBeginStories =
    (old new : Shown) (id number : ℕ) (what : NewDevice)
    → Happens old (events.Plug id what) outcome.Done new → disk_of what ≡ Some number → block_with old.inside.blocks id ≡ None
    → (disk : DiskState) × IsDiskTaken number old.inside.at_hand disk new.inside.at_hand
    × (after : ShownBlock) × (block_with new.inside.blocks id ≡ Some after) × Tells (begins disk) after.device

-- THE LAW: over any events, whatever the driver writes into its rings, and through resets, revivals, detaches and disks that are put in
abbrev pub RunsTellDisks : Type 0
RunsTellDisks =
    (state last : State) (old new : Shown) (events : List Event) (outcomes : List Outcome) (traces : List (Option Trace)) (run : Run state events outcomes last)
    (id : ℕ) (story : Story) (block : ShownBlock) (through : GoesThrough state old events outcomes traces last run new)
    → block_with old.inside.blocks id ≡ Some block → Tells story block.device
    → (after : ShownBlock) × (block_with new.inside.blocks id ≡ Some after)
    × Tells (story_in id state old events outcomes traces last run new through story) after.device
