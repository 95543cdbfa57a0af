-- What comes of a line, and of what hardware does by itself.
use Rattle.std.specs.Prelude.{◌≡◌, ◌⊎◌, ℕ, Bool, true, false, List, Option, None}
use Rattle.iom_base.specs.DeviceKinds.{kind_of, is_block_device}
use Rattle.iom_inflight.specs.declared.made.MadeAt.{MadeAt}
use Rattle.iom_inflight.specs.Flights.{oldest_in, row_of}
use Rattle.iom_iommu.specs.Parts.{flights_of}
use Rattle.iom_litmus.specs.declared.reply.Reply.{Reply}
use Rattle.iom_litmus.specs.Replies.{no_reply}
use Rattle.iom_litmus_looks.specs.Touches.{touches_of}
use Rattle.iom_machine.specs.declared.event.Event.{Event}
use Rattle.iom_machine.specs.declared.event.Event.TheVariants as events
use Rattle.iom_machine.specs.declared.outcome.Outcome.{Outcome}
use Rattle.iom_script.specs.Grammar.{IsEventLine}
use Rattle.iom_world.specs.Happens.{Happens}
use Rattle.iom_virtio_blk.specs.declared.disk.Disk.{Ghosts}
use Rattle.iom_world.specs.declared.world.World.{World}
use Rattle.iom_world.specs.Shown.{shown_of}
use Rattle.iom_litmus_world.specs.Places.{WorldPlace, place_of}

-- whether the event is one of a block device, which places don't compare: that one is plugged in, too
abbrev pub is_of_block : Event → Bool
is_of_block (events.Plug device what) = is_block_device (kind_of what)
is_of_block (events.Medium device disk) = true
is_of_block (events.Queue device size descriptors available used) = true
is_of_block (events.Step device) = true
is_of_block (events.Status device) = true
is_of_block event = false

-- the access that the event makes: the oldest of the device, where it is a commit
abbrev pub made_by : {D : Type 0} {d : Ghosts D} → Event → World D d → Option MadeAt
made_by (events.Commit device) world = oldest_in (row_of (flights_of world.hardware.board.iommu).rows device)
made_by event world = None

-- The reply tells which access was made; a world judges no claims. Its text is left open.
pub record RepliesTo {D : Type 0} {d : Ghosts D} (event : Event) (before : World D d) (reply : Reply) : Type 0 where
  pub touches : reply.touches ≡ touches_of (made_by event before)
  pub wrong : reply.wrong ≡ false
  pub violated : reply.violated ≡ false

-- THE EVENT HAPPENS in the world, and this is the reply
pub record TakesEvent {D : Type 0} {d : Ghosts D} (event : Event) (before : World D d) (reply : Reply) (after : World D d) : Type 0 where
  pub outcome : Outcome
  pub happens : Happens (shown_of d.shown before) event outcome (shown_of d.shown after)
  pub replies : RepliesTo event before reply

-- so it does in some world that is at this place
abbrev pub LeadsBy : {D : Type 0} → Ghosts D → Event → WorldPlace → Reply → WorldPlace → Type 0
LeadsBy {D} d event old reply new = (before : World D d) × (after : World D d) × (place_of before ≡ old) × (place_of after ≡ new) × TakesEvent event before reply after

-- the text says an event that a test can have
abbrev pub Says : List ℕ → Event → Type 0
Says text event = IsEventLine text event × (is_of_block event ≡ false)

-- WHAT COMES OF A TEXT: a text that says no such event does nothing
abbrev pub RunsText : {D : Type 0} → Ghosts D → WorldPlace → List ℕ → Reply → WorldPlace → Type 0
RunsText d old text reply new =
    ((event : Event) × Says text event × LeadsBy d event old reply new)
    ⊎ (((event : Event) → ¬ Says text event) × (reply ≡ no_reply) × (new ≡ old))
