-- What a block device writes into its used ring over a run of the model (virtio 1.2, section 2.7.8, "The Virtqueue Used Ring").
use Rattle.std.specs.Prelude.{◌≡◌, ℕ, ◌==◌, Bool, true, false, List, [], ◌∷◌, ◌++◌, Option, None, Some, if◌then◌else◌}
use Rattle.iom_machine.specs.declared.event.Event.{Event}
use Rattle.iom_machine.specs.declared.event.Event.TheVariants as events
use Rattle.iom_machine.specs.declared.outcome.BlockStep.TheVariants as rest
use Rattle.iom_machine.specs.declared.outcome.Outcome.{Outcome}
use Rattle.iom_machine.specs.declared.outcome.Outcome.TheVariants as outcome
use Rattle.iom_machine.specs.declared.outcome.Trace.{Trace}
use Rattle.iom_machine.specs.declared.state.State.{State}
use Rattle.iom_machine.specs.Machine.{Run}
use Rattle.iom_virtqueue.specs.declared.layout.Layout.{Layout}
use Rattle.iom_virtio_blk.specs.Elements.{Byte, Done, begun, elements_from, wrote_by}
use Rattle.iom_block_devices.specs.Changes.{block_with}
use Rattle.iom_block_devices.specs.Shown.{ShownBlock}
use Rattle.iom_world.specs.Runs.{GoesThrough}
use Rattle.iom_world.specs.Shown.{Shown}
use Rattle.iom_block_life.specs.Lives.{HasFreshQueue}
use Rattle.iom_block_life.specs.Runs.{LivesThrough, went_on}

-- the request that a step finished, by what is told: the head of its chain, and the count of the bytes that were written
abbrev pub done_in : Outcome → List Done
done_in (outcome.Stepped (rest.Finished head len)) = record { head = head; len = len } ∷ []
done_in reply = []

-- the same of a step of this device
abbrev pub done_by_device : ℕ → Event → Outcome → List Done
done_by_device id (events.Step other) reply = if id == other then done_in reply else []
done_by_device id event reply = []

-- all requests of this device that the events finished, in their order
abbrev pub requests_in : ℕ → List Event → List Outcome → List Done
requests_in id [] outcomes = []
requests_in id (event ∷ events) [] = []
requests_in id (event ∷ events) (reply ∷ outcomes) = done_by_device id event reply ++ requests_in id events outcomes

-- the bytes of the used ring that were written by the access whose end the step heard, if it went on, by the device before it
abbrev pub wrote_when : Bool → Option ShownBlock → List Byte
wrote_when true (Some block) = wrote_by block.device.front.is_made block.device.front.queue
wrote_when true None = []
wrote_when false block = []

-- the same of a step of this device
abbrev pub bytes_by : ℕ → Shown → Event → Outcome → List Byte
bytes_by id old (events.Step other) reply = if id == other then wrote_when (went_on reply) (block_with old.inside.blocks id) else []
bytes_by id old event reply = []

-- the bytes of its used ring that this device wrote, in their order, in the states that the world goes through
abbrev pub bytes_in : (id : ℕ) (state : State) (old : Shown) (events : List Event) (outcomes : List Outcome) (traces : List (Option Trace)) (last : State)
    (run : Run state events outcomes last) (new : Shown) → GoesThrough state old events outcomes traces last run new → List Byte
bytes_in id state old [] outcomes traces last run new through = []
bytes_in id state old (event ∷ events) [] traces last run new through = []
bytes_in id state old (event ∷ events) (reply ∷ outcomes) [] last run new through = []
bytes_in id state old (event ∷ events) (reply ∷ outcomes) (trace ∷ traces) last (next, step, rest) new (shows, mid, happens, counts, later) =
    bytes_by id old event reply ++ bytes_in id next mid events outcomes traces last rest new later

-- THE LAW: from a block device whose queue was just set, over any events of which none ends its life. What it wrote into its used ring are the elements of
-- the requests that its lines `finished` tell, one for each, whole, in their order, from the first place on, each with its head and its count of bytes;
-- and what is begun of the element of the request in work
abbrev pub RunsWriteElements : Type 0
RunsWriteElements =
    (state last : State) (old new : Shown) (events : List Event) (outcomes : List Outcome) (traces : List (Option Trace)) (run : Run state events outcomes last)
    (id : ℕ) (layout : Layout) (block : ShownBlock) (through : GoesThrough state old events outcomes traces last run new)
    → block_with old.inside.blocks id ≡ Some block → HasFreshQueue layout block.device → LivesThrough id events outcomes
    → (after : ShownBlock) × (block_with new.inside.blocks id ≡ Some after)
    × (bytes_in id state old events outcomes traces last run new through ≡ elements_from layout 0 (requests_in id events outcomes) ++ begun after.device.front.queue)
