-- The life of a block device within a run of the model: by the events and what came of them.
use Rattle.std.specs.Prelude.{◌≡◌, ⊤, ℕ, ◌==◌, Bool, true, false, List, [], ◌∷◌, ◌++◌, Option, None, Some, if◌then◌else◌}
use Rattle.iom_machine.specs.declared.event.Event.{Event}
use Rattle.iom_machine.specs.declared.event.Event.TheVariants as events
use Rattle.iom_machine.specs.declared.outcome.BlockStep.TheVariants as rest
use Rattle.iom_machine.specs.declared.outcome.Outcome.{Outcome}
use Rattle.iom_machine.specs.declared.outcome.Outcome.TheVariants as outcome
use Rattle.iom_machine.specs.declared.outcome.Trace.{Trace}
use Rattle.iom_machine.specs.declared.state.State.{State}
use Rattle.iom_machine.specs.Machine.{Run}
use Rattle.iom_virtqueue.specs.declared.layout.Layout.{Layout}
use Rattle.iom_virtqueue.specs.Layouts.{layout_of}
use Rattle.iom_block_devices.specs.Changes.{block_with}
use Rattle.iom_block_devices.specs.Shown.{ShownBlock}
use Rattle.iom_world.specs.Happens.{Happens}
use Rattle.iom_world.specs.Runs.{GoesThrough}
use Rattle.iom_world.specs.Shown.{Shown}
use Rattle.iom_block_life.specs.Lives.{Taken, entry_in, HasFreshQueue, UsesEachOnce}

-- whether the event, told so, ends the life of the device with this id: it is detached, revived or reset, or its queue is set anew, and that isn't refused
abbrev pub ends_life : ℕ → Event → Outcome → Bool
ends_life id event (outcome.Refused why) = false
ends_life id (events.Detach other) reply = id == other
ends_life id (events.Revive other) reply = id == other
ends_life id (events.Reset other) reply = id == other
ends_life id (events.Queue other size descriptors available used) reply = id == other
ends_life id event reply = false

-- none of these events does
abbrev pub LivesThrough : ℕ → List Event → List Outcome → Type 0
LivesThrough id [] outcomes = ⊤
LivesThrough id (event ∷ events) [] = ⊤
LivesThrough id (event ∷ events) (reply ∷ outcomes) = (ends_life id event reply ≡ false) × LivesThrough id events outcomes

-- the head of the request that a step finished, by what is told
abbrev pub finished_in : Outcome → List ℕ
finished_in (outcome.Stepped (rest.Finished head len)) = head ∷ []
finished_in reply = []

-- the same of a step of this device
abbrev pub head_in : ℕ → Event → Outcome → List ℕ
head_in id (events.Step other) reply = if id == other then finished_in reply else []
head_in id event reply = []

-- the heads of all requests of this device that the events finished, in their order
abbrev pub heads_in : ℕ → List Event → List Outcome → List ℕ
heads_in id [] outcomes = []
heads_in id (event ∷ events) [] = []
heads_in id (event ∷ events) (reply ∷ outcomes) = head_in id event reply ++ heads_in id events outcomes

-- whether a step that is told so went on to another access: to one that was begun or not, or one that has to wait for a translation
abbrev pub went_on : Outcome → Bool
went_on (outcome.Stepped rest.Idle) = false
went_on (outcome.Stepped rest.Waiting) = false
went_on (outcome.Stepped rest.Asked) = true
went_on (outcome.Stepped (rest.Chain fault)) = false
went_on (outcome.Stepped (rest.Finished head len)) = false
went_on (outcome.Stepped rest.Down) = false
went_on reply = true

-- the entry that the step took, if it did, by the device before it
abbrev pub entry_by : Bool → Option ShownBlock → List Taken
entry_by true (Some block) = entry_in block.device.front.is_made block.device.front.queue.phase block.device.front
entry_by true None = []
entry_by false block = []

-- the same of a step of this device
abbrev pub taken_in : ℕ → Shown → Event → Outcome → List Taken
taken_in id old (events.Step other) reply = if id == other then entry_by (went_on reply) (block_with old.inside.blocks id) else []
taken_in id old event reply = []

-- the entries that the steps of this device took, in their order, in the states that the world goes through
abbrev pub entries_taken : (id : ℕ) (state : State) (old : Shown) (events : List Event) (outcomes : List Outcome) (traces : List (Option Trace)) (last : State)
    (run : Run state events outcomes last) (new : Shown) → GoesThrough state old events outcomes traces last run new → List Taken
entries_taken id state old [] outcomes traces last run new through = []
entries_taken id state old (event ∷ events) [] traces last run new through = []
entries_taken id state old (event ∷ events) (reply ∷ outcomes) [] last run new through = []
entries_taken id state old (event ∷ events) (reply ∷ outcomes) (trace ∷ traces) last (next, step, rest) new (shows, mid, happens, counts, later) =
    taken_in id old event reply ++ entries_taken id next mid events outcomes traces last rest new later

-- a queue that is set begins a life
abbrev pub QueuesBeginLives : Type 0
QueuesBeginLives =
    (old new : Shown) (id size descriptors available used : ℕ) (block : ShownBlock)
    → Happens old (events.Queue id size descriptors available used) outcome.Done new → block_with old.inside.blocks id ≡ Some block
    → (after : ShownBlock) × (block_with new.inside.blocks id ≡ Some after) × HasFreshQueue (layout_of size descriptors available used) after.device

-- THE LAW of the model: from a block device whose queue was just set, over any events of which none ends its life
abbrev pub RunsUseEachOnce : Type 0
RunsUseEachOnce =
    (state last : State) (old new : Shown) (events : List Event) (outcomes : List Outcome) (traces : List (Option Trace)) (run : Run state events outcomes last)
    (id : ℕ) (layout : Layout) (block : ShownBlock) (through : GoesThrough state old events outcomes traces last run new)
    → block_with old.inside.blocks id ≡ Some block → HasFreshQueue layout block.device → LivesThrough id events outcomes
    → (after : ShownBlock) × (block_with new.inside.blocks id ≡ Some after)
    × UsesEachOnce layout (entries_taken id state old events outcomes traces last run new through) (heads_in id events outcomes) after.device
