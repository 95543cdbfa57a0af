-- What a block device does at a line of its own is a call of hardware whose walks make one load an event, or nothing at the board.
use Rattle.std.proofs.Common.{◌≡◌, inl, inr, ℕ, Bool, true, false, List, Option, None, Some, Result, Ok, Err, OnErr, OnOk, is_some, refl}
use Rattle.iom_base.specs.DeviceKinds.{is_block_device}
use Rattle.iom_base.specs.declared.device_kind.DeviceKind.{DeviceKind}
use Rattle.iom_base.specs.declared.device_kind.DeviceKind.TheVariants.{Raw, Ats, Block, CachedBlock}
use Rattle.iom_base.specs.declared.refusal.Refusal.{Refusal}
use Rattle.iom_base.specs.declared.refusal.Refusal.TheVariants.{NoSuchDevice, WrongKind, BadQueue}
use Rattle.iom_block_devices.specs.Changes.{ChangesIfThere, block_with}
use Rattle.iom_block_devices.specs.Shown.{ShownBlock, ShownBlocks}
use Rattle.iom_board.specs.BoardParts.{BoardParts}
use Rattle.iom_board.specs.declared.sender.Sender.TheVariants.{Step}
use Rattle.iom_device.specs.Caches.{kind_in}
use Rattle.iom_hardware.specs.Queues.{SetsQueue}
use Rattle.iom_stepped_hardware.specs.Steps.{Ends, TakesOneStep, TakesStepBeside, TakesStepBy, TakesStepUnless, TakesWholeStep, walks_itself}
use Rattle.iom_stepped_hardware.specs.declared.steps.StepOutcome.{StepOutcome}
use Rattle.iom_stepped_ways.specs.Calls as call
use Rattle.iom_virtio_blk.specs.Steps.{Device}
use Rattle.iom_virtio_blk.specs.declared.step.Step.{Step as Taken}
use Rattle.iom_virtio_blk.specs.declared.step.Step.TheVariants as step
use Rattle.iom_virtqueue.specs.declared.layout.Layout.{Layout}
use Rattle.iom_walks.specs.Calls.{given_up}
use Rattle.iom_walks.specs.Walks.{WalkRow, row_of, under_way_of}
use Rattle.iom_block_ways.proofs.WholeLemmas.{resets, step_calls}
use Rattle.iom_block_ways.specs.Calls.{UnchangedOrCalls, StaysOrCalls, AreAllThere}

-- A WHOLE STEP is one of a board's calls, and leaves what is under way
alone : (old new : BoardParts) (rows new_rows : List WalkRow) → new_rows ≡ rows → UnchangedOrCalls old new → StaysOrCalls old rows new new_rows
alone old new rows new_rows same (inl stays) = inl (stays, same)
alone old new rows new_rows same (inr (done, effect, none)) = inr (call.Alone done, (effect, same), none)

whole : (old new : BoardParts) (rows new_rows : List WalkRow) (before after : ShownBlocks) (id : ℕ) (answer : Result StepOutcome Refusal)
    → TakesWholeStep old rows before id answer new new_rows after → StaysOrCalls old rows new new_rows
whole old new rows new_rows before after id answer takes =
    alone old new rows new_rows takes.walks (step_calls old new before after id takes.given takes.steps takes.refused)

-- A STEP BY SINGLE LOADS begins a request, or nothing
ended : (taken : Taken) (old new : BoardParts) (rows new_rows : List WalkRow) (id : ℕ) (between after : Device) (answer : Result StepOutcome Refusal)
    → Ends taken old rows id between answer new new_rows after → StaysOrCalls old rows new new_rows
ended step.Idle old new rows new_rows id between after answer ends = inl (ends.same, ends.walks)
ended step.Waiting old new rows new_rows id between after answer ends = inl (ends.same, ends.walks)
ended step.Down old new rows new_rows id between after answer ends = inl (ends.same, ends.walks)
ended (step.Chain fault) old new rows new_rows id between after answer ends = inl (ends.same, ends.walks)
ended (step.Finished head len) old new rows new_rows id between after answer ends = inl (ends.same, ends.walks)
ended (step.Wants want) old new rows new_rows id between after answer begins =
    inr (call.Begin Step id begins.any.access begins.given, begins.any.begins, tt)

-- a device whose steps make their loads one by one is a block device
block_there : (known : Option DeviceKind) → walks_itself known ≡ true → (kind : DeviceKind) × (known ≡ Some kind) × (is_block_device kind ≡ true)
block_there (Some Block) is = (Block, refl, refl)
block_there (Some Raw) is = absurd (cc)
block_there (Some Ats) is = absurd (cc)
block_there (Some CachedBlock) is = absurd (cc)
block_there None is = absurd (cc)

-- so it is there, and takes its step
one : (old new : BoardParts) (rows new_rows : List WalkRow) (before after : ShownBlocks) (id : ℕ) (answer : Result StepOutcome Refusal) (found : Option ShownBlock)
    → ¬ (found ≡ None) → ChangesIfThere found (TakesOneStep old rows id answer new new_rows) before.blocks id after.blocks → StaysOrCalls old rows new new_rows
one old new rows new_rows before after id answer None there unchanged = absurd (there refl)
one old new rows new_rows before after id answer (Some block) there (now, takes, is) =
    ended takes.taken old new rows new_rows id takes.between now answer takes.ends

unless : (is_walking : Bool) (old new : BoardParts) (rows new_rows : List WalkRow) (before after : ShownBlocks) (id : ℕ) (answer : Result StepOutcome Refusal)
    → ¬ (block_with before.blocks id ≡ None) → TakesStepUnless is_walking old rows before id answer new new_rows after → StaysOrCalls old rows new new_rows
unless true old new rows new_rows before after id answer there waits = inl (waits.same, waits.walks)
unless false old new rows new_rows before after id answer there takes = one old new rows new_rows before after id answer (block_with before.blocks id) there takes.0

-- A STEP
pub stepped_step_calls : (old new : BoardParts) (rows new_rows : List WalkRow) (before after : ShownBlocks) (id : ℕ) (answer : Result StepOutcome Refusal)
    → AreAllThere old before → TakesStepBeside old rows before id answer new new_rows after → StaysOrCalls old rows new new_rows
stepped_step_calls old new rows new_rows before after id answer all takes = by (walks_itself (kind_in old.devices id)) refl takes
  where
    by : (walks : Bool) → walks_itself (kind_in old.devices id) ≡ walks → TakesStepBy walks old rows before id answer new new_rows after → StaysOrCalls old rows new new_rows
    by false is takes = whole old new rows new_rows before after id answer takes
    by true is takes =
        unless (is_some (under_way_of rows id)) old new rows new_rows before after id answer (all id (block_there (kind_in old.devices id) is)) takes

-- what an answer says is so
if_ok : {X : Type 0} (answer : Result (Unit {0}) Refusal) → answer ≡ Ok tt → OnOk answer X → X
if_ok (Ok done) is so = so
if_ok (Err why) is so = absurd (cc)

if_err : {X : Type 0} (answer : Result (Unit {0}) Refusal) (why : Refusal) → answer ≡ Err why → OnErr answer X → X
if_err (Ok done) why is so = absurd (cc)
if_err (Err other) why is so = so

-- A QUEUE THAT IS SET resets the device, and gives up what is under way of it
pub stepped_queue_calls : (old new : BoardParts) (rows new_rows : List WalkRow) (id : ℕ) (layout : Layout) (answer : Result (Unit {0}) Refusal)
    → SetsQueue old id layout answer new → OnOk answer (new_rows ≡ given_up rows (row_of rows id)) → OnErr answer (new_rows ≡ rows) → StaysOrCalls old rows new new_rows
stepped_queue_calls old new rows new_rows id layout answer (inl none) gone kept = inl (none.same, if_err answer NoSuchDevice none.answered kept)
stepped_queue_calls old new rows new_rows id layout answer (inr (inl wrong)) gone kept = inl (wrong.same, if_err answer WrongKind wrong.answered kept)
stepped_queue_calls old new rows new_rows id layout answer (inr (inr (inl bad))) gone kept = inl (bad.same, if_err answer BadQueue bad.answered kept)
stepped_queue_calls old new rows new_rows id layout answer (inr (inr (inr sets))) gone kept =
    inr (call.ResetBeside id (Ok tt), (resets old new id layout answer sets, if_ok answer sets.answered gone, tt), tt)
