-- What is proved of block devices, as facts on ways see them.
use Rattle.std.specs.Prelude.{◌≡◌, ℕ, List, Result, OnErr, OnOk}
use Rattle.iom_base.specs.declared.refusal.Refusal.{Refusal}
use Rattle.iom_block_devices.specs.Changes.{block_with}
use Rattle.iom_block_devices.specs.Shown.{ShownBlocks}
use Rattle.iom_board.specs.BoardParts.{BoardParts}
use Rattle.iom_hardware.specs.Queues.{SetsQueue}
use Rattle.iom_hardware.specs.Steps.{TakesStep, IsRefusedIfNone}
use Rattle.iom_hardware.specs.declared.steps.Stepped.{Stepped}
use Rattle.iom_stepped_hardware.specs.Steps.{TakesStepBeside}
use Rattle.iom_stepped_hardware.specs.declared.steps.StepOutcome.{StepOutcome}
use Rattle.iom_virtqueue.specs.declared.layout.Layout.{Layout}
use Rattle.iom_walks.specs.Calls.{given_up}
use Rattle.iom_walks.specs.Walks.{WalkRow, row_of}
use Rattle.iom_block_ways.specs.Calls.{UnchangedOrCalls, StaysOrCalls, AreAllThere}

-- a step is a call of hardware, or nothing at the board
abbrev pub StepsAreCalls : Type 0
StepsAreCalls = (old new : BoardParts) (before after : ShownBlocks) (id : ℕ) (answer : Result Stepped Refusal)
    → TakesStep old before id answer new after → IsRefusedIfNone (block_with before.blocks id) old id answer new → UnchangedOrCalls old new

-- a queue that is set resets the device
abbrev pub QueuesAreCalls : Type 0
QueuesAreCalls = (old new : BoardParts) (id : ℕ) (layout : Layout) (answer : Result (Unit {0}) Refusal)
    → SetsQueue old id layout answer new → UnchangedOrCalls old new

-- so is a step where a walk makes one load an event
abbrev pub SteppedStepsAreCalls : Type 0
SteppedStepsAreCalls = (old new : BoardParts) (rows new_rows : List WalkRow) (before after : ShownBlocks) (id : ℕ) (answer : Result StepOutcome Refusal)
    → AreAllThere old before → TakesStepBeside old rows before id answer new new_rows after → StaysOrCalls old rows new new_rows

-- and a queue that is set, which gives up what is under way of the device
abbrev pub SteppedQueuesAreCalls : Type 0
SteppedQueuesAreCalls = (old new : BoardParts) (rows new_rows : List WalkRow) (id : ℕ) (layout : Layout) (answer : Result (Unit {0}) Refusal)
    → SetsQueue old id layout answer new → OnOk answer (new_rows ≡ given_up rows (row_of rows id)) → OnErr answer (new_rows ≡ rows)
    → StaysOrCalls old rows new new_rows
