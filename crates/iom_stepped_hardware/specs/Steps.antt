-- A block device takes a step, where a walk makes one load an event (virtio 1.2, sections 2.7 and 5.2).
use Rattle.std.specs.Prelude.{◌≡◌, ◌<◌, ◌^◌, ℕ, Bool, true, false, List, Option, None, Some, Result, Ok, Err, is_some}
use Rattle.iom_base.specs.Accesses.{MayWant}
use Rattle.iom_base.specs.DeviceKinds.{is_block_device}
use Rattle.iom_base.specs.declared.access.Access.{Access}
use Rattle.iom_base.specs.declared.device_kind.DeviceKind.{DeviceKind}
use Rattle.iom_base.specs.declared.device_kind.DeviceKind.TheVariants.{Raw, Ats, Block, CachedBlock}
use Rattle.iom_base.specs.declared.refusal.Refusal.{Refusal}
use Rattle.iom_block_devices.specs.Changes.{Changes, block_with}
use Rattle.iom_block_devices.specs.Shown.{ShownBlocks}
use Rattle.iom_block_devices.specs.Wanted.{wanted_access}
use Rattle.iom_board.specs.BoardParts.{BoardParts}
use Rattle.iom_device.specs.Caches.{kind_in}
use Rattle.iom_hardware.specs.Steps.{IsRefusedIfNone, TakesStep}
use Rattle.iom_hardware.specs.declared.steps.Stepped.{Stepped}
use Rattle.iom_hardware.specs.declared.steps.Stepped.TheVariants as stepped
use Rattle.iom_iommu.specs.declared.begun.Begun.{Begun}
use Rattle.iom_iommu.specs.declared.begun.Begun.TheVariants as begun
use Rattle.iom_stepped_board.specs.Requests.{BeginsAccessBeside}
use Rattle.iom_virtio_blk.specs.Blocks.{replied, wanted_by}
use Rattle.iom_virtio_blk.specs.Histories.{KeepsTelling}
use Rattle.iom_virtio_blk.specs.Steps.{BlockDeviceSteps, Device, device}
use Rattle.iom_virtio_blk.specs.declared.front.Front.{Front}
use Rattle.iom_virtio_blk.specs.declared.step.Step.{Step}
use Rattle.iom_virtio_blk.specs.declared.step.Step.TheVariants as step
use Rattle.iom_virtqueue.specs.Accesses.{Access as Wanted}
use Rattle.iom_walks.specs.Walks.{WalkRow, under_way_of}
use Rattle.iom_stepped_hardware.specs.Requests.{told}
use Rattle.iom_stepped_hardware.specs.declared.steps.StepOutcome.{StepOutcome}
use Rattle.iom_stepped_hardware.specs.declared.steps.StepOutcome.TheVariants.{Walking, Took}

-- what a step is that began an access, by what the IOMMU answers; a device of which a request is under way begins none
abbrev pub began : Result Begun Refusal → Result StepOutcome Refusal
began (Ok (begun.Answered reply)) = Ok (Took (stepped.Began reply))
began (Ok begun.Walking) = Ok Walking
began (Ok begun.Occupied) = Ok (Took stepped.Waiting)
began (Err why) = Err why

-- what the device is told of that: nothing yet where its request is under way
abbrev pub front_after : Result Begun Refusal → Front → Front
front_after (Ok (begun.Answered reply)) front = replied (told reply) front
front_after (Ok begun.Walking) front = front
front_after (Ok begun.Occupied) front = front
front_after (Err why) front = front

-- it begins the access that is wanted, which lies within one page of the 64-bit address space
pub record BeginsAny (wanted : Wanted) (old : BoardParts) (rows : List WalkRow) (id : ℕ) (given : Result Begun Refusal) (new : BoardParts) (new_rows : List WalkRow) : Type 0 where
  pub access : Access
  pub named : wanted_access wanted ≡ Some access
  pub wants : MayWant access
  pub fits : access.address < 2 ^ 64
  pub begins : BeginsAccessBeside is_block_device old rows id access given new new_rows

-- it begins the access that it wants, and is told
pub record BeginsWanted (old : BoardParts) (rows : List WalkRow) (id : ℕ) (between : Device) (answer : Result StepOutcome Refusal) (new : BoardParts) (new_rows : List WalkRow)
    (after : Device) : Type 0 where
  pub given : Result Begun Refusal
  pub any : BeginsAny (wanted_by between.front) old rows id given new new_rows
  pub answered : answer ≡ began given
  pub hears : after ≡ device (front_after given between.front) between.disk

-- a step that begins no access changes nothing but the device
pub record Rests (rest : Stepped) (old : BoardParts) (rows : List WalkRow) (between : Device) (answer : Result StepOutcome Refusal) (new : BoardParts) (new_rows : List WalkRow)
    (after : Device) : Type 0 where
  pub answered : answer ≡ Ok (Took rest)
  pub same : new ≡ old
  pub walks : new_rows ≡ rows
  pub settled : after ≡ between

abbrev pub Ends : Step → BoardParts → List WalkRow → ℕ → Device → Result StepOutcome Refusal → BoardParts → List WalkRow → Device → Type 0
Ends step.Idle old rows id between answer new new_rows after = Rests stepped.Idle old rows between answer new new_rows after
Ends step.Waiting old rows id between answer new new_rows after = Rests stepped.Waiting old rows between answer new new_rows after
Ends step.Down old rows id between answer new new_rows after = Rests stepped.Down old rows between answer new new_rows after
Ends (step.Chain fault) old rows id between answer new new_rows after = Rests (stepped.Chain fault) old rows between answer new new_rows after
Ends (step.Finished head len) old rows id between answer new new_rows after = Rests (stepped.Finished head len) old rows between answer new new_rows after
Ends (step.Wants want) old rows id between answer new new_rows after = BeginsWanted old rows id between answer new new_rows after

-- the device takes a step, which calls its disk at most once, up to the access that it wants next; and what tells its disk goes on with the step
pub record TakesOneStep (old : BoardParts) (rows : List WalkRow) (id : ℕ) (answer : Result StepOutcome Refusal) (new : BoardParts) (new_rows : List WalkRow) (before after : Device)
    : Type 0 where
  pub taken : Step
  pub between : Device
  pub steps : BlockDeviceSteps before taken between
  pub tells : KeepsTelling before between
  pub ends : Ends taken old rows id between answer new new_rows after

-- a device waits for its request that is under way: nothing changes
pub record WaitsForWalk (old : BoardParts) (rows : List WalkRow) (before : ShownBlocks) (answer : Result StepOutcome Refusal) (new : BoardParts) (new_rows : List WalkRow)
    (after : ShownBlocks) : Type 0 where
  pub answered : answer ≡ Ok (Took stepped.Waiting)
  pub same : new ≡ old
  pub walks : new_rows ≡ rows
  pub stays : after ≡ before

-- it does where one is, and else takes its step
abbrev pub TakesStepUnless : (is_walking : Bool) → BoardParts → List WalkRow → ShownBlocks → ℕ → Result StepOutcome Refusal → BoardParts → List WalkRow → ShownBlocks → Type 0
TakesStepUnless true old rows before id answer new new_rows after = WaitsForWalk old rows before answer new new_rows after
TakesStepUnless false old rows before id answer new new_rows after = Changes (TakesOneStep old rows id answer new new_rows) before id after

-- what a step is in one event
abbrev pub took : Result Stepped Refusal → Result StepOutcome Refusal
took (Ok taken) = Ok (Took taken)
took (Err why) = Err why

-- the step is one event, as of hardware whose walks are: what is under way stays
pub record TakesWholeStep (old : BoardParts) (rows : List WalkRow) (before : ShownBlocks) (id : ℕ) (answer : Result StepOutcome Refusal) (new : BoardParts) (new_rows : List WalkRow)
    (after : ShownBlocks) : Type 0 where
  pub given : Result Stepped Refusal
  pub refused : IsRefusedIfNone (block_with before.blocks id) old id given new
  pub steps : TakesStep old before id given new after
  pub answered : answer ≡ took given
  pub walks : new_rows ≡ rows

-- which devices make the loads of what their steps ask for one by one: block devices without a cache
abbrev pub walks_itself : Option DeviceKind → Bool
walks_itself (Some Block) = true
walks_itself (Some Raw) = false
walks_itself (Some Ats) = false
walks_itself (Some CachedBlock) = false
walks_itself None = false

abbrev pub TakesStepBy : (walks_itself : Bool) → BoardParts → List WalkRow → ShownBlocks → ℕ → Result StepOutcome Refusal → BoardParts → List WalkRow → ShownBlocks → Type 0
TakesStepBy true old rows before id answer new new_rows after = TakesStepUnless (is_some (under_way_of rows id)) old rows before id answer new new_rows after
TakesStepBy false old rows before id answer new new_rows after = TakesWholeStep old rows before id answer new new_rows after

-- A BLOCK DEVICE TAKES A STEP: one with a cache as where a walk is one event, and so is a step refused where no block device has the id
abbrev pub TakesStepBeside : BoardParts → List WalkRow → ShownBlocks → ℕ → Result StepOutcome Refusal → BoardParts → List WalkRow → ShownBlocks → Type 0
TakesStepBeside old rows before id answer new new_rows after = TakesStepBy (walks_itself (kind_in old.devices id)) old rows before id answer new new_rows after
