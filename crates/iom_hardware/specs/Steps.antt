-- A block device takes a step, up to the access that it wants, which begins in the same call (virtio 1.2, sections 2.7 and 5.2).
use Rattle.std.specs.Prelude.{◌≡◌, ◌<◌, ◌^◌, ℕ, Bool, true, false, Option, None, Some, Result, Ok, Err}
use Rattle.std.specs.Option.{option_map_or}
use Rattle.iom_base.specs.declared.access.Access.{Access}
use Rattle.iom_base.specs.Accesses.{MayWant, page_of}
use Rattle.iom_base.specs.DeviceKinds.{has_cache, is_block_device}
use Rattle.iom_base.specs.declared.refusal.Refusal.{Refusal}
use Rattle.iom_block_devices.specs.Changes.{Changes}
use Rattle.iom_block_devices.specs.Shown.{ShownBlock, ShownBlocks}
use Rattle.iom_block_devices.specs.Wanted.{wanted_access}
use Rattle.iom_board.specs.BoardParts.{BoardParts}
use Rattle.iom_board.specs.declared.answers.CacheReply.{CacheReply}
use Rattle.iom_board.specs.declared.answers.CacheReply.TheVariants.{Miss, Replied}
use Rattle.iom_board.specs.Messages.{with_message}
use Rattle.iom_board.specs.Requests.{RequestsAccess}
use Rattle.iom_board.specs.ThroughCache.{RequestsAccessThroughCache}
use Rattle.iom_device.specs.Caches.{IsAble, epoch_in, kind_in}
use Rattle.iom_fabric.specs.declared.message.Message.TheVariants.{Ask}
use Rattle.iom_iommu.specs.declared.reply.Reply.{Reply}
use Rattle.iom_iommu.specs.declared.reply.Reply.TheVariants as iommu
use Rattle.iom_virtio_blk.specs.declared.step.Reply as blk
use Rattle.iom_virtio_blk.specs.declared.step.Reply.TheVariants as reply
use Rattle.iom_virtio_blk.specs.declared.step.Step.{Step}
use Rattle.iom_virtio_blk.specs.declared.step.Step.TheVariants as step
use Rattle.iom_virtio_blk.specs.Blocks.{wanted_by, replied}
use Rattle.iom_virtio_blk.specs.Histories.{KeepsTelling}
use Rattle.iom_virtio_blk.specs.Steps.{Device, device, BlockDeviceSteps}
use Rattle.iom_virtqueue.specs.Accesses.{Access as Wanted}
use Rattle.iom_hardware.specs.declared.steps.Stepped.{Stepped}
use Rattle.iom_hardware.specs.declared.steps.Stepped.TheVariants.{Began, Asked, Idle, Waiting, Down, Chain, Finished}
use Rattle.iom_hardware.specs.Status.{FindsNoBlock}

-- the access began, and the IOMMU answered so
abbrev pub began : Result Reply Refusal → Result Stepped Refusal
began (Ok answer) = Ok (Began answer)
began (Err why) = Err why

-- where the access misses in the device's own cache, the device asks for the translation; that question is lost where 64 messages are under way
abbrev pub AsksIfMissed : Result CacheReply Refusal → BoardParts → ℕ → Access → Result Stepped Refusal → BoardParts → Type 0
AsksIfMissed (Ok Miss) old id access answer new =
    (answer ≡ Ok Asked) × (new ≡ record old { fabric = with_message old.fabric id (Ask (epoch_in old.devices id) (page_of access)) })
AsksIfMissed (Ok (Replied given)) old id access answer new = (answer ≡ Ok (Began given)) × (new ≡ old)
AsksIfMissed (Err why) old id access answer new = (answer ≡ Err why) × (new ≡ old)

-- the access goes through the device's own cache
pub record GoesThroughCache (old : BoardParts) (id : ℕ) (access : Access) (answer : Result Stepped Refusal) (new : BoardParts) : Type 0 where
  pub first : Result CacheReply Refusal
  pub between : BoardParts
  pub tries : RequestsAccessThroughCache is_block_device old id access first between
  pub asks : AsksIfMissed first between id access answer new

-- the access goes to the IOMMU, which translates it
pub record GoesUntranslated (old : BoardParts) (id : ℕ) (access : Access) (answer : Result Stepped Refusal) (new : BoardParts) : Type 0 where
  pub given : Result Reply Refusal
  pub requests : RequestsAccess is_block_device old id access given new
  pub answered : answer ≡ began given

-- so it goes where the device has no cache, and through that where it has one
abbrev pub GoesBy : (has_cache : Bool) → BoardParts → ℕ → Access → Result Stepped Refusal → BoardParts → Type 0
GoesBy false old id access answer new = GoesUntranslated old id access answer new
GoesBy true old id access answer new = GoesThroughCache old id access answer new

-- A BLOCK DEVICE'S STEP WANTS THE ACCESS
abbrev pub Begins : BoardParts → ℕ → Access → Result Stepped Refusal → BoardParts → Type 0
Begins old id access answer new = GoesBy (option_map_or has_cache (kind_in old.devices id) false) old id access answer new

-- what the device is told of that
abbrev pub reply_to : Access → Result Stepped Refusal → blk.Reply
reply_to access (Ok (Began (iommu.Accepted number))) = reply.Accepted number
reply_to access (Ok (Began iommu.Busy)) = reply.Busy
reply_to access (Ok Asked) = reply.Asked (page_of access)
reply_to access answer = reply.Fault

-- it begins the access that is wanted, which lies within one page of the 64-bit address space
pub record BeginsAny (wanted : Wanted) (old : BoardParts) (id : ℕ) (answer : Result Stepped Refusal) (new : BoardParts) : Type 0 where
  pub access : Access
  pub named : wanted_access wanted ≡ Some access
  pub fits : access.address < 2 ^ 64
  pub wants : MayWant access
  pub begun : Begins old id access answer new

-- it begins the access that it wants, which lies within one page of the 64-bit address space, and is told
pub record BeginsWanted (old : BoardParts) (id : ℕ) (between : Device) (answer : Result Stepped Refusal) (new : BoardParts) (after : Device) : Type 0 where
  pub access : Access
  pub named : wanted_access (wanted_by between.front) ≡ Some access
  pub fits : access.address < 2 ^ 64
  pub wants : MayWant access
  pub begun : Begins old id access answer new
  pub hears : after ≡ device (replied (reply_to access answer) between.front) between.disk

-- a step that begins no access changes nothing but the device
pub record Rests (rest : Stepped) (old : BoardParts) (between : Device) (answer : Result Stepped Refusal) (new : BoardParts) (after : Device) : Type 0 where
  pub answered : answer ≡ Ok rest
  pub same : new ≡ old
  pub settled : after ≡ between

abbrev pub Ends : Step → BoardParts → ℕ → Device → Result Stepped Refusal → BoardParts → Device → Type 0
Ends step.Idle old id between answer new after = Rests Idle old between answer new after
Ends step.Waiting old id between answer new after = Rests Waiting old between answer new after
Ends step.Down old id between answer new after = Rests Down old between answer new after
Ends (step.Chain fault) old id between answer new after = Rests (Chain fault) old between answer new after
Ends (step.Finished head len) old id between answer new after = Rests (Finished head len) old between answer new after
Ends (step.Wants want) old id between answer new after = BeginsWanted old id between answer new after

-- the device takes a step, which calls its disk at most once, up to the access that it wants next; and what tells its disk goes on with the step
pub record TakesOneStep (old : BoardParts) (id : ℕ) (answer : Result Stepped Refusal) (new : BoardParts) (before after : Device) : Type 0 where
  pub taken : Step
  pub between : Device
  pub steps : BlockDeviceSteps before taken between
  pub tells : KeepsTelling before between
  pub ends : Ends taken old id between answer new after

-- where there is no block device with the id the step is refused
abbrev pub IsRefusedIfNone : Option ShownBlock → BoardParts → ℕ → Result Stepped Refusal → BoardParts → Type 0
IsRefusedIfNone None old id answer new = FindsNoBlock old id answer new
IsRefusedIfNone (Some block) old id answer new = IsAble is_block_device old.devices id

-- A BLOCK DEVICE TAKES A STEP
abbrev pub TakesStep : BoardParts → ShownBlocks → ℕ → Result Stepped Refusal → BoardParts → ShownBlocks → Type 0
TakesStep old before id answer new after = Changes (TakesOneStep old id answer new) before id after
