-- What a device's request is answered, and what it leaves: by what the IOMMU finds in its caches and in memory.
use Rattle.std.specs.Prelude.{◌≡◌, ℕ, ◌⊎◌, ⊤, Bool, All, List, Option, None, Some, Ok}
use Rattle.iom_base.specs.declared.access.Access.{Access}
use Rattle.iom_base.specs.declared.access.AccessKind.TheVariants.{Read}
use Rattle.iom_base.specs.Sizes.{levels_of}
use Rattle.iom_base.specs.declared.ppn.Ppn.{Ppn}
use Rattle.iom_base.specs.declared.size.Size.{Size}
use Rattle.iom_device_dir.specs.declared.context.Context.{Context}
use Rattle.iom_device_dir.specs.declared.stages.FirstStage.TheVariants as first_stage
use Rattle.iom_device_dir.specs.declared.stages.SecondStage.TheVariants as second_stage
use Rattle.iom_device_dir.specs.declared.values.GuestRoot.{GuestRoot}
use Rattle.iom_iommu.specs.declared.reply.Reply.{Reply}
use Rattle.iom_iommu.specs.declared.reply.Reply.TheVariants.{Accepted, Busy, BadSpan, Fault}
use Rattle.iom_iommu.specs.Parts.{registers_of, contexts_of}
use Rattle.iom_iommu.specs.Requests.{AnswersRequest}
use Rattle.iom_iommu.specs.Service.{context_or_cause}
use Rattle.iom_iommu.specs.Translated.{AnswersTranslated}
use Rattle.iom_ledger.specs.History.{History, May}
use Rattle.iom_machine.specs.declared.outcome.Outcome.{Outcome}
use Rattle.iom_machine.specs.declared.outcome.Outcome.TheVariants as outcome
use Rattle.iom_stage_walk.specs.declared.walked.Walked.{Walked}
use Rattle.iom_stage_walk.specs.Both.{ReachesBoth}
use Rattle.iom_world_effects.specs.Parts.{Parts}
use Rattle.iom_base.specs.declared.device_kind.DeviceKind.{DeviceKind}
use Rattle.iom_base.specs.DeviceKinds.{forges}
use Rattle.iom_device.specs.Caches.{IsAble}
use Rattle.iom_iommu.specs.OwnIommu.{Iommu}
use Rattle.iom_world_effects.specs.Unable.{IsUnknown, IsUnable}

-- what an answer of the IOMMU is told as
abbrev pub outcome_of_reply : Reply → Outcome
outcome_of_reply (Accepted number) = outcome.Accepted number
outcome_of_reply Busy = outcome.Busy
outcome_of_reply BadSpan = outcome.BadSpan
outcome_of_reply (Fault cause) = outcome.Fault cause

-- the IOMMU answers so: driver and devices stay, and memory too, but for a fault, which is reported
pub record IsReplied (Call : Reply → List (List ℕ) → Iommu → Type 0) (old : Parts) (answer : Outcome) (new : Parts) : Type 0 where
  pub reply : Reply
  pub reply_is : answer ≡ outcome_of_reply reply
  pub call : Call reply new.memory new.iommu
  pub driver : new.driver ≡ old.driver
  pub devices : new.devices ≡ old.devices
  pub fabric : new.fabric ≡ old.fabric

-- A DEVICE ASKS for an access, if it is of a kind that can
abbrev pub AsksAccess : (DeviceKind → Bool) → Parts → ℕ → Access → Outcome → Parts → Type 0
AsksAccess can old id access answer new =
    IsUnknown old id answer new ⊎ IsUnable can old id answer new
    ⊎ (IsAble can old.devices id × IsReplied (AnswersRequest old.memory old.iommu id access) old answer new)

-- A DEVICE SAYS of a request that it is translated already
abbrev pub AsksTranslated : Parts → ℕ → Access → Outcome → Parts → Type 0
AsksTranslated old id access answer new =
    IsUnknown old id answer new ⊎ IsUnable forges old id answer new
    ⊎ (IsAble forges old.devices id × IsReplied (AnswersTranslated old.memory old.iommu id access) old answer new)

-- the IOMMU finds for the device a context with both stages, whose tables have these sizes and roots; for a question too, since a context that lets ATS through is the one
-- that is found
pub record IsInBoth (parts : Parts) (id : ℕ) (first_size : Size) (first : ℕ) (second_size : Size) (second : ℕ) : Type 0 where
  pub context : Context
  pub found : context_or_cause parts.memory (registers_of parts.iommu) (contexts_of parts.iommu) id ≡ Ok context
  pub guest : Ppn
  pub guest_is : guest.number ≡ first
  pub first_stage : context.first_stage ≡ first_stage.Tables first_size guest
  pub host : GuestRoot
  pub host_is : host.number ≡ second
  pub second_stage : context.second_stage ≡ second_stage.Tables second_size host

-- there is no frame, or the device may read it
abbrev pub MayReadFrom : History → ℕ → Option ℕ → Type 0
MayReadFrom history id None = ⊤
MayReadFrom history id (Some frame) = May history id frame Read

-- A GUEST'S OWN TABLES: where a walk through both stages translates the access, each entry of them is read from a frame that the device may read
abbrev pub ReadsGuestTables : Parts → History → ℕ → Access → Type 0
ReadsGuestTables parts history id access = (first_size second_size : Size) (first second : ℕ) (walked : Walked)
    → IsInBoth parts id first_size first second_size second
    → ReachesBoth (levels_of first_size) (levels_of second_size) parts.memory first second access.address access.kind walked
    → All (MayReadFrom history id) walked.guest_frames
