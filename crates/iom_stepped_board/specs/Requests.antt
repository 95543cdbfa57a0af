-- What a device's request is answered where a walk makes one load an event, and what it leaves (IOMMU specification, section 2.3, "Process to translate an IOVA").
use Rattle.std.specs.Prelude.{◌≡◌, ℕ, Bool, List, Result, OnErr}
use Rattle.iom_base.specs.DeviceKinds.{forges, is_any_kind}
use Rattle.iom_base.specs.declared.access.Access.{Access}
use Rattle.iom_base.specs.declared.device_kind.DeviceKind.{DeviceKind}
use Rattle.iom_base.specs.declared.refusal.Refusal.{Refusal}
use Rattle.iom_board.specs.BoardParts.{BoardParts}
use Rattle.iom_board.specs.ByDevice.{ByDevice}
use Rattle.iom_board.specs.Requests.{Replies}
use Rattle.iom_iommu.specs.declared.begun.Begun.{Begun}
use Rattle.iom_iommu.specs.declared.begun.Load.{Load}
use Rattle.iom_iommu.specs.declared.reply.Reply.{Reply}
use Rattle.iom_iommu.specs.Stepped.{AnswersTranslatedBeside, BeginsRequest, LoadsNext}
use Rattle.iom_walks.specs.Walks.{WalkRow}

-- the IOMMU begins the request, beside those that are under way: devices and messages stay
pub record BeginsBeside (rows : List WalkRow) (id : ℕ) (access : Access) (new_rows : List WalkRow) (old : BoardParts) (begun : Begun) (new : BoardParts) : Type 0 where
  pub call : BeginsRequest old.memory old.iommu rows id access begun new.memory new.iommu new_rows
  pub devices : new.devices ≡ old.devices
  pub fabric : new.fabric ≡ old.fabric

-- A DEVICE ASKS for an access at an address that the IOMMU translates, if it is of a kind that can; one that is refused leaves what is under way
pub record BeginsAccessBeside (can : DeviceKind → Bool) (old : BoardParts) (rows : List WalkRow) (id : ℕ) (access : Access) (answer : Result Begun Refusal)
    (new : BoardParts) (new_rows : List WalkRow) : Type 0 where
  pub by_device : ByDevice can (BeginsBeside rows id access new_rows) old id answer new
  pub refused : OnErr answer (new_rows ≡ rows)

-- the IOMMU makes the next load of the device's request, if one is under way
pub record LoadsBeside (rows : List WalkRow) (id : ℕ) (new_rows : List WalkRow) (old : BoardParts) (load : Load) (new : BoardParts) : Type 0 where
  pub call : LoadsNext old.memory old.iommu rows id load new.memory new.iommu new_rows
  pub devices : new.devices ≡ old.devices
  pub fabric : new.fabric ≡ old.fabric

-- THE NEXT LOAD of a device that is plugged in
pub record MakesLoad (old : BoardParts) (rows : List WalkRow) (id : ℕ) (answer : Result Load Refusal) (new : BoardParts) (new_rows : List WalkRow) : Type 0 where
  pub by_device : ByDevice is_any_kind (LoadsBeside rows id new_rows) old id answer new
  pub refused : OnErr answer (new_rows ≡ rows)

-- A DEVICE SAYS of a request that it is translated already
abbrev pub RequestsTranslatedBeside : BoardParts → List WalkRow → ℕ → Access → Result Reply Refusal → BoardParts → Type 0
RequestsTranslatedBeside old rows id access answer new =
    ByDevice forges (λ old reply new. Replies (AnswersTranslatedBeside old.memory old.iommu rows id access) old reply new) old id answer new
