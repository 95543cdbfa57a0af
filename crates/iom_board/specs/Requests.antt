-- What a device's request is answered, and what it leaves (IOMMU specification, section 2.3, "Process to translate an IOVA").
use Rattle.std.specs.Prelude.{◌≡◌, ℕ, Bool, List, Result}
use Rattle.iom_base.specs.DeviceKinds.{forges}
use Rattle.iom_base.specs.declared.access.Access.{Access}
use Rattle.iom_base.specs.declared.device_kind.DeviceKind.{DeviceKind}
use Rattle.iom_base.specs.declared.refusal.Refusal.{Refusal}
use Rattle.iom_iommu.specs.declared.reply.Reply.{Reply}
use Rattle.iom_iommu.specs.Requests.{AnswersRequest}
use Rattle.iom_iommu.specs.Translated.{AnswersTranslated}
use Rattle.iom_board.specs.ByDevice.{ByDevice}
use Rattle.iom_board.specs.BoardParts.{BoardParts}
use Rattle.iom_iommu.specs.OwnIommu.{Iommu}

-- the IOMMU answers so: devices and messages stay, and memory too, but for a fault, which is recorded there
pub record Replies (Call : Reply → List (List ℕ) → Iommu → Type 0) (old : BoardParts) (reply : Reply) (new : BoardParts) : Type 0 where
  pub call : Call reply new.memory new.iommu
  pub devices : new.devices ≡ old.devices
  pub fabric : new.fabric ≡ old.fabric

-- A DEVICE ASKS for an access at an address that the IOMMU translates, if it is of a kind that can
abbrev pub RequestsAccess : (DeviceKind → Bool) → BoardParts → ℕ → Access → Result Reply Refusal → BoardParts → Type 0
RequestsAccess can old id access answer new =
    ByDevice can (λ old reply new. Replies (AnswersRequest old.memory old.iommu id access) old reply new) old id answer new

-- A DEVICE SAYS of a request that it is translated already
abbrev pub RequestsTranslatedAccess : BoardParts → ℕ → Access → Result Reply Refusal → BoardParts → Type 0
RequestsTranslatedAccess old id access answer new =
    ByDevice forges (λ old reply new. Replies (AnswersTranslated old.memory old.iommu id access) old reply new) old id answer new
