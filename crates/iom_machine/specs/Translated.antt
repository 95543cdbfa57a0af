-- What a request may be answered that says it is translated already, of a device that forges it. Translated requests that a device makes of an answer in
-- its own cache are in ThroughCache.antt.
use Rattle.std.specs.Prelude.{◌≡◌, ◌⊎◌, ⊤}
use Rattle.iom_base.specs.declared.access.Access.{Access}
use Rattle.iom_base.specs.declared.cause.Cause.{Cause}
use Rattle.iom_base.specs.declared.cause.Cause.TheVariants.{TransactionTypeDisallowed}
use Rattle.iom_base.specs.Accesses.{IsWithinPage}
use Rattle.iom_machine.specs.declared.outcome.Outcome.{Outcome}
use Rattle.iom_machine.specs.declared.outcome.Outcome.TheVariants.{Busy, BadSpan, Fault}
use Rattle.iom_machine.specs.declared.state.Attachment.{Attachment}
use Rattle.iom_machine.specs.declared.state.Attachment.TheVariants.{Detached, Attached, Quarantined, Leaving}
use Rattle.iom_machine.specs.declared.state.Device.{Device}
use Rattle.iom_machine.specs.declared.state.State.{State}
use Rattle.iom_machine.specs.Requests.{IsBusy, IsForwarded, cause_without_context}

-- a device that is attached so may have no context: it has none, or was quarantined
abbrev pub MayLackContext : Attachment → Type 0
MayLackContext Detached = ⊤
MayLackContext (Attached mode ats) = ⊥
MayLackContext (Quarantined ticket mode ats) = ⊤
MayLackContext (Leaving ticket mode ats) = ⊤

-- the IOMMU may find no context of the device, and refuse what it sends with the cause
abbrev pub MayFindNoContext : State → Device → Cause → Type 0
MayFindNoContext state device cause = MayLackContext device.attachment × (cause ≡ cause_without_context state device.id)

-- No context lets a translated request of such a device through (IOMMU specification, "Process to translate an IOVA").
abbrev pub MayFaultTranslated : State → Device → Cause → Type 0
MayFaultTranslated state device cause = (cause ≡ TransactionTypeDisallowed) ⊎ MayFindNoContext state device cause

-- what a plugged device's request may be answered that says it is translated already: it is never accepted
abbrev pub MayAnswerTranslated : State → Device → Access → Outcome → Type 0
MayAnswerTranslated state device access BadSpan = ¬ IsWithinPage access
MayAnswerTranslated state device access Busy = IsWithinPage access × IsBusy state.limits.in_flight device.in_flight
MayAnswerTranslated state device access (Fault cause) =
    IsForwarded state.limits.in_flight device.in_flight access.address access.len × MayFaultTranslated state device cause
MayAnswerTranslated state device access _ = ⊥
