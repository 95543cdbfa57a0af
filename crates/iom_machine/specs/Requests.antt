-- What a device's request may be answered: the first of a bad span, too many in flight, and what the history says of the page.
use Rattle.std.specs.Prelude.{◌≡◌, ℕ, ◌+◌, ◌≤◌, ◌⊎◌, true, false, List, [], ◌∷◌, ◌++◌, length, if◌then◌else◌}
use Rattle.iom_base.specs.declared.access.AccessKind.{AccessKind}
use Rattle.iom_base.specs.declared.cause.Cause.{Cause}
use Rattle.iom_base.specs.declared.cause.Cause.TheVariants.{DirectoryEntryNotValid, TransactionTypeDisallowed}
use Rattle.iom_base.specs.declared.rights.Rights.{Rights}
use Rattle.iom_base.specs.Causes.{page_fault_of, guest_page_fault_of}
use Rattle.iom_base.specs.Rights.{allows}
use Rattle.iom_base.specs.Accesses.{page_of, IsWithinPage}
use Rattle.iom_base.specs.Spans.{FitsInPage}
use Rattle.iom_ledger.specs.History.{History, Holds, Lingers, May, confirms}
use Rattle.iom_machine.specs.declared.outcome.Outcome.{Outcome}
use Rattle.iom_machine.specs.declared.outcome.Outcome.TheVariants.{Accepted, Busy, BadSpan, Fault}
use Rattle.iom_base.specs.declared.access.Access.{Access}
use Rattle.iom_machine.specs.declared.state.Attachment.{Attachment}
use Rattle.iom_machine.specs.declared.state.Attachment.TheVariants.{Detached, Attached, Quarantined, Leaving}
use Rattle.iom_machine.specs.declared.state.Device.{Device}
use Rattle.iom_base.specs.declared.mode.Mode.{Mode}
use Rattle.iom_base.specs.declared.mode.Mode.TheVariants.{First, Second, Both}
use Rattle.iom_machine.specs.declared.state.State.{State}
use Rattle.iom_machine.specs.Devices.{with_device}
use Rattle.iom_machine.specs.Refusals.{is_too_wide}

-- a device with these accesses in flight may have no more, where this is the most
abbrev pub IsBusy : {X : Type 0} → ℕ → List X → Type 0
IsBusy most in_flight = most ≤ length in_flight

-- the device holds the frame where the access is to, with a right that allows it
abbrev pub HoldsFor : History → ℕ → Access → ℕ → Type 0
HoldsFor history id access frame =
    (rights : Rights) × Holds history id (page_of access) (frame, rights) × (allows rights access.kind ≡ true)

-- the frame lingers there, with such a right
abbrev pub LingersFor : History → ℕ → Access → ℕ → Type 0
LingersFor history id access frame =
    (rights : Rights) × Lingers history id (page_of access) (frame, rights) × (allows rights access.kind ≡ true)

-- the device holds nothing there with such a right
abbrev pub HoldsNoneFor : History → ℕ → Access → Type 0
HoldsNoneFor history id access = (frame : ℕ) → ¬ HoldsFor history id access frame

-- translated in one stage: what is held is accepted on its frame; what lingers may be
abbrev pub MayAcceptInOneStage : History → ℕ → Access → ℕ → Type 0
MayAcceptInOneStage history id access frame =
    HoldsFor history id access frame ⊎ (HoldsNoneFor history id access × LingersFor history id access frame)

-- translated in one stage: what isn't held may fault, with the stage's page fault
abbrev pub MayFaultInOneStage : (AccessKind → Cause) → History → ℕ → Access → Cause → Type 0
MayFaultInOneStage fault_of history id access cause =
    HoldsNoneFor history id access × (cause ≡ fault_of access.kind)

-- the frame lingers at some page of the device, with a right that allows the kind
abbrev pub LingersSomewhere : History → ℕ → ℕ → AccessKind → Type 0
LingersSomewhere history id frame kind =
    (page : ℕ) × (rights : Rights) × Lingers history id page (frame, rights) × (allows rights kind ≡ true)

-- What the IOMMU still has of a device's former mode may serve the access on the frame: where no page counts as held, only what lingers. In both stages
-- the guest's own tables say which of its pages that is.
abbrev pub MayAcceptFormerly : Mode → History → ℕ → Access → ℕ → Type 0
MayAcceptFormerly (First size) history id access frame = LingersFor history id access frame
MayAcceptFormerly (Second size) history id access frame = LingersFor history id access frame
MayAcceptFormerly (Both size) history id access frame = LingersSomewhere history id frame access.kind

-- the cause is a page fault of the one stage or of the other
abbrev pub IsPageFaultOfEither : AccessKind → Cause → Type 0
IsPageFaultOfEither kind cause = (cause ≡ page_fault_of kind) ⊎ (cause ≡ guest_page_fault_of kind)

-- the cause is a page fault of the mode: of its stage, or, in both stages, of either
abbrev pub IsPageFaultOf : Mode → AccessKind → Cause → Type 0
IsPageFaultOf (First size) kind cause = cause ≡ page_fault_of kind
IsPageFaultOf (Second size) kind cause = cause ≡ guest_page_fault_of kind
IsPageFaultOf (Both size) kind cause = IsPageFaultOfEither kind cause

-- The cause where no device context is found (IOMMU specification, "Process to translate an IOVA"): the directory can't name the id, or its entry
-- isn't valid.
abbrev pub cause_without_context : State → ℕ → Cause
cause_without_context state id = if is_too_wide state id then TransactionTypeDisallowed else DirectoryEntryNotValid

-- a device that was quarantined under the ticket may be served as in its former mode until the ticket is confirmed
abbrev pub MayAcceptUnderTicket : ℕ → Mode → History → ℕ → Access → ℕ → Type 0
MayAcceptUnderTicket ticket mode history id access frame =
    (confirms history ticket ≡ false) × MayAcceptFormerly mode history id access frame

-- it may have no context at any time, and until then a page fault of its former mode
abbrev pub MayFaultUnderTicket : ℕ → Mode → State → ℕ → Access → Cause → Type 0
MayFaultUnderTicket ticket mode state id access cause =
    (cause ≡ cause_without_context state id) ⊎ ((confirms state.history ticket ≡ false) × IsPageFaultOf mode access.kind cause)

-- The IOMMU may accept the access, on the frame. In both stages that is any frame that the device may reach.
abbrev pub MayAccept : Attachment → State → ℕ → Access → ℕ → Type 0
MayAccept Detached state id access frame = ⊥
MayAccept (Attached (First size) ats) state id access frame = MayAcceptInOneStage state.history id access frame
MayAccept (Attached (Second size) ats) state id access frame = MayAcceptInOneStage state.history id access frame
MayAccept (Attached (Both size) ats) state id access frame = May state.history id frame access.kind
MayAccept (Quarantined ticket mode ats) state id access frame = MayAcceptUnderTicket ticket mode state.history id access frame
MayAccept (Leaving ticket mode ats) state id access frame = MayAcceptUnderTicket ticket mode state.history id access frame

-- the IOMMU may refuse the access, with the cause
abbrev pub MayFault : Attachment → State → ℕ → Access → Cause → Type 0
MayFault Detached state id access cause = cause ≡ cause_without_context state id
MayFault (Attached (First size) ats) state id access cause = MayFaultInOneStage page_fault_of state.history id access cause
MayFault (Attached (Second size) ats) state id access cause = MayFaultInOneStage guest_page_fault_of state.history id access cause
MayFault (Attached (Both size) ats) state id access cause = IsPageFaultOfEither access.kind cause
MayFault (Quarantined ticket mode ats) state id access cause = MayFaultUnderTicket ticket mode state id access cause
MayFault (Leaving ticket mode ats) state id access cause = MayFaultUnderTicket ticket mode state id access cause

-- the request comes before the IOMMU: it stays within its page, and the device, with these in flight, isn't busy
abbrev pub IsForwarded : {X : Type 0} → ℕ → List X → ℕ → ℕ → Type 0
IsForwarded most in_flight address len = FitsInPage address len × (¬ IsBusy most in_flight)

-- what a plugged device's request may be answered, on which frame
abbrev pub MayAnswer : State → Device → Access → ℕ → Outcome → Type 0
MayAnswer state device access frame BadSpan = ¬ IsWithinPage access
MayAnswer state device access frame Busy = IsWithinPage access × IsBusy state.limits.in_flight device.in_flight
MayAnswer state device access frame (Accepted number) =
    IsForwarded state.limits.in_flight device.in_flight access.address access.len × MayAccept device.attachment state device.id access frame × (number ≡ device.accepted + 1)
MayAnswer state device access frame (Fault cause) =
    IsForwarded state.limits.in_flight device.in_flight access.address access.len × MayFault device.attachment state device.id access cause
MayAnswer state device access frame _ = ⊥

-- the state, where one more access of the device is in flight
abbrev pub with_accepted : State → Device → Access → ℕ → State
with_accepted state device access frame = with_device state (record device {
  accepted = device.accepted + 1;
  in_flight = device.in_flight ++ record { access = access; frame = frame } ∷ [];
})

-- the state after this answer
abbrev pub state_after : State → Device → Access → ℕ → Outcome → State
state_after state device access frame (Accepted number) = with_accepted state device access frame
state_after state device access frame BadSpan = state
state_after state device access frame Busy = state
state_after state device access frame (Fault cause) = state
-- no other answer comes
state_after state device access frame _ = state
