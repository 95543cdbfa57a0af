-- What may come of an access through the device's own cache of translations.
use Rattle.std.specs.Prelude.{◌≡◌, ℕ, ◌+◌, ◌⊎◌}
use Rattle.iom_base.specs.declared.access.Access.{Access}
use Rattle.iom_base.specs.declared.mode.Mode.TheVariants.{First, Second, Both}
use Rattle.iom_base.specs.Accesses.{IsWithinPage, at_frame}
use Rattle.iom_ledger.specs.History.{History, May}
use Rattle.iom_machine.specs.declared.outcome.Outcome.{Outcome}
use Rattle.iom_machine.specs.declared.outcome.Outcome.TheVariants.{Accepted, Busy, BadSpan, Fault, Miss}
use Rattle.iom_machine.specs.declared.state.Attachment.{Attachment}
use Rattle.iom_machine.specs.declared.state.Attachment.TheVariants.{Detached, Attached, Quarantined, Leaving}
use Rattle.iom_machine.specs.declared.state.Device.{Device}
use Rattle.iom_machine.specs.declared.state.State.{State}
use Rattle.iom_machine.specs.Requests.{IsBusy, IsForwarded, HoldsFor, LingersFor, MayAcceptUnderTicket, with_accepted}
use Rattle.iom_machine.specs.Translated.{MayFindNoContext}

-- a cache may have what is held at the page, and what lingers there
abbrev pub MayHaveCached : History → ℕ → Access → ℕ → Type 0
MayHaveCached history id access frame = HoldsFor history id access frame ⊎ LingersFor history id access frame

-- The access may go through, on the frame. In both stages that is any frame that the device may reach.
abbrev pub MayGoThrough : Attachment → State → ℕ → Access → ℕ → Type 0
MayGoThrough Detached state id access frame = ⊥
MayGoThrough (Attached (First size) ats) state id access frame = MayHaveCached state.history id access frame
MayGoThrough (Attached (Second size) ats) state id access frame = MayHaveCached state.history id access frame
MayGoThrough (Attached (Both size) ats) state id access frame = May state.history id frame access.kind
MayGoThrough (Quarantined ticket mode ats) state id access frame = MayAcceptUnderTicket ticket mode state.history id access frame
MayGoThrough (Leaving ticket mode ats) state id access frame = MayAcceptUnderTicket ticket mode state.history id access frame

-- What may come of a plugged device's access through its cache, on which frame. Whatever the device may do, its cache need not have it.
abbrev pub MayAnswerThroughCache : State → Device → Access → ℕ → Outcome → Type 0
MayAnswerThroughCache state device access frame BadSpan = ¬ IsWithinPage access
MayAnswerThroughCache state device access frame Busy = IsWithinPage access × IsBusy state.limits.in_flight device.in_flight
MayAnswerThroughCache state device access frame Miss = IsForwarded state.limits.in_flight device.in_flight access.address access.len
MayAnswerThroughCache state device access frame (Accepted number) =
    IsForwarded state.limits.in_flight device.in_flight access.address access.len × MayGoThrough device.attachment state device.id access frame
    × (number ≡ device.accepted + 1)
MayAnswerThroughCache state device access frame (Fault cause) =
    IsForwarded state.limits.in_flight device.in_flight access.address access.len × MayFindNoContext state device cause
MayAnswerThroughCache state device access frame _ = ⊥

-- the state after it: what is in flight is the access at its physical address
abbrev pub state_after_cached : State → Device → Access → ℕ → Outcome → State
state_after_cached state device access frame (Accepted number) = with_accepted state device (at_frame frame access) frame
state_after_cached state device access frame BadSpan = state
state_after_cached state device access frame Busy = state
state_after_cached state device access frame Miss = state
state_after_cached state device access frame (Fault cause) = state
-- no other answer comes
state_after_cached state device access frame _ = state
