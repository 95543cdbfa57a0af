-- Devices that share a domain: each is granted and releases the same pages, and all have the tables of the first of them.
use Rattle.std.specs.Prelude.{◌≡◌, ◌≢◌, ◌&&◌, ℕ, Bool, true, false, List, All, Option, None, Some, IsTrue, if◌then◌else◌, map, nat_eq}
use Rattle.std.specs.List.{filter}
use Rattle.std.specs.Option.{option_map_or}
use Rattle.iom_ledger.specs.History.{History, confirms, held_at}
use Rattle.iom_machine.specs.declared.event.Event.{Event}
use Rattle.iom_machine.specs.declared.event.Event.TheVariants as events
use Rattle.iom_machine.specs.declared.outcome.Outcome.{Outcome}
use Rattle.iom_machine.specs.declared.outcome.Outcome.TheVariants as outcomes
use Rattle.iom_machine.specs.declared.state.Attachment.{Attachment}
use Rattle.iom_machine.specs.declared.state.Attachment.TheVariants.{Detached, Attached, Quarantined, Leaving}
use Rattle.iom_machine.specs.declared.state.Device.{Device}
use Rattle.iom_machine.specs.Refusals.{attachment_of, is_attached, mode_at}
use Rattle.iom_machine.specs.Returning.{NothingLingers}
use Rattle.iom_judge.specs.TraceStates.{TraceState}

-- whether it is this one
abbrev pub is_this : Option ℕ → ℕ → Bool
is_this None one = false
is_this (Some it) one = nat_eq it one

-- the devices that have the domain of this first one, and are attached
abbrev pub sharers : (ℕ → Option ℕ) → List Device → ℕ → List ℕ
sharers first_with devices first =
    map (λ device. device.id) (filter (λ device. is_this (first_with device.id) first && is_attached device.attachment) devices)

-- whether a device that is so attached walks in no table any more: it is detached, or quarantined, and that is confirmed
abbrev pub is_gone : History → Attachment → Bool
is_gone history Detached = true
is_gone history (Attached mode ats) = false
is_gone history (Quarantined ticket mode ats) = confirms history ticket
is_gone history (Leaving ticket mode ats) = false

-- no device that has the domain of this first one may still walk in its tables
abbrev pub NoneWalks : (ℕ → Option ℕ) → History → List Device → ℕ → Type 0
NoneWalks first_with history devices first =
    All (λ device. IsTrue (is_this (first_with device.id) first) → is_gone history device.attachment ≡ true) devices

-- the device whose tables go back by this, at once or when a ticket is confirmed, or that is attached anew
abbrev pub tables_end : Event → Outcome → Option ℕ
tables_end (events.Detach id) (outcomes.Ticket ticket) = Some id
tables_end (events.Revive id) outcomes.Done = Some id
tables_end _ _ = None

-- the device that gets a domain of its own by this
abbrev pub own_domain : Event → Outcome → Option ℕ
own_domain (events.Attach id mode ats) outcomes.Done = Some id
own_domain (events.Revive id) outcomes.Done = Some id
own_domain _ _ = None

-- The device may have the domain of this first one: both are attached in one mode and hold the same, and all that the first one released is confirmed, since
-- what the IOMMU still has of it serves each device of the domain. A world is needed in which releases may share a ticket.
pub record MayShare (state : TraceState) (device first : ℕ) : Type 0 where
  pub unlimited : state.machine.limits.in_order ≡ false
  pub another : device ≢ first
  pub first_itself : state.first_with first ≡ None
  pub attached : is_attached (attachment_of state.machine first) ≡ true
  pub mode : mode_at (attachment_of state.machine device) ≡ mode_at (attachment_of state.machine first)
  pub same : (page : ℕ) → held_at state.machine.history device page ≡ held_at state.machine.history first page
  pub settled : NothingLingers state.machine first

-- the first device of the domain that the device has
abbrev pub first_of : TraceState → ℕ → ℕ
first_of state device = option_map_or (λ first. first) (state.first_with device) device

-- the device has the domain of the other one from here on
pub record GetsDomain (old : TraceState) (device with : ℕ) (new : TraceState) : Type 0 where
  pub may : MayShare old device (first_of old with)
  pub member : is_attached (attachment_of old.machine with) ≡ true
  pub machine : new.machine ≡ old.machine
  pub given : (k : ℕ) → new.is_given k ≡ old.is_given k
  pub takes_back : new.takes_back ≡ old.takes_back
  pub domains : (k : ℕ) → new.first_with k ≡ (if nat_eq device k then Some (first_of old with) else old.first_with k)
