-- The state after an answer to a device's access: it is accepted, or nothing changes.
use Rattle.std.proofs.Common.{◌≡◌, ◌∙◌, ◌+◌, ℕ, List, [], ◌∷◌, ◌++◌, slice_set, refl, sym}
use Rattle.iom_base.specs.Accesses.{at_frame}
use Rattle.iom_base.specs.declared.access.Access.{Access}
use Rattle.iom_ledger.specs.History.{History}
use Rattle.iom_machine.specs.declared.outcome.Outcome.{Outcome}
use Rattle.iom_machine.specs.declared.outcome.Outcome.TheVariants.{Accepted}
use Rattle.iom_machine.specs.declared.state.Device.{Device}
use Rattle.iom_machine.specs.declared.state.State.{State}
use Rattle.iom_machine.specs.Judging.{StandsAt}
use Rattle.iom_machine.specs.Requests.{MayAnswer, state_after, with_accepted}
use Rattle.iom_machine.specs.ThroughCache.{MayAnswerThroughCache, state_after_cached}
use Rattle.iom_kept_state.specs.declared.state.KeptState.{KeptState}
use Rattle.iom_kept_state.specs.States.{state_of}

-- the device, where one more access of it is in flight, with this number
abbrev pub accepted_as : Device → ℕ → Access → ℕ → Device
accepted_as device number access frame = record device {
  accepted = number;
  in_flight = device.in_flight ++ record { access = access; frame = frame } ∷ [];
}

accepted_state : (kept : KeptState) (h : History) (device : Device) (place number : ℕ) (access : Access) (frame : ℕ) (devices : List Device)
    → StandsAt kept.devices device.id place → number ≡ device.accepted + 1 → devices ≡ slice_set kept.devices place (accepted_as device number access frame)
    → state_of (record kept { devices = devices }) h ≡ with_accepted (state_of kept h) device access frame
accepted_state kept h device place number access frame devices own next put =
    let here = own.2 (accepted_as device (device.accepted + 1) access frame) in rw ((rw next at put) ∙ sym here) refl

-- what an accepted request leaves
pub accepted_so : (kept : KeptState) (h : History) (device : Device) (place number : ℕ) (access : Access) (frame : ℕ) (devices : List Device) (outcome : Outcome)
    → outcome ≡ Accepted number → StandsAt kept.devices device.id place → MayAnswer (state_of kept h) device access frame outcome
    → devices ≡ slice_set kept.devices place (accepted_as device number access frame)
    → state_of (record kept { devices = devices }) h ≡ state_after (state_of kept h) device access frame outcome
accepted_so kept h device place number access frame devices outcome is own may put =
    rw is (accepted_state kept h device place number access frame devices own (rw is at may).2 put)

-- what an accepted access through the cache leaves
pub cached_so : (kept : KeptState) (h : History) (device : Device) (place number : ℕ) (access sent : Access) (frame : ℕ) (devices : List Device) (outcome : Outcome)
    → outcome ≡ Accepted number → StandsAt kept.devices device.id place → MayAnswerThroughCache (state_of kept h) device access frame outcome
    → sent ≡ at_frame frame access → devices ≡ slice_set kept.devices place (accepted_as device number sent frame)
    → state_of (record kept { devices = devices }) h ≡ state_after_cached (state_of kept h) device access frame outcome
cached_so kept h device place number access sent frame devices outcome is own may sent_is put =
    rw is (accepted_state kept h device place number (at_frame frame access) frame devices own (rw is at may).2 (rw sent_is at put))

-- any other answer leaves the state as it is
pub stays_so : (state : State) (device : Device) (access : Access) (frame : ℕ) (outcome : Outcome) → ((number : ℕ) → ¬ (outcome ≡ Accepted number))
    → state ≡ state_after state device access frame outcome
stays_so state device access frame (Accepted number) never = absurd (never number refl)
stays_so state device access frame _ never = refl

pub stays_cached : (state : State) (device : Device) (access : Access) (frame : ℕ) (outcome : Outcome) → ((number : ℕ) → ¬ (outcome ≡ Accepted number))
    → state ≡ state_after_cached state device access frame outcome
stays_cached state device access frame (Accepted number) never = absurd (never number refl)
stays_cached state device access frame _ never = refl
