-- The next state, where a step may come.
use Rattle.std.proofs.Common.{◌≡◌, ◌↔◌, ◌∙◌, ◌-◌, ℕ, suc, Bool, List, [], ◌∷◌, ◌++◌, All, Option, Some, refl, sym, ap, subst}
use Rattle.iom_base.specs.declared.device_kind.NewDevice.{NewDevice}
use Rattle.iom_base.specs.DeviceKinds.{disk_of}
use Rattle.iom_base.specs.Disks.{without_disk}
use Rattle.iom_ledger.specs.declared.entry.HistoryEntry.TheVariants as entries
use Rattle.iom_ledger.specs.History.{History, confirmed_from}
use Rattle.iom_base.specs.Refusals.{NoneApplies}
use Rattle.iom_machine.specs.declared.outcome.Outcome.TheVariants.{Done, Ticket, Confirmed}
use Rattle.iom_machine.specs.declared.state.Device.{Device}
use Rattle.iom_machine.specs.declared.state.Frame.{Frame}
use Rattle.iom_machine.specs.declared.state.State.{State}
use Rattle.iom_machine.specs.Devices.{DeviceMay}
use Rattle.iom_machine.specs.Leaving.{with_left}
use Rattle.iom_machine.specs.Machine.{Plugs, plugged_device, Releases, Polls}
use Rattle.iom_machine.specs.Refusals.{plug_reasons, release_reasons}
use Rattle.iom_machine.specs.Tickets.{MayConfirm, MayTakeTicket}
use Rattle.iom_machine.proofs.CallLemmas.{confirmed_as, not_confirmed_as}
use Rattle.iom_machine.proofs.StepLemmas.{no_state}
use Rattle.iom_kept_state.specs.declared.state.KeptState.{KeptState}
use Rattle.iom_kept_state.specs.Frames.{frames_in}
use Rattle.iom_kept_state.specs.States.{state_of}
use Rattle.iom_machine_judge.proofs.LeftLemmas.{leaves_as}

-- a state with the limits, the levels and the disks of what is kept
abbrev pub next_state : KeptState → List Frame → History → ℕ → List Device → State
next_state old frames history ticket devices = record {
  limits = old.limits;
  levels = old.levels;
  frames = frames;
  history = history;
  last_ticket = ticket;
  devices = devices;
  disks = old.disks;
}

-- the next state, whose last ticket is told
pub given_as : (old : KeptState) (frames : List Frame) (history : History) (ticket reply : ℕ) (devices : List Device) (Q : State → Type 0) → reply ≡ ticket
    → ((new : State) → (◌≡◌ {A = Option State} (Some (next_state old frames history ticket devices)) (Some new)) ↔ Q new)
    → (after : State) → (after ≡ next_state old frames history reply devices) ↔ Q after
given_as old frames history ticket reply devices Q is decides =
    subst (λ n. (after : State) → (after ≡ next_state old frames history n devices) ↔ Q after) (sym is) (leaves_as (next_state old frames history ticket devices) Q decides)

-- after a plug
pub plugged_as : (old : KeptState) (id : ℕ) (what : NewDevice) (h : History) (devices : List Device) (disks : List ℕ) → NoneApplies (plug_reasons (state_of old h) id what)
    → devices ≡ old.devices ++ plugged_device id what ∷ [] → disks ≡ without_disk (disk_of what) old.disks
    → (after : State) → (after ≡ record (state_of old h) { devices = devices; disks = disks }) ↔ Plugs (state_of old h) id what Done after
plugged_as old id what h devices disks none d k after =
    let same_state : record (state_of old h) { devices = devices; disks = disks }
    ≡ record (state_of old h) { devices = old.devices ++ plugged_device id what ∷ []; disks = without_disk (disk_of what) old.disks } = rw (d, k) refl in
    ((λ same. (none, same ∙ same_state)), (λ step. step.1 ∙ sym same_state))

-- after a release
pub released_as : (old : KeptState) (id page ticket reply : ℕ) (h : History) → NoneApplies (release_reasons (state_of old h) id page) → MayTakeTicket (state_of old h) ticket → reply ≡ ticket
    → (after : State) → (after ≡ next_state old (frames_in old.frames) (entries.Released id page ticket ∷ h) reply old.devices) ↔ Releases (state_of old h) id page (Ticket ticket) after
released_as old id page ticket reply h none takes is after =
    let same_state : next_state old (frames_in old.frames) (entries.Released id page ticket ∷ h) reply old.devices ≡ next_state old (frames_in old.frames) (entries.Released id page ticket ∷ h) ticket old.devices =
    ap (λ n. next_state old (frames_in old.frames) (entries.Released id page ticket ∷ h) n old.devices) is in
    ((λ same. (none, takes, same ∙ same_state)), (λ step. step.2 ∙ sym same_state))

-- the history, once the tickets from the first to the last are confirmed
abbrev pub history_once : ℕ → ℕ → History → History
history_once first last h = confirmed_from first (suc (last - first)) h

-- after a poll that confirms
pub polled_as : (returned : List ℕ) (old : KeptState) (given first last : ℕ) (timed_out : Bool) (h : History) (next : State)
    → MayConfirm (state_of old h) first last → given ≡ old.grants.given
    → All (DeviceMay (history_once first last h)) old.devices
    → next ≡ with_left (next_state old (frames_in old.frames) (history_once first last h) given old.devices)
    → (after : State) → (after ≡ next) ↔ Polls returned (state_of old h) (Confirmed first last timed_out) after
polled_as returned old given first last timed_out h next tickets same_given may left =
    leaves_as next (λ after. Polls returned (state_of old h) (Confirmed first last timed_out) after)
    (confirmed_as returned (state_of old h) first last timed_out (history_once first last h) tickets refl may next
    (left ∙ ap (λ n. with_left (next_state old (frames_in old.frames) (history_once first last h) n old.devices)) same_given))

pub not_polled_as : (returned : List ℕ) (old : KeptState) (first last : ℕ) (timed_out : Bool) (h : History) (after : State)
    → ¬ All (DeviceMay (history_once first last h)) old.devices → ¬ Polls returned (state_of old h) (Confirmed first last timed_out) after
not_polled_as returned old first last timed_out h after never step =
    no_state after ((not_confirmed_as returned (state_of old h) first last timed_out (history_once first last h) refl never after).1 step)
