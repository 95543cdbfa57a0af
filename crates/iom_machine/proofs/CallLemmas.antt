-- Calls of the driver that are lawful.
use Rattle.std.proofs.Common.{◌≡◌, ◌↔◌, ℕ, suc, ◌+◌, ◌-◌, ◌++◌, ap, Bool, false, List, ◌∷◌, All, Option, None, Some, is_some, slice_get, slice_set, refl, sym, ◌∙◌, subst}
use Rattle.std.proofs.lemmas.List.Elements.{All-append}
use Rattle.iom_base.specs.declared.grant_rights.GrantRights.{GrantRights}
use Rattle.iom_ledger.specs.declared.entry.HistoryEntry.TheVariants as entries
use Rattle.iom_base.specs.declared.refusal.Refusal.{Refusal}
use Rattle.iom_ledger.specs.History.{History, confirmed_from}
use Rattle.iom_base.specs.GrantRights.{rights_of}
use Rattle.iom_machine.specs.declared.outcome.Outcome.TheVariants.{Done, Ticket, Confirmed}
use Rattle.iom_machine.specs.declared.state.Attachment.TheVariants.{Attached}
use Rattle.iom_machine.specs.declared.state.Device.{Device}
use Rattle.iom_machine.specs.declared.state.Frame.{Frame}
use Rattle.iom_base.specs.declared.mode.Mode.{Mode}
use Rattle.iom_base.specs.declared.owner.Owner.TheVariants.{System, OneDevice}
use Rattle.iom_machine.specs.declared.state.State.{State}
use Rattle.iom_machine.specs.Frames.{IsFree, IsFreeBesides, reserved_for}
use Rattle.iom_machine.specs.Devices.{device_of, with_device, DeviceMay, EachInFlightMay}
use Rattle.iom_machine.specs.Tickets.{MayConfirm, with_confirmed}
use Rattle.iom_base.specs.Refusals.{NoneApplies}
use Rattle.iom_machine.specs.Refusals.{attach_reasons, detach_reasons, grant_reasons, quarantine_reasons, revive_reasons}
use Rattle.iom_machine.specs.Judging.{StandsAt}
use Rattle.iom_machine.specs.Machine.{Attaches, Detaches, Grants, Quarantines, Revives, Polls}
use Rattle.iom_machine.specs.Leaving.{leaving_under, with_left}
use Rattle.iom_machine.specs.Quarantining.{quarantined_under, attached_again}
use Rattle.iom_machine.proofs.LeavingLemmas.{devices_may, All-parts}
use Rattle.iom_machine.proofs.FrameLemmas.{free_besides_none}
use Rattle.iom_machine.proofs.StepLemmas.{only_state, some_state, no_state, own_place}

pub none_if_not_some : (o : Option Refusal) → is_some o ≡ false → o ≡ None
none_if_not_some None e = refl
none_if_not_some (Some x) e = cc

pub granted_as : (taken : List ℕ) (old : State) (id page frame : ℕ) (rights : GrantRights) (history : History) (frames : List Frame)
    → NoneApplies (grant_reasons old id page frame) → All (IsFreeBesides old (Some frame)) taken
    → history ≡ entries.Granted id page frame (rights_of rights) ∷ old.history → frames ≡ reserved_for (OneDevice id) taken old.frames
    → (new : State) → (◌≡◌ {A = Option State} (Some (record { limits = old.limits; levels = old.levels; frames = frames; history = history; last_ticket = old.last_ticket; devices = old.devices; disks = old.disks })) (Some new)) ↔ Grants taken old id page frame rights Done new
granted_as taken old id page frame rights history frames none free h f new =
    let next : State = record { limits = old.limits; levels = old.levels; frames = frames; history = history; last_ticket = old.last_ticket; devices = old.devices; disks = old.disks } in
    let is : next ≡ record old { history = entries.Granted id page frame (rights_of rights) ∷ old.history; frames = reserved_for (OneDevice id) taken old.frames } = rw (h, f) refl in (
      (λ same. (none, free, sym (only_state next new same) ∙ is)),
      (λ step. some_state next new (is ∙ sym step.2)),
    )

-- the state after an attach
abbrev pub attached_state : (pages taken : List ℕ) → State → ℕ → Mode → Bool → Device → State
attached_state pages taken old id mode ats device =
    record (with_device old (record device { attachment = Attached mode ats })) { frames = reserved_for (OneDevice id) taken (reserved_for System pages old.frames) }

pub attached_as : (pages taken : List ℕ) (old : State) (id : ℕ) (mode : Mode) (ats : Bool) (place : ℕ) (device : Device) (devices : List Device) (frames : List Frame)
    → NoneApplies (attach_reasons old id ats) → All (IsFree old) (pages ++ taken) → StandsAt old.devices id place → slice_get old.devices place ≡ Some device
    → devices ≡ slice_set old.devices place (record device { attachment = Attached mode ats }) → frames ≡ reserved_for (OneDevice id) taken (reserved_for System pages old.frames)
    → (new : State) → (◌≡◌ {A = Option State} (Some (record { limits = old.limits; levels = old.levels; frames = frames; history = old.history; last_ticket = old.last_ticket; devices = devices; disks = old.disks })) (Some new)) ↔ Attaches pages taken old id mode ats Done new
attached_as pages taken old id mode ats place device devices frames none free is_place at d f new =
    let next : State = record { limits = old.limits; levels = old.levels; frames = frames; history = old.history; last_ticket = old.last_ticket; devices = devices; disks = old.disks } in
    let own = own_place old.devices id place device is_place at in
    let now : Device = record device { attachment = Attached mode ats } in
    let is : next ≡ attached_state pages taken old id mode ats device = rw (d, f, own.2 now) refl in
    let there : device_of old id ≡ Some device = is_place.1 ∙ at in (
      (λ same. (none, free, rw there (sym (only_state next new same) ∙ is))),
      (λ step. let left = rw there at step.2 in some_state next new (is ∙ sym left)),
    )

pub not_attached_as : (pages taken : List ℕ) (old : State) (id : ℕ) (mode : Mode) (ats : Bool) → ¬ All (IsFree old) (pages ++ taken)
    → (new : State) → (◌≡◌ {A = Option State} None (Some new)) ↔ Attaches pages taken old id mode ats Done new
not_attached_as pages taken old id mode ats never new = ((λ same. absurd (no_state new same)), (λ step. absurd (never step.1)))

-- both lists are of free frames
pub both_free : (state : State) (pages taken : List ℕ) → All (IsFreeBesides state None) pages → All (IsFreeBesides state None) taken → All (IsFree state) (pages ++ taken)
both_free state pages taken these those =
    All-append (IsFree state) pages taken ((free_besides_none state pages).0 these) ((free_besides_none state taken).0 those)

pub each_free : (state : State) (pages taken : List ℕ) → All (IsFree state) (pages ++ taken) → All (IsFreeBesides state None) pages × All (IsFreeBesides state None) taken
each_free state pages taken all =
    let parts = All-parts (IsFree state) pages taken all in ((free_besides_none state pages).1 parts.0, (free_besides_none state taken).1 parts.1)

-- the state after a detach
abbrev pub detached_state : ℕ → State → Device → State
detached_state ticket old device = record (with_device old (record device { has_disk = false; attachment = leaving_under ticket device.attachment })) { last_ticket = ticket }

pub detached_as : (ticket : ℕ) (old : State) (id place : ℕ) (device : Device) (devices : List Device)
    → NoneApplies (detach_reasons old id) → ticket ≡ old.last_ticket + 1 → StandsAt old.devices id place → slice_get old.devices place ≡ Some device
    → devices ≡ slice_set old.devices place (record device { has_disk = false; attachment = leaving_under ticket device.attachment })
    → (new : State) → (◌≡◌ {A = Option State} (Some (record { limits = old.limits; levels = old.levels; frames = old.frames; history = old.history; last_ticket = ticket; devices = devices; disks = old.disks })) (Some new)) ↔ Detaches old id (Ticket ticket) new
detached_as ticket old id place device devices none next_one is_place at d new =
    let next : State = record { limits = old.limits; levels = old.levels; frames = old.frames; history = old.history; last_ticket = ticket; devices = devices; disks = old.disks } in
    let own = own_place old.devices id place device is_place at in
    let now : Device = record device { has_disk = false; attachment = leaving_under ticket device.attachment } in
    let is : next ≡ detached_state ticket old device = rw (d, own.2 now) refl in
    let there : device_of old id ≡ Some device = is_place.1 ∙ at in (
      (λ same. (none, next_one, rw there (sym (only_state next new same) ∙ is))),
      (λ step. let left = rw there at step.2 in some_state next new (is ∙ sym left)),
    )

-- the state after a quarantine
abbrev pub quarantined_state : ℕ → ℕ → State → Device → State
quarantined_state ticket id old device = record (with_device old (record device { attachment = quarantined_under ticket device.attachment })) {
  history = entries.AllReleased id ticket ∷ old.history;
  last_ticket = ticket;
}

pub quarantined_as : (ticket : ℕ) (old : State) (id place : ℕ) (device : Device) (history : History) (devices : List Device)
    → NoneApplies (quarantine_reasons old id) → ticket ≡ old.last_ticket + 1 → StandsAt old.devices id place → slice_get old.devices place ≡ Some device
    → history ≡ entries.AllReleased id ticket ∷ old.history → devices ≡ slice_set old.devices place (record device { attachment = quarantined_under ticket device.attachment })
    → (new : State) → (◌≡◌ {A = Option State} (Some (record { limits = old.limits; levels = old.levels; frames = old.frames; history = history; last_ticket = ticket; devices = devices; disks = old.disks })) (Some new)) ↔ Quarantines old id (Ticket ticket) new
quarantined_as ticket old id place device history devices none next_one is_place at h d new =
    let next : State = record { limits = old.limits; levels = old.levels; frames = old.frames; history = history; last_ticket = ticket; devices = devices; disks = old.disks } in
    let own = own_place old.devices id place device is_place at in
    let now : Device = record device { attachment = quarantined_under ticket device.attachment } in
    let is : next ≡ quarantined_state ticket id old device = rw (h, d, own.2 now) refl in
    let there : device_of old id ≡ Some device = is_place.1 ∙ at in (
      (λ same. (none, next_one, rw there (sym (only_state next new same) ∙ is))),
      (λ step. let left = rw there at step.2 in some_state next new (is ∙ sym left)),
    )

-- the state after a revival
pub revived_as : (old : State) (id place : ℕ) (device : Device) (devices : List Device)
    → NoneApplies (revive_reasons old id) → StandsAt old.devices id place → slice_get old.devices place ≡ Some device
    → devices ≡ slice_set old.devices place (record device { attachment = attached_again device.attachment })
    → (new : State) → (◌≡◌ {A = Option State} (Some (record { limits = old.limits; levels = old.levels; frames = old.frames; history = old.history; last_ticket = old.last_ticket; devices = devices; disks = old.disks })) (Some new)) ↔ Revives old id Done new
revived_as old id place device devices none is_place at d new =
    let next : State = record { limits = old.limits; levels = old.levels; frames = old.frames; history = old.history; last_ticket = old.last_ticket; devices = devices; disks = old.disks } in
    let own = own_place old.devices id place device is_place at in
    let now : Device = record device { attachment = attached_again device.attachment } in
    let is : next ≡ with_device old now = rw (d, own.2 now) refl in
    let there : device_of old id ≡ Some device = is_place.1 ∙ at in (
      (λ same. (none, rw there (sym (only_state next new same) ∙ is))),
      (λ step. let left = rw there at step.1 in some_state next new (is ∙ sym left)),
    )

-- the state after a poll
pub confirmed_as : (returned : List ℕ) (old : State) (first last : ℕ) (timed_out : Bool) (history : History) → MayConfirm old first last → history ≡ confirmed_from first (suc (last - first)) old.history
    → All (DeviceMay history) old.devices
    → (next : State) → next ≡ with_left (record { limits = old.limits; levels = old.levels; frames = old.frames; history = history; last_ticket = old.last_ticket; devices = old.devices; disks = old.disks })
    → (new : State) → (◌≡◌ {A = Option State} (Some next) (Some new)) ↔ Polls returned old (Confirmed first last timed_out) new
confirmed_as returned old first last timed_out history tickets extended may next left new =
    let confirmed : State = record { limits = old.limits; levels = old.levels; frames = old.frames; history = history; last_ticket = old.last_ticket; devices = old.devices; disks = old.disks } in
    let was : confirmed ≡ with_confirmed old first last = rw extended refl in
    let is : next ≡ with_left (with_confirmed old first last) = left ∙ ap with_left was in
    let may_next : EachInFlightMay next = subst EachInFlightMay (sym left) ((devices_may history old.devices).0 may) in (
      (λ same. (tickets, sym (only_state next new same) ∙ is, subst EachInFlightMay (only_state next new same) may_next)),
      (λ step. some_state next new (is ∙ sym step.1)),
    )

pub not_confirmed_as : (returned : List ℕ) (old : State) (first last : ℕ) (timed_out : Bool) (history : History) → history ≡ confirmed_from first (suc (last - first)) old.history → ¬ All (DeviceMay history) old.devices
    → (new : State) → (◌≡◌ {A = Option State} None (Some new)) ↔ Polls returned old (Confirmed first last timed_out) new
not_confirmed_as returned old first last timed_out history extended never new = (
  (λ same. absurd (no_state new same)),
  (λ step. absurd (never (subst (λ h. All (DeviceMay h) old.devices) (sym extended)
      ((devices_may (with_confirmed old first last).history old.devices).1 (subst EachInFlightMay step.1 step.2))))),
)
