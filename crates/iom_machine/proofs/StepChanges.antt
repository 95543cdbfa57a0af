-- How a step changes the state. Each event, with each outcome, is looked at here, once: what is a law of every step goes by these few cases.
use Rattle.std.proofs.Common.{◌≡◌, ℕ, suc, ◌+◌, ◌-◌, ◌≤◌, ◌<◌, ◌/◌, ◌%◌, ◌==◌, ◌⊎◌, inl, inr, Bool, true, false, cond, List, [], ◌∷◌, ◌++◌, length, map, drop, Option, None, Some, if◌then◌else◌, slice_get, refl, sym, ap, ◌∙◌, subst, arith}
use Rattle.std.specs.Option.{option_map_or}
use Rattle.std.proofs.lemmas.Bool.{eq-eqb}
use Rattle.iom_base.specs.declared.access.Access.{Access}
use Rattle.iom_base.specs.declared.access.AcceptedAccess.{AcceptedAccess}
use Rattle.iom_base.specs.declared.access.AccessKind.TheVariants as kinds
use Rattle.iom_base.specs.declared.device_kind.NewDevice.{NewDevice}
use Rattle.iom_base.specs.declared.owner.Owner.{Owner}
use Rattle.iom_base.specs.declared.owner.Owner.TheVariants.{System, OneDevice}
use Rattle.iom_base.specs.declared.rights.Rights.{Rights}
use Rattle.iom_base.specs.Accesses.{read_of, write_of, offset_of, at_frame, MayWant}
use Rattle.iom_base.specs.DeviceKinds.{has_cache, is_any_kind, is_block_device, sends_through_cache, sends_untranslated}
use Rattle.iom_base.specs.GrantRights.{rights_of}
use Rattle.iom_base.specs.Refusals.{NoneApplies}
use Rattle.iom_ledger.specs.declared.entry.HistoryEntry.TheVariants as entries
use Rattle.iom_ledger.specs.History.{History, May, held_at, confirmed_from}
use Rattle.iom_machine.specs.declared.event.Event.{Event}
use Rattle.iom_machine.specs.declared.event.Event.TheVariants as events
use Rattle.iom_machine.specs.declared.outcome.Outcome.{Outcome}
use Rattle.iom_machine.specs.declared.outcome.Outcome.TheVariants.{Done, Refused, Ticket, Confirmed, NoneConfirmed, Record, NoRecord, Fetched, TimedOut, NoEffect, Accepted, Busy, BadSpan, Fault, Miss, Read, Wrote, NothingInFlight, Bytes, Free, Stepped}
use Rattle.iom_machine.specs.declared.state.Device.{Device}
use Rattle.iom_machine.specs.declared.state.State.{State}
use Rattle.iom_machine.specs.BlockDevices.{Inserts, IsAnswered, TakesStep}
use Rattle.iom_machine.specs.Devices.{device_of, replaced_device, EachInFlightMay}
use Rattle.iom_machine.specs.Disks.{disks_after}
use Rattle.iom_machine.specs.Frames.{reserved_for, stored}
use Rattle.iom_machine.specs.Headline.{GrantsFrameTo}
use Rattle.iom_machine.specs.Laws.{Asked, IsSentOf}
use Rattle.iom_machine.specs.Leaving.{device_once_confirmed, given_back, is_of_left, leaving_under}
use Rattle.iom_machine.specs.Machine.{Requests, RequestsThroughCache, InsertsDisk, Steps, Makes, Commits, Step, plugged_device}
use Rattle.iom_machine.specs.Refusals.{plug_reasons}
use Rattle.iom_machine.specs.Requests.{IsBusy, MayAnswer, state_after, with_accepted}
use Rattle.iom_machine.specs.Returning.{frames_returned}
use Rattle.iom_machine.specs.ThroughCache.{MayAnswerThroughCache, state_after_cached}
use Rattle.iom_machine.specs.Tickets.{with_confirmed, IsLastPending, MayConfirm, MayTakeTicket}
use Rattle.iom_virtqueue.specs.Layouts.{layout_of}
use Rattle.iom_machine.proofs.AskedLemmas.{accepted_by, asked_by, asked_of, asked_through_cache, asked_untranslated, made_by}
use Rattle.iom_machine.proofs.InFlightLemmas.{IsWhole, NamesItsBytes, StillMay, accepted_reach, act_cases, found_device, read_names, same-asks, same-delivers, same-drops, same-forges, same-repeats, same-resets, same-sets_queue, same-tells_status, same-translated, some_case, wanted_names, went_through_reach, within_frame, write_names}
use Rattle.iom_machine.proofs.ReasonLemmas.{grant_finds_nothing, grant_in_memory}

-- nothing of the device is accepted or made
abbrev pub NothingFlows : Event → Outcome → ℕ → Type 0
NothingFlows event outcome id = (accepted_by event outcome id ≡ []) × (made_by event outcome id ≡ 0)

-- nothing of any device is, and no disk is put into one
pub record IsQuiet (event : Event) (outcome : Outcome) : Type 0 where
  pub flows : (id : ℕ) → NothingFlows event outcome id
  pub disks : (all : List ℕ) → disks_after event outcome all ≡ all

-- THE LEDGER: history and tickets
abbrev pub SameLedger : State → State → Type 0
SameLedger old new = (new.history ≡ old.history) × (new.last_ticket ≡ old.last_ticket)

-- the ticket is the next one, or the last, and isn't confirmed
abbrev pub TakesTicket : State → ℕ → Type 0
TakesTicket old ticket = (ticket ≡ old.last_ticket + 1) ⊎ IsLastPending old ticket

pub data LedgerChange (event : Event) (outcome : Outcome) (old new : State) : Type 0 where
  ledger_stays : SameLedger old new → LedgerChange event outcome old new
  grants : (id page frame : ℕ) (rights : Rights) → GrantsFrameTo event outcome id frame → frame < length old.frames → held_at old.history id page ≡ None
      → new.history ≡ entries.Granted id page frame rights ∷ old.history → new.last_ticket ≡ old.last_ticket → LedgerChange event outcome old new
  detaches : new.history ≡ old.history → new.last_ticket ≡ old.last_ticket + 1 → LedgerChange event outcome old new
  releases : (id page : ℕ) → new.history ≡ entries.Released id page new.last_ticket ∷ old.history → TakesTicket old new.last_ticket → LedgerChange event outcome old new
  releases_all : (id : ℕ) → new.history ≡ entries.AllReleased id new.last_ticket ∷ old.history → new.last_ticket ≡ old.last_ticket + 1 → LedgerChange event outcome old new
  confirms_some : (first n : ℕ) → first + n ≤ old.last_ticket + 1 → new.history ≡ confirmed_from first n old.history → new.last_ticket ≡ old.last_ticket
      → EachInFlightMay new → LedgerChange event outcome old new

-- ONE DEVICE, which is so now
pub data DeviceChange (event : Event) (outcome : Outcome) (old : State) (id : ℕ) (device now : Device) : Type 0 where
  -- its attachment is another, or its disk
  rearranged : now.in_flight ≡ device.in_flight → now.accepted ≡ device.accepted → NothingFlows event outcome id → DeviceChange event outcome old id device now
  -- one more access of it is in flight
  accepts : (asked : Asked) (flight : AcceptedAccess) → now ≡ record device { accepted = device.accepted + 1; in_flight = device.in_flight ++ flight ∷ [] }
      → accepted_by event outcome id ≡ asked ∷ [] → made_by event outcome id ≡ 0 → IsSentOf asked flight → ¬ IsBusy old.limits.in_flight device.in_flight
      → IsWhole id flight → StillMay old.history id flight → DeviceChange event outcome old id device now
  -- its oldest access is made
  makes : (made : AcceptedAccess) → slice_get device.in_flight 0 ≡ Some made → now ≡ record device { in_flight = drop 1 device.in_flight }
      → accepted_by event outcome id ≡ [] → made_by event outcome id ≡ 1 → DeviceChange event outcome old id device now

-- THE DEVICES
pub data DevicesChange (event : Event) (outcome : Outcome) (old new : State) : Type 0 where
  stay : ((id : ℕ) → NothingFlows event outcome id) → new.devices ≡ old.devices → DevicesChange event outcome old new
  leave : ((id : ℕ) → NothingFlows event outcome id) → (history : History) → new.devices ≡ map (device_once_confirmed history) old.devices
      → DevicesChange event outcome old new
  enters : (id : ℕ) (what : NewDevice) → NoneApplies (plug_reasons old id what) → ((other : ℕ) → NothingFlows event outcome other)
      → new.devices ≡ old.devices ++ plugged_device id what ∷ [] → DevicesChange event outcome old new
  changes : (id : ℕ) (device now : Device) → device_of old id ≡ Some device → now.id ≡ device.id → DeviceChange event outcome old id device now
      → ((other : ℕ) → (id == other) ≡ false → NothingFlows event outcome other)
      → new.devices ≡ replaced_device old.devices device.id now → DevicesChange event outcome old new

-- THE FRAMES
pub data FramesChange (old new : State) : Type 0 where
  frames_stay : new.frames ≡ old.frames → FramesChange old new
  reserves : (id : ℕ) (pages taken : List ℕ) → new.frames ≡ reserved_for (OneDevice id) taken (reserved_for System pages old.frames) → FramesChange old new
  gives_back : (has_left : Option Owner → Bool) → new.frames ≡ map (λ frame. given_back (has_left frame.owner) frame) old.frames → FramesChange old new
  returns : (numbers : List ℕ) → new.frames ≡ frames_returned numbers old.frames → FramesChange old new
  writes : (id : ℕ) (device : Device) (made : AcceptedAccess) → device_of old id ≡ Some device → slice_get device.in_flight 0 ≡ Some made → made.access.kind ≡ kinds.Write
      → new.frames ≡ stored old.frames made.frame (offset_of made.access) made.access.bytes → FramesChange old new
  pokes : (number offset : ℕ) (bytes : List ℕ) → offset + length bytes ≤ 4096 → new.frames ≡ stored old.frames number offset bytes → FramesChange old new

-- ALL OF IT
pub record StepChange (event : Event) (outcome : Outcome) (old new : State) : Type 0 where
  pub limits : new.limits ≡ old.limits
  pub disks : new.disks ≡ disks_after event outcome old.disks
  pub ledger : LedgerChange event outcome old new
  pub devices : DevicesChange event outcome old new
  pub frames : FramesChange old new

-- an event that asks for no access, makes none, and takes no disk
asks_nothing : (event : Event) (outcome : Outcome) → asked_by event ≡ None → ((id : ℕ) → made_by event outcome id ≡ 0) → ((all : List ℕ) → disks_after event outcome all ≡ all)
    → IsQuiet event outcome
asks_nothing event outcome asks none_made no_disk = record { flows = λ id. (none outcome id, none_made id); disks = no_disk }
  where
    none : (reply : Outcome) (id : ℕ) → accepted_by event reply id ≡ []
    none (Accepted number) id = ap (asked_of id) asks
    none _ id = refl

-- NOTHING CHANGES
all_same : (old new : State) → new ≡ old → SameLedger old new
all_same old new same = (ap (λ (s : State). s.history) same, ap (λ (s : State). s.last_ticket) same)

unchanged : (event : Event) (outcome : Outcome) (old new : State) → IsQuiet event outcome → new ≡ old → StepChange event outcome old new
unchanged event outcome old new quiet same = record {
  limits = ap (λ (s : State). s.limits) same;
  disks = ap (λ (s : State). s.disks) same ∙ sym (quiet.disks old.disks);
  ledger = LedgerChange.ledger_stays (all_same old new same);
  devices = DevicesChange.stay quiet.flows (ap (λ (s : State). s.devices) same);
  frames = FramesChange.frames_stay (ap (λ (s : State). s.frames) same);
}

-- a device's attachment is another, or its disk
rearranges : (event : Event) (outcome : Outcome) (old new : State) (id : ℕ) (device now : Device) → device_of old id ≡ Some device → now.id ≡ device.id
    → now.in_flight ≡ device.in_flight → now.accepted ≡ device.accepted → ((other : ℕ) → NothingFlows event outcome other)
    → new.devices ≡ replaced_device old.devices device.id now → DevicesChange event outcome old new
rearranges event outcome old new id device now at own flights count none same =
    DevicesChange.changes id device now at own (DeviceChange.rearranged flights count (none id)) (λ other differ. none other) same

-- AN ACCESS IS ACCEPTED that the event asked for
accepted_so : (event : Event) (number : ℕ) (old new : State) (id : ℕ) (device : Device) (asked : Asked) (flight : AcceptedAccess) → device_of old id ≡ Some device
    → asked_by event ≡ Some (id, asked) → IsSentOf asked flight → ((reply : Outcome) (other : ℕ) → made_by event reply other ≡ 0)
    → ((reply : Outcome) (all : List ℕ) → disks_after event reply all ≡ all)
    → ¬ IsBusy old.limits.in_flight device.in_flight → IsWhole id flight → StillMay old.history id flight
    → new ≡ with_accepted old device flight.access flight.frame → StepChange event (Accepted number) old new
accepted_so event number old new id device asked flight at asks sent none_made no_disk idle whole may same = record {
  limits = ap (λ (s : State). s.limits) same;
  disks = ap (λ (s : State). s.disks) same ∙ sym (no_disk (Accepted number) old.disks);
  ledger = LedgerChange.ledger_stays (ap (λ (s : State). s.history) same, ap (λ (s : State). s.last_ticket) same);
  devices = DevicesChange.changes id device (record device { accepted = device.accepted + 1; in_flight = device.in_flight ++ flight ∷ [] }) at refl
      (DeviceChange.accepts asked flight refl (at_event id ∙ ap (λ b. cond b (asked ∷ []) []) (eq-eqb id id refl)) (none_made (Accepted number) id) sent idle whole may)
      (λ other differ. (at_event other ∙ ap (λ b. cond b (asked ∷ []) []) differ, none_made (Accepted number) other))
      (ap (λ (s : State). s.devices) same);
  frames = FramesChange.frames_stay (ap (λ (s : State). s.frames) same);
}
  where
    at_event : (other : ℕ) → accepted_by event (Accepted number) other ≡ (if id == other then asked ∷ [] else [])
    at_event other = ap (λ (found : Option (ℕ × Asked)). option_map_or (λ it. if it.0 == other then it.1 ∷ [] else []) found []) asks

-- or what is asked for is answered so that nothing changes
quietly : (event : Event) (reply : Outcome) (old new : State) → ((other : ℕ) → accepted_by event reply other ≡ []) → ((outcome : Outcome) (other : ℕ) → made_by event outcome other ≡ 0)
    → ((outcome : Outcome) (all : List ℕ) → disks_after event outcome all ≡ all) → new ≡ old → StepChange event reply old new
quietly event reply old new none none_made no_disk same =
    unchanged event reply old new (record { flows = λ other. (none other, none_made reply other); disks = no_disk reply }) same

answered : (chosen : ℕ) (event : Event) (outcome : Outcome) (old new : State) (id : ℕ) (asked : Asked) (access : Access) (device : Device) → device_of old id ≡ Some device
    → asked_by event ≡ Some (id, asked) → IsSentOf asked (record { access = access; frame = chosen }) → NamesItsBytes access
    → ((reply : Outcome) (other : ℕ) → made_by event reply other ≡ 0) → ((reply : Outcome) (all : List ℕ) → disks_after event reply all ≡ all)
    → MayAnswer old device access chosen outcome → new ≡ state_after old device access chosen outcome → StepChange event outcome old new
answered chosen event (Accepted number) old new id asked access device at asks sent names none_made no_disk (forwarded, allowed, next) same =
    let own : device.id ≡ id = (found_device old.devices id device at).1 in
    accepted_so event number old new id device asked (record { access = access; frame = chosen }) at asks sent none_made no_disk forwarded.1 (forwarded.0, names)
    (subst (λ i. May old.history i chosen access.kind) own (accepted_reach device.attachment old device.id access chosen allowed)) same
answered chosen event BadSpan old new id asked access device at asks sent names none_made no_disk answer same = quietly event BadSpan old new (λ other. refl) none_made no_disk same
answered chosen event Busy old new id asked access device at asks sent names none_made no_disk answer same = quietly event Busy old new (λ other. refl) none_made no_disk same
answered chosen event (Fault cause) old new id asked access device at asks sent names none_made no_disk answer same =
    quietly event (Fault cause) old new (λ other. refl) none_made no_disk same
answered chosen event _ old new id asked access device at asks sent names none_made no_disk answer same = absurd answer

answered_by_cache : (chosen : ℕ) (event : Event) (outcome : Outcome) (old new : State) (id : ℕ) (asked : Asked) (access : Access) (device : Device) → device_of old id ≡ Some device
    → asked_by event ≡ Some (id, asked) → IsSentOf asked (record { access = at_frame chosen access; frame = chosen }) → NamesItsBytes access
    → ((reply : Outcome) (other : ℕ) → made_by event reply other ≡ 0) → ((reply : Outcome) (all : List ℕ) → disks_after event reply all ≡ all)
    → MayAnswerThroughCache old device access chosen outcome → new ≡ state_after_cached old device access chosen outcome → StepChange event outcome old new
answered_by_cache chosen event (Accepted number) old new id asked access device at asks sent names none_made no_disk (forwarded, through, next) same =
    let own : device.id ≡ id = (found_device old.devices id device at).1 in
    accepted_so event number old new id device asked (record { access = at_frame chosen access; frame = chosen }) at asks sent none_made no_disk forwarded.1
    (within_frame chosen access forwarded.0, names)
    (subst (λ i. May old.history i chosen access.kind) own (went_through_reach device.attachment old device.id access chosen through)) same
answered_by_cache chosen event BadSpan old new id asked access device at asks sent names none_made no_disk answer same = quietly event BadSpan old new (λ other. refl) none_made no_disk same
answered_by_cache chosen event Busy old new id asked access device at asks sent names none_made no_disk answer same = quietly event Busy old new (λ other. refl) none_made no_disk same
answered_by_cache chosen event Miss old new id asked access device at asks sent names none_made no_disk answer same = quietly event Miss old new (λ other. refl) none_made no_disk same
answered_by_cache chosen event (Fault cause) old new id asked access device at asks sent names none_made no_disk answer same =
    quietly event (Fault cause) old new (λ other. refl) none_made no_disk same
answered_by_cache chosen event _ old new id asked access device at asks sent names none_made no_disk answer same = absurd answer

-- A REQUEST
by_request : (chosen : ℕ) (event : Event) (outcome : Outcome) (old new : State) (id : ℕ) (access : Access) → Requests chosen old id access outcome new
    → asked_by event ≡ asked_untranslated id access → NamesItsBytes access
    → ((reply : Outcome) (other : ℕ) → made_by event reply other ≡ 0) → ((reply : Outcome) (all : List ℕ) → disks_after event reply all ≡ all)
    → StepChange event outcome old new
by_request chosen event outcome old new id access step asks names none_made no_disk = elim (act_cases sends_untranslated _ old id outcome new step) [
  | inl (why, reply, same) ↦ quietly event outcome old new (λ other. ap (λ o. accepted_by event o other) reply) none_made no_disk same
  | inr (device, at, answer) ↦
      answered chosen event outcome old new id (Asked.Named access false) access device at asks refl names none_made no_disk answer.0 answer.1
]

-- AN ACCESS THROUGH A CACHE
by_cache : (chosen : ℕ) (event : Event) (outcome : Outcome) (old new : State) (id : ℕ) (access : Access) → RequestsThroughCache chosen old id access outcome new
    → asked_by event ≡ asked_through_cache id access → NamesItsBytes access
    → ((reply : Outcome) (other : ℕ) → made_by event reply other ≡ 0) → ((reply : Outcome) (all : List ℕ) → disks_after event reply all ≡ all)
    → StepChange event outcome old new
by_cache chosen event outcome old new id access step asks names none_made no_disk = elim (act_cases sends_through_cache _ old id outcome new step) [
  | inl (why, reply, same) ↦ quietly event outcome old new (λ other. ap (λ o. accepted_by event o other) reply) none_made no_disk same
  | inr (device, at, answer) ↦
      answered_by_cache chosen event outcome old new id (Asked.Named access true) access device at asks refl names none_made no_disk answer.0 answer.1
]

-- A STEP OF A BLOCK DEVICE
begun : (access : Access) (chosen : ℕ) (old new : State) (id : ℕ) (outcome : Outcome) (device : Device) (b : Bool) → device_of old id ≡ Some device → MayWant access
    → IsAnswered b old device access chosen outcome new → StepChange (events.Step id) outcome old new
begun access chosen old new id outcome device false at wanted answer =
    answered chosen (events.Step id) outcome old new id Asked.Chosen access device at refl tt (wanted_names access wanted) (λ reply other. refl) (λ reply all. refl) answer.0 answer.1
begun access chosen old new id outcome device true at wanted answer =
    answered_by_cache chosen (events.Step id) outcome old new id Asked.Chosen access device at refl tt (wanted_names access wanted) (λ reply other. refl) (λ reply all. refl)
    answer.0 answer.1

by_step : (access : Access) (chosen : ℕ) (old new : State) (id : ℕ) (outcome : Outcome) → Steps access chosen old id outcome new → StepChange (events.Step id) outcome old new
by_step access chosen old new id outcome step = elim (act_cases is_block_device _ old id outcome new step) [
  | inl (why, reply, same) ↦
      quietly (events.Step id) outcome old new (λ other. ap (λ o. accepted_by (events.Step id) o other) reply) (λ reply other. refl) (λ reply all. refl) same
  | inr (device, at, takes) ↦ by device at outcome takes
]
  where
    by : (device : Device) → device_of old id ≡ Some device → (reply : Outcome) → TakesStep old device access chosen reply new → StepChange (events.Step id) reply old new
    by device at (Stepped step) takes = quietly (events.Step id) (Stepped step) old new (λ other. refl) (λ reply other. refl) (λ reply all. refl) takes.1
    by device at (Accepted number) takes = begun access chosen old new id (Accepted number) device (has_cache device.kind) at takes.0 takes.1
    by device at Busy takes = begun access chosen old new id Busy device (has_cache device.kind) at takes.0 takes.1
    by device at (Fault cause) takes = begun access chosen old new id (Fault cause) device (has_cache device.kind) at takes.0 takes.1
    by device at _ takes = absurd takes

-- A DISK IS PUT INTO A DEVICE
by_medium : (disk : ℕ) (old new : State) (id : ℕ) (outcome : Outcome) → InsertsDisk disk old id outcome new → StepChange (events.Medium id disk) outcome old new
by_medium disk old new id outcome step = elim (act_cases is_block_device _ old id outcome new step) [
  | inl (why, reply, same) ↦ subst (λ o. StepChange (events.Medium id disk) o old new) (sym reply)
      (unchanged (events.Medium id disk) (Refused why) old new (asks_nothing _ _ refl (λ other. refl) (λ all. refl)) same)
  | inr (device, at, inserts) ↦ by device at outcome inserts
]
  where
    by : (device : Device) → device_of old id ≡ Some device → (reply : Outcome) → Inserts disk old device reply new → StepChange (events.Medium id disk) reply old new
    by device at Done inserts = record {
      limits = ap (λ (s : State). s.limits) inserts.1;
      disks = ap (λ (s : State). s.disks) inserts.1;
      ledger = LedgerChange.ledger_stays (ap (λ (s : State). s.history) inserts.1, ap (λ (s : State). s.last_ticket) inserts.1);
      devices = rearranges _ _ old new id device (record device { has_disk = true }) at refl refl refl (λ other. (refl, refl)) (ap (λ (s : State). s.devices) inserts.1);
      frames = FramesChange.frames_stay (ap (λ (s : State). s.frames) inserts.1);
    }
    by device at (Refused why) inserts = unchanged _ _ old new (asks_nothing _ _ refl (λ other. refl) (λ all. refl)) inserts.1
    by device at _ inserts = absurd inserts

-- THE OLDEST ACCESS IS MADE
by_commit : (old new : State) (id : ℕ) (outcome : Outcome) → Commits old id outcome new → StepChange (events.Commit id) outcome old new
by_commit old new id outcome step = elim (act_cases is_any_kind _ old id outcome new step) [
  | inl (why, reply, same) ↦ subst (λ o. StepChange (events.Commit id) o old new) (sym reply)
      (unchanged (events.Commit id) (Refused why) old new (asks_nothing _ _ refl (λ other. refl) (λ all. refl)) same)
  | inr (device, at, made_so) ↦ by device at outcome made_so
]
  where
    its_own : ◌≡◌ {A = ℕ} (if id == id then 1 else 0) 1
    its_own = ap (λ b. cond b 1 0) (eq-eqb id id refl)

    by : (device : Device) → device_of old id ≡ Some device → (reply : Outcome) → Makes old device reply new → StepChange (events.Commit id) reply old new
    by device at (Read bytes) made_so =
        let made = some_case (slice_get device.in_flight 0) _ made_so in
        let same = made.2.1 in record {
          limits = ap (λ (s : State). s.limits) same;
          disks = ap (λ (s : State). s.disks) same;
          ledger = LedgerChange.ledger_stays (ap (λ (s : State). s.history) same, ap (λ (s : State). s.last_ticket) same);
          devices = DevicesChange.changes id device (record device { in_flight = drop 1 device.in_flight }) at refl (DeviceChange.makes made.0 made.1 refl refl its_own)
              (λ other differ. (refl, ap (λ b. cond b 1 0) differ)) (ap (λ (s : State). s.devices) same);
          frames = FramesChange.frames_stay (ap (λ (s : State). s.frames) same);
        }
    by device at (Wrote len) made_so =
        let made = some_case (slice_get device.in_flight 0) _ made_so in
        let same = made.2.1 in record {
          limits = ap (λ (s : State). s.limits) same;
          disks = ap (λ (s : State). s.disks) same;
          ledger = LedgerChange.ledger_stays (ap (λ (s : State). s.history) same, ap (λ (s : State). s.last_ticket) same);
          devices = DevicesChange.changes id device (record device { in_flight = drop 1 device.in_flight }) at refl (DeviceChange.makes made.0 made.1 refl refl its_own)
              (λ other differ. (refl, ap (λ b. cond b 1 0) differ)) (ap (λ (s : State). s.devices) same);
          frames = FramesChange.writes id device made.0 at made.1 made.2.0.0 (ap (λ (s : State). s.frames) same);
        }
    by device at NothingInFlight made_so = unchanged _ _ old new (record { flows = λ other. (refl, refl); disks = λ all. refl }) made_so.1
    by device at _ made_so = absurd made_so

-- tickets that may be confirmed were given
confirmable : (old : State) (first last : ℕ) → MayConfirm old first last → (first ≤ last) × (last ≤ old.last_ticket)
confirmable old first last (inl next) = (next.1, next.2)
confirmable old first last (inr pending) = (pending.1.1, pending.1.2)

taken : (old : State) (ticket : ℕ) → MayTakeTicket old ticket → TakesTicket old ticket
taken old ticket (inl next) = inl next
taken old ticket (inr shared) = inr shared.1

-- what asks for nothing and leaves the state
nothing : (event : Event) (outcome : Outcome) (old new : State) → asked_by event ≡ None → ((id : ℕ) → made_by event outcome id ≡ 0) → ((all : List ℕ) → disks_after event outcome all ≡ all)
    → new ≡ old → StepChange event outcome old new
nothing event outcome old new asks none_made no_disk same = unchanged event outcome old new (asks_nothing event outcome asks none_made no_disk) same

-- EACH EVENT
pub step_change : (old new : State) (event : Event) (outcome : Outcome) → Step old event outcome new → StepChange event outcome old new
step_change old new (events.Plug id what) Done (choice, step) = record {
  limits = ap (λ (s : State). s.limits) step.1;
  disks = ap (λ (s : State). s.disks) step.1;
  ledger = LedgerChange.ledger_stays (ap (λ (s : State). s.history) step.1, ap (λ (s : State). s.last_ticket) step.1);
  devices = DevicesChange.enters id what step.0 (λ other. (refl, refl)) (ap (λ (s : State). s.devices) step.1);
  frames = FramesChange.frames_stay (ap (λ (s : State). s.frames) step.1);
}
step_change old new (events.Attach id mode ats) Done (choice, step) =
    let found = some_case (device_of old id) _ step.2 in record {
      limits = ap (λ (s : State). s.limits) found.2;
      disks = ap (λ (s : State). s.disks) found.2;
      ledger = LedgerChange.ledger_stays (ap (λ (s : State). s.history) found.2, ap (λ (s : State). s.last_ticket) found.2);
      devices = rearranges _ _ old new id found.0 (record found.0 { attachment = _ }) found.1 refl refl refl (λ other. (refl, refl)) (ap (λ (s : State). s.devices) found.2);
      frames = FramesChange.reserves id choice.directory choice.taken (ap (λ (s : State). s.frames) found.2);
    }
step_change old new (events.Detach id) (Ticket ticket) (choice, step) =
    let found = some_case (device_of old id) _ step.2 in record {
      limits = ap (λ (s : State). s.limits) found.2;
      disks = ap (λ (s : State). s.disks) found.2;
      ledger = LedgerChange.detaches (ap (λ (s : State). s.history) found.2) (ap (λ (s : State). s.last_ticket) found.2 ∙ step.1);
      devices = rearranges _ _ old new id found.0 (record found.0 { has_disk = false; attachment = leaving_under ticket found.0.attachment }) found.1 refl refl refl
          (λ other. (refl, refl)) (ap (λ (s : State). s.devices) found.2);
      frames = FramesChange.frames_stay (ap (λ (s : State). s.frames) found.2);
    }
step_change old new (events.Grant id page frame rights) Done (choice, step) = record {
  limits = ap (λ (s : State). s.limits) step.2;
  disks = ap (λ (s : State). s.disks) step.2;
  ledger = LedgerChange.grants id page frame (rights_of rights) (page, rights, refl, refl) (grant_in_memory old id page frame step.0)
      (grant_finds_nothing old id page frame step.0) (ap (λ (s : State). s.history) step.2) (ap (λ (s : State). s.last_ticket) step.2);
  devices = DevicesChange.stay (λ other. (refl, refl)) (ap (λ (s : State). s.devices) step.2);
  frames = FramesChange.reserves id [] choice.taken (ap (λ (s : State). s.frames) step.2);
}
step_change old new (events.Release id page) (Ticket ticket) (choice, step) =
    let given : new.last_ticket ≡ ticket = ap (λ (s : State). s.last_ticket) step.2 in record {
      limits = ap (λ (s : State). s.limits) step.2;
      disks = ap (λ (s : State). s.disks) step.2;
      ledger = LedgerChange.releases id page (ap (λ (s : State). s.history) step.2 ∙ ap (λ t. entries.Released id page t ∷ old.history) (sym given))
          (subst (TakesTicket old) (sym given) (taken old ticket step.1));
      devices = DevicesChange.stay (λ other. (refl, refl)) (ap (λ (s : State). s.devices) step.2);
      frames = FramesChange.frames_stay (ap (λ (s : State). s.frames) step.2);
    }
step_change old new (events.Quarantine id) (Ticket ticket) (choice, step) =
    let found = some_case (device_of old id) _ step.2 in
    let given : new.last_ticket ≡ ticket = ap (λ (s : State). s.last_ticket) found.2 in record {
      limits = ap (λ (s : State). s.limits) found.2;
      disks = ap (λ (s : State). s.disks) found.2;
      ledger = LedgerChange.releases_all id (ap (λ (s : State). s.history) found.2 ∙ ap (λ t. entries.AllReleased id t ∷ old.history) (sym given)) (given ∙ step.1);
      devices = rearranges _ _ old new id found.0 (record found.0 { attachment = _ }) found.1 refl refl refl (λ other. (refl, refl)) (ap (λ (s : State). s.devices) found.2);
      frames = FramesChange.frames_stay (ap (λ (s : State). s.frames) found.2);
    }
step_change old new (events.Revive id) Done (choice, step) =
    let found = some_case (device_of old id) _ step.1 in record {
      limits = ap (λ (s : State). s.limits) found.2;
      disks = ap (λ (s : State). s.disks) found.2;
      ledger = LedgerChange.ledger_stays (ap (λ (s : State). s.history) found.2, ap (λ (s : State). s.last_ticket) found.2);
      devices = rearranges _ _ old new id found.0 (record found.0 { attachment = _ }) found.1 refl refl refl (λ other. (refl, refl)) (ap (λ (s : State). s.devices) found.2);
      frames = FramesChange.frames_stay (ap (λ (s : State). s.frames) found.2);
    }
step_change old new events.Poll (Confirmed first last timed_out) (choice, step) =
    let within = confirmable old first last step.0 in let upward : first ≤ last = within.0 in let most : last ≤ old.last_ticket = within.1 in record {
      limits = ap (λ (s : State). s.limits) step.1;
      disks = ap (λ (s : State). s.disks) step.1;
      ledger = LedgerChange.confirms_some first (suc (last - first)) (omega arith) (ap (λ (s : State). s.history) step.1) (ap (λ (s : State). s.last_ticket) step.1) step.2;
      devices = DevicesChange.leave (λ other. (refl, refl)) (with_confirmed old first last).history (ap (λ (s : State). s.devices) step.1);
      frames = FramesChange.gives_back (is_of_left (with_confirmed old first last)) (ap (λ (s : State). s.frames) step.1);
    }
step_change old new events.Poll (NoneConfirmed timed_out) (choice, step) = record {
  limits = ap (λ (s : State). s.limits) step.1;
  disks = ap (λ (s : State). s.disks) step.1;
  ledger = LedgerChange.ledger_stays (ap (λ (s : State). s.history) step.1, ap (λ (s : State). s.last_ticket) step.1);
  devices = DevicesChange.stay (λ other. (refl, refl)) (ap (λ (s : State). s.devices) step.1);
  frames = FramesChange.returns choice.returned (ap (λ (s : State). s.frames) step.1);
}
step_change old new (events.Poke address bytes) Done (choice, step) = record {
  limits = ap (λ (s : State). s.limits) step.2;
  disks = ap (λ (s : State). s.disks) step.2;
  ledger = LedgerChange.ledger_stays (ap (λ (s : State). s.history) step.2, ap (λ (s : State). s.last_ticket) step.2);
  devices = DevicesChange.stay (λ other. (refl, refl)) (ap (λ (s : State). s.devices) step.2);
  frames = FramesChange.pokes (address / 4096) (address % 4096) bytes step.0.1 (ap (λ (s : State). s.frames) step.2);
}
step_change old new (events.Medium id disk) outcome (choice, step) = by_medium disk old new id outcome step
step_change old new (events.Read id address len) outcome (choice, step) = by_request choice.frame _ outcome old new id (read_of address len) step refl (read_names address len) (λ reply other. refl) (λ reply all. refl)
step_change old new (events.Write id address bytes) outcome (choice, step) = by_request choice.frame _ outcome old new id (write_of address bytes) step refl (write_names address bytes) (λ reply other. refl) (λ reply all. refl)
step_change old new (events.ReadThroughCache id address len) outcome (choice, step) = by_cache choice.frame _ outcome old new id (read_of address len) step refl (read_names address len) (λ reply other. refl) (λ reply all. refl)
step_change old new (events.WriteThroughCache id address bytes) outcome (choice, step) = by_cache choice.frame _ outcome old new id (write_of address bytes) step refl (write_names address bytes) (λ reply other. refl) (λ reply all. refl)
step_change old new (events.Step id) outcome (choice, step) = by_step choice.access choice.frame old new id outcome step
step_change old new (events.Commit id) outcome (choice, step) = by_commit old new id outcome step
step_change old new (events.ReadTranslated id address len) outcome (choice, step) = nothing _ _ old new refl (λ id. refl) (λ all. refl) (same-translated old new id (read_of address len) outcome step)
step_change old new (events.WriteTranslated id address bytes) outcome (choice, step) = nothing _ _ old new refl (λ id. refl) (λ all. refl) (same-translated old new id (write_of address bytes) outcome step)
step_change old new (events.Ask id page) outcome (choice, step) = nothing _ _ old new refl (λ id. refl) (λ all. refl) (same-asks old new id outcome step)
step_change old new (events.Forge id serial) outcome (choice, step) = nothing _ _ old new refl (λ id. refl) (λ all. refl) (same-forges old new id outcome step)
step_change old new (events.Deliver place) outcome (choice, step) = nothing _ _ old new refl (λ id. refl) (λ all. refl) (same-delivers choice.device choice.page old new outcome step)
step_change old new (events.Drop place) outcome (choice, step) = nothing _ _ old new refl (λ id. refl) (λ all. refl) (same-drops old new outcome step)
step_change old new (events.Repeat place) outcome (choice, step) = nothing _ _ old new refl (λ id. refl) (λ all. refl) (same-repeats old new outcome step)
step_change old new (events.Reset id) outcome (choice, step) = nothing _ _ old new refl (λ id. refl) (λ all. refl) (same-resets old new id outcome step)
step_change old new (events.Queue id size descriptors available used) outcome (choice, step) = nothing _ _ old new refl (λ id. refl) (λ all. refl) (same-sets_queue (layout_of size descriptors available used) old new id outcome step)
step_change old new (events.Status id) outcome (choice, step) = nothing _ _ old new refl (λ id. refl) (λ all. refl) (same-tells_status old new id outcome step)
step_change old new (events.Plug id what) (Refused why) (choice, step) = nothing _ _ old new refl (λ id. refl) (λ all. refl) step.1
step_change old new (events.Attach id mode ats) (Refused why) (choice, step) = nothing _ _ old new refl (λ id. refl) (λ all. refl) step.1
step_change old new (events.Detach id) (Refused why) (choice, step) = nothing _ _ old new refl (λ id. refl) (λ all. refl) step.1
step_change old new (events.Grant id page frame rights) (Refused why) (choice, step) = nothing _ _ old new refl (λ id. refl) (λ all. refl) step.1
step_change old new (events.Release id page) (Refused why) (choice, step) = nothing _ _ old new refl (λ id. refl) (λ all. refl) step.1
step_change old new (events.Quarantine id) (Refused why) (choice, step) = nothing _ _ old new refl (λ id. refl) (λ all. refl) step.1
step_change old new (events.Revive id) (Refused why) (choice, step) = nothing _ _ old new refl (λ id. refl) (λ all. refl) step.1
step_change old new events.Restart Done (choice, step) = nothing _ _ old new refl (λ id. refl) (λ all. refl) step
step_change old new events.Restart (Refused why) (choice, step) = nothing _ _ old new refl (λ id. refl) (λ all. refl) step.1
step_change old new events.Fetch (Fetched result) (choice, step) = nothing _ _ old new refl (λ id. refl) (λ all. refl) step
step_change old new events.Timeout TimedOut (choice, step) = nothing _ _ old new refl (λ id. refl) (λ all. refl) step
step_change old new events.Timeout NoEffect (choice, step) = nothing _ _ old new refl (λ id. refl) (λ all. refl) step
step_change old new events.Faults (Record taken) (choice, step) = nothing _ _ old new refl (λ id. refl) (λ all. refl) step
step_change old new events.Faults NoRecord (choice, step) = nothing _ _ old new refl (λ id. refl) (λ all. refl) step
step_change old new (events.Poke address bytes) (Refused why) (choice, step) = nothing _ _ old new refl (λ id. refl) (λ all. refl) step.2
step_change old new (events.Poke address bytes) BadSpan (choice, step) = nothing _ _ old new refl (λ id. refl) (λ all. refl) step.1
step_change old new (events.Peek address len) (Bytes bytes) (choice, step) = nothing _ _ old new refl (λ id. refl) (λ all. refl) step.3
step_change old new (events.Peek address len) (Refused why) (choice, step) = nothing _ _ old new refl (λ id. refl) (λ all. refl) step.2
step_change old new (events.Peek address len) BadSpan (choice, step) = nothing _ _ old new refl (λ id. refl) (λ all. refl) step.1
step_change old new (events.Free frame) (Free is_free) (choice, step) = nothing _ _ old new refl (λ id. refl) (λ all. refl) step.2
step_change old new (events.Free frame) (Refused why) (choice, step) = nothing _ _ old new refl (λ id. refl) (λ all. refl) step.1
step_change old new (events.Plug id what) _ (choice, step) = absurd step
step_change old new (events.Attach id mode ats) _ (choice, step) = absurd step
step_change old new (events.Detach id) _ (choice, step) = absurd step
step_change old new (events.Grant id page frame rights) _ (choice, step) = absurd step
step_change old new (events.Release id page) _ (choice, step) = absurd step
step_change old new (events.Quarantine id) _ (choice, step) = absurd step
step_change old new (events.Revive id) _ (choice, step) = absurd step
step_change old new events.Restart _ (choice, step) = absurd step
step_change old new events.Fetch _ (choice, step) = absurd step
step_change old new events.Timeout _ (choice, step) = absurd step
step_change old new events.Poll _ (choice, step) = absurd step
step_change old new events.Faults _ (choice, step) = absurd step
step_change old new (events.Poke address bytes) _ (choice, step) = absurd step
step_change old new (events.Peek address len) _ (choice, step) = absurd step
step_change old new (events.Free frame) _ (choice, step) = absurd step
