-- Every line has an answer, in every state that is reached: so each run goes on to the end of the lines.
use Rattle.std.proofs.Common.{◌≡◌, ◌≢◌, ◌+◌, ◌%◌, ◌≤◌, ◌⊎◌, ◌++◌, ◌∙◌, ℕ, inl, inr, Bool, true, false, List, [], ◌∷◌, length, Option, Some, None, MatchOption, is_some, unwrap_or, refl, sym, ap, subst, arith}
use Rattle.std.proofs.lemmas.Bool.{cases_lt, cases_eq, false≢true}
use Rattle.std.proofs.lemmas.List.Elements.{All-nil, All-cons}
use Rattle.iom_base.specs.Causes.{page_fault_of, guest_page_fault_of}
use Rattle.iom_base.specs.declared.cause.Cause.TheVariants.{TransactionTypeDisallowed}
use Rattle.iom_base.specs.Rights.{allows}
use Rattle.iom_base.specs.declared.grant_rights.GrantRights.{GrantRights}
use Rattle.iom_base.specs.declared.rights.Rights.{Rights}
use Rattle.iom_base.specs.GrantRights.{rights_of}
use Rattle.iom_ledger.specs.declared.entry.HistoryEntry.TheVariants as entry
use Rattle.iom_base.specs.declared.refusal.Refusal.{Refusal}
use Rattle.iom_base.specs.declared.refusal.Refusal.TheVariants.{NoSuchDevice, WrongKind, BadMedium, BadQueue}
use Rattle.iom_ledger.specs.History.{Pair, held_at}
use Rattle.iom_machine.specs.declared.event.Event.{Event}
use Rattle.iom_machine.specs.declared.event.Event.TheVariants as events
use Rattle.iom_machine.specs.declared.outcome.Fetched.TheVariants.{Empty}
use Rattle.iom_machine.specs.declared.outcome.Outcome.{Outcome}
use Rattle.iom_machine.specs.declared.outcome.Outcome.TheVariants.{Done, Refused, Ticket, NoneConfirmed, NoRecord, NoEffect, Fetched, Accepted, Busy, BadSpan, Fault, Miss, Lost, NoMessage, Stepped, Status}
use Rattle.iom_machine.specs.declared.outcome.BlockStep.TheVariants.{Idle}
use Rattle.iom_machine.specs.declared.outcome.Trace.{Trace}
use Rattle.iom_base.specs.declared.access.Access.{Access}
use Rattle.iom_machine.specs.declared.state.Attachment.{Attachment}
use Rattle.iom_machine.specs.declared.state.Attachment.TheVariants.{Detached, Attached, Quarantined, Leaving}
use Rattle.iom_machine.specs.declared.state.Device.{Device}
use Rattle.iom_base.specs.declared.mode.Mode.{Mode}
use Rattle.iom_base.specs.declared.mode.Mode.TheVariants.{First, Second, Both}
use Rattle.iom_machine.specs.declared.state.State.{State}
use Rattle.iom_machine.specs.Quarantining.{quarantined_under, attached_again}
use Rattle.iom_machine.specs.Devices.{device_of, with_device}
use Rattle.iom_machine.specs.Frames.{IsFree}
use Rattle.iom_machine.specs.Laws.{IsReached}
use Rattle.iom_machine.specs.Leaving.{leaving_under}
use Rattle.iom_base.specs.DeviceKinds.{disk_of, is_block_device, sends_untranslated, forges, sends_through_cache, asks_questions, is_any_kind}
use Rattle.iom_machine.specs.Machine.{Step, Acts, Requests, RequestsTranslated, RequestsThroughCache, Resets, InsertsDisk, SetsQueue, Steps, TellsStatus, plugged_device}
use Rattle.iom_machine.specs.BlockDevices.{Inserts, with_disk, MaySet, IsStatus, TakesStep}
use Rattle.iom_base.specs.Disks.{is_among, without_disk}
use Rattle.iom_machine.specs.Messages.{Sends}
use Rattle.iom_machine.specs.PowerOn.{model_limits, opening}
use Rattle.iom_base.specs.declared.device_kind.DeviceKind.{DeviceKind}
use Rattle.iom_base.specs.declared.device_kind.NewDevice.{NewDevice}
use Rattle.iom_base.specs.Refusals.{first_that_applies, IsRefusedBy}
use Rattle.iom_machine.specs.Refusals.{MayRefusePlug, MayRefuseAttach, MayRefuseGrant, MayFindNoPlace, NeverElse, plug_reasons, attach_reasons, detach_reasons, grant_reasons, release_reasons, quarantine_reasons, revive_reasons}
use Rattle.iom_base.specs.Accesses.{read_of, write_of, page_of, IsWithinPage}
use Rattle.iom_machine.specs.Returning.{MayGiveBack}
use Rattle.iom_machine.specs.Requests.{cause_without_context, HoldsFor, HoldsNoneFor, MayAccept, MayFault, MayAnswer, IsBusy, IsForwarded, state_after}
use Rattle.iom_machine.specs.ThroughCache.{MayAnswerThroughCache, state_after_cached}
use Rattle.iom_machine.specs.Translated.{MayAnswerTranslated}
use Rattle.iom_machine.proofs.HeadlineLemmas.{commits_are_answered}
use Rattle.iom_machine.proofs.LimitLemmas.{limits-run}
use Rattle.iom_machine.proofs.ProcessorLemmas.{poke_is_answered, peek_is_answered, free_is_answered}
use Rattle.iom_world_refinement.proofs.EventLemmas.{no_access, no_choice, frame_chosen}
use Rattle.iom_virtqueue.specs.declared.layout.Layout.{Layout}
use Rattle.iom_virtqueue.specs.Layouts.{IsLayout, layout_of}
use Rattle.iom_script.specs.declared.script.ScriptLine.{ScriptLine}
use Rattle.iom_script.specs.declared.script.ScriptLine.TheVariants as says
use Rattle.iom_settling.specs.Settles.{Ran}
use Rattle.iom_settling.proofs.EveryState.{can_settle}
use Rattle.iom_runner.specs.LineRuns.{Answer, LineLeads, LineRun, unrolled_line, run_after, unrolled}
use Rattle.iom_runner.specs.Text.{AreThere, AreTraces}
use Rattle.iom_runner.proofs.CountedLemmas.{some_trace}

-- the event has an answer in the state
abbrev IsAnswered : State → Event → Type 0
IsAnswered state event = (outcome : Outcome) × (new : State) × Step state event outcome new

-- the first refusal that applies is lawful
refused_first : (reasons : List (Bool × Refusal)) (MayCome : Refusal → Type 0) (why : Refusal) → first_that_applies reasons ≡ Some why → IsRefusedBy reasons MayCome why
refused_first reasons MayCome why some = subst (λ found. MatchOption found (MayCome why) (λ first. why ≡ first)) (sym some) refl

plug_is_answered : (state : State) (id : ℕ) (what : NewDevice) → IsAnswered state (events.Plug id what)
plug_is_answered state id what = by (first_that_applies (plug_reasons state id what)) refl
  where
    by : (found : Option Refusal) → first_that_applies (plug_reasons state id what) ≡ found → IsAnswered state (events.Plug id what)
    by None none =
        (Done, record state { devices = state.devices ++ plugged_device id what ∷ []; disks = without_disk (disk_of what) state.disks }, (no_choice, (none, refl)))
    by (Some why) some = (Refused why, state, (no_choice, (refused_first (plug_reasons state id what) MayRefusePlug why some, refl)))

attach_is_answered : (state : State) (id : ℕ) (mode : Mode) (ats : Bool) → IsAnswered state (events.Attach id mode ats)
attach_is_answered state id mode ats = found (device_of state id) refl
  where
    by : (device : Device) → device_of state id ≡ Some device → (reason : Option Refusal) → first_that_applies (attach_reasons state id ats) ≡ reason → IsAnswered state (events.Attach id mode ats)
    by device there None none = (
      Done,
      with_device state (record device { attachment = Attached mode ats }),
      (no_choice, (none, All-nil (IsFree state), rw there refl)),
    )
    by device there (Some why) some = (Refused why, state, (no_choice, (refused_first (attach_reasons state id ats) (MayRefuseAttach state mode) why some, refl)))

    found : (o : Option Device) → device_of state id ≡ o → IsAnswered state (events.Attach id mode ats)
    found None absent = (Refused NoSuchDevice, state, (no_choice, (refused_first (attach_reasons state id ats) (MayRefuseAttach state mode) NoSuchDevice (rw absent refl), refl)))
    found (Some device) there = by device there (first_that_applies (attach_reasons state id ats)) refl

grant_is_answered : (state : State) (id page frame : ℕ) (rights : GrantRights) → IsAnswered state (events.Grant id page frame rights)
grant_is_answered state id page frame rights = by (first_that_applies (grant_reasons state id page frame)) refl
  where
    by : (found : Option Refusal) → first_that_applies (grant_reasons state id page frame) ≡ found → IsAnswered state (events.Grant id page frame rights)
    by None none = (
      Done,
      record state { history = entry.Granted id page frame (rights_of rights) ∷ state.history },
      (no_choice, (none, All-nil (λ (number : ℕ). IsFree state number × (number ≢ frame)), refl)),
    )
    by (Some why) some = (Refused why, state, (no_choice, (refused_first (grant_reasons state id page frame) (MayRefuseGrant state id frame) why some, refl)))

release_is_answered : (state : State) (id page : ℕ) → IsAnswered state (events.Release id page)
release_is_answered state id page = by (first_that_applies (release_reasons state id page)) refl
  where
    by : (found : Option Refusal) → first_that_applies (release_reasons state id page) ≡ found → IsAnswered state (events.Release id page)
    by None none = (
      Ticket (state.last_ticket + 1),
      record state { history = entry.Released id page (state.last_ticket + 1) ∷ state.history; last_ticket = state.last_ticket + 1 },
      (no_choice, (none, inl refl, refl)),
    )
    by (Some why) some = (Refused why, state, (no_choice, (refused_first (release_reasons state id page) MayFindNoPlace why some, refl)))

detach_is_answered : (state : State) (id : ℕ) → IsAnswered state (events.Detach id)
detach_is_answered state id = found (device_of state id) refl
  where
    by : (device : Device) → device_of state id ≡ Some device → (reason : Option Refusal) → first_that_applies (detach_reasons state id) ≡ reason → IsAnswered state (events.Detach id)
    by device there None none = (
      Ticket (state.last_ticket + 1),
      record (with_device state (record device { has_disk = false; attachment = leaving_under (state.last_ticket + 1) device.attachment })) { last_ticket = state.last_ticket + 1 },
      (no_choice, (none, refl, rw there refl)),
    )
    by device there (Some why) some = (Refused why, state, (no_choice, (refused_first (detach_reasons state id) MayFindNoPlace why some, refl)))

    found : (o : Option Device) → device_of state id ≡ o → IsAnswered state (events.Detach id)
    found None absent = (Refused NoSuchDevice, state, (no_choice, (refused_first (detach_reasons state id) MayFindNoPlace NoSuchDevice (rw absent refl), refl)))
    found (Some device) there = by device there (first_that_applies (detach_reasons state id)) refl

quarantine_is_answered : (state : State) (id : ℕ) → IsAnswered state (events.Quarantine id)
quarantine_is_answered state id = found (device_of state id) refl
  where
    by : (device : Device) → device_of state id ≡ Some device → (reason : Option Refusal) → first_that_applies (quarantine_reasons state id) ≡ reason → IsAnswered state (events.Quarantine id)
    by device there None none = (
      Ticket (state.last_ticket + 1),
      record (with_device state (record device { attachment = quarantined_under (state.last_ticket + 1) device.attachment })) {
        history = entry.AllReleased id (state.last_ticket + 1) ∷ state.history;
        last_ticket = state.last_ticket + 1;
      },
      (no_choice, (none, refl, rw there refl)),
    )
    by device there (Some why) some = (Refused why, state, (no_choice, (refused_first (quarantine_reasons state id) MayFindNoPlace why some, refl)))

    found : (o : Option Device) → device_of state id ≡ o → IsAnswered state (events.Quarantine id)
    found None absent = (Refused NoSuchDevice, state, (no_choice, (refused_first (quarantine_reasons state id) MayFindNoPlace NoSuchDevice (rw absent refl), refl)))
    found (Some device) there = by device there (first_that_applies (quarantine_reasons state id)) refl

revive_is_answered : (state : State) (id : ℕ) → IsAnswered state (events.Revive id)
revive_is_answered state id = found (device_of state id) refl
  where
    by : (device : Device) → device_of state id ≡ Some device → (reason : Option Refusal) → first_that_applies (revive_reasons state id) ≡ reason → IsAnswered state (events.Revive id)
    by device there None none = (
      Done,
      with_device state (record device { attachment = attached_again device.attachment }),
      (no_choice, (none, rw there refl)),
    )
    by device there (Some why) some = (Refused why, state, (no_choice, (refused_first (revive_reasons state id) NeverElse why some, refl)))

    found : (o : Option Device) → device_of state id ≡ o → IsAnswered state (events.Revive id)
    found None absent = (Refused NoSuchDevice, state, (no_choice, (refused_first (revive_reasons state id) NeverElse NoSuchDevice (rw absent refl), refl)))
    found (Some device) there = by device there (first_that_applies (revive_reasons state id)) refl

-- an answer that may come, with the frame where it is that the access is accepted
abbrev Reply : (ℕ → Outcome → Type 0) → Type 0
Reply MayCome = (frame : ℕ) × (outcome : Outcome) × MayCome frame outcome

-- the answer to a request
abbrev HasReply : State → Device → Access → Type 0
HasReply state device access = Reply (MayAnswer state device access)

same_right : (frame other : ℕ) (rights others : Rights) → ◌≡◌ {A = Option Pair} (Some (frame, rights)) (Some (other, others)) → rights ≡ others
same_right frame other rights others same = ap (λ (o : Option Pair). (unwrap_or o (frame, rights)).1) same

-- what is held is accepted where its right allows the access, and else nothing allows it
held_reply : (state : State) (device : Device) (access : Access) → IsForwarded state.limits.in_flight device.in_flight access.address access.len
    → ((frame : ℕ) → HoldsFor state.history device.id access frame → HasReply state device access)
    → (HoldsNoneFor state.history device.id access → HasReply state device access) → HasReply state device access
held_reply state device access forwarded accepts faults = held (held_at state.history device.id (page_of access)) refl
  where
    by : (frame : ℕ) (rights : Rights) → held_at state.history device.id (page_of access) ≡ Some (frame, rights) → (b : Bool) → allows rights access.kind ≡ b → HasReply state device access
    by frame rights holds true allowed = accepts frame (rights, holds, allowed)
    by frame rights holds false forbidden =
        faults (λ other its. let same : ◌≡◌ {A = Option Pair} (Some (frame, rights)) (Some (other, its.0)) = sym holds ∙ its.1 in
        let clash : false ≡ true = sym forbidden ∙ ap (λ r. allows r access.kind) (same_right frame other rights its.0 same) ∙ its.2 in cc)

    held : (pair : Option Pair) → held_at state.history device.id (page_of access) ≡ pair → HasReply state device access
    held None none = faults (λ other its. let same : ◌≡◌ {A = Option Pair} None (Some (other, its.0)) = sym none ∙ its.1 in cc)
    held (Some (frame, rights)) holds = by frame rights holds (allows rights access.kind) refl

-- no context is found
without_context : (state : State) (device : Device) (access : Access) → IsForwarded state.limits.in_flight device.in_flight access.address access.len
    → MayFault device.attachment state device.id access (cause_without_context state device.id) → HasReply state device access
without_context state device access forwarded may = (0, Fault (cause_without_context state device.id), (forwarded, may))

forwarded_reply : (state : State) (device : Device) (access : Access) → IsForwarded state.limits.in_flight device.in_flight access.address access.len → (attachment : Attachment) → device.attachment ≡ attachment
    → HasReply state device access
forwarded_reply state device access forwarded Detached is =
    without_context state device access forwarded (subst (λ a. MayFault a state device.id access (cause_without_context state device.id)) (sym is) refl)
forwarded_reply state device access forwarded (Attached (First size) ats) is =
    held_reply state device access forwarded
    (λ frame holds. (frame, Accepted (device.accepted + 1), (forwarded, subst (λ a. MayAccept a state device.id access frame) (sym is) (inl holds), refl)))
    (λ none. (0, Fault (page_fault_of access.kind), (forwarded, subst (λ a. MayFault a state device.id access (page_fault_of access.kind)) (sym is) (none, refl))))
forwarded_reply state device access forwarded (Attached (Second size) ats) is =
    held_reply state device access forwarded
    (λ frame holds. (frame, Accepted (device.accepted + 1), (forwarded, subst (λ a. MayAccept a state device.id access frame) (sym is) (inl holds), refl)))
    (λ none. (0, Fault (guest_page_fault_of access.kind), (forwarded, subst (λ a. MayFault a state device.id access (guest_page_fault_of access.kind)) (sym is) (none, refl))))
forwarded_reply state device access forwarded (Attached (Both size) ats) is =
    (0, Fault (page_fault_of access.kind), (forwarded, subst (λ a. MayFault a state device.id access (page_fault_of access.kind)) (sym is) (inl refl)))
forwarded_reply state device access forwarded (Quarantined ticket mode ats) is =
    without_context state device access forwarded (subst (λ a. MayFault a state device.id access (cause_without_context state device.id)) (sym is) (inl refl))
forwarded_reply state device access forwarded (Leaving ticket mode ats) is =
    without_context state device access forwarded (subst (λ a. MayFault a state device.id access (cause_without_context state device.id)) (sym is) (inl refl))

-- an access leaves its page, or is one too many, or is forwarded
reply_by : (most : ℕ) (MayCome : ℕ → Outcome → Type 0) (device : Device) (access : Access) → (¬ IsWithinPage access → MayCome 0 BadSpan)
    → (IsWithinPage access → IsBusy most device.in_flight → MayCome 0 Busy) → (IsForwarded most device.in_flight access.address access.len → Reply MayCome) → Reply MayCome
reply_by most MayCome device access bad busy forwarded =
    elim (cases_lt access.len 1) [
      | inl empty ↦ (0, BadSpan, bad (λ within. let some : 1 ≤ access.len = within.0 in omega arith))
      | inr some ↦ elim (cases_lt 4096 (access.address % 4096 + access.len)) [
        | inl past ↦ (0, BadSpan, bad (λ within. let fits : access.address % 4096 + access.len ≤ 4096 = within.1 in omega arith))
        | inr fits ↦ elim (cases_lt (length device.in_flight) most) [
          | inl room ↦ forwarded ((some, fits), λ full. let many : most ≤ length device.in_flight = full in omega arith)
          | inr full ↦ (0, Busy, busy (some, fits) full)
        ]
      ]
    ]

reply : (state : State) (device : Device) (access : Access) → HasReply state device access
reply state device access =
    reply_by state.limits.in_flight (MayAnswer state device access) device access (λ bad. bad) (λ within busy. (within, busy))
    (λ forwarded. forwarded_reply state device access forwarded device.attachment refl)

-- what is translated already is never let through
translated_reply : (state : State) (device : Device) (access : Access) → Reply (λ frame. MayAnswerTranslated state device access)
translated_reply state device access =
    reply_by state.limits.in_flight (λ frame. MayAnswerTranslated state device access) device access (λ bad. bad) (λ within busy. (within, busy))
    (λ forwarded. (0, Fault TransactionTypeDisallowed, (forwarded, inl refl)))

-- a cache need not have anything
cached_reply : (state : State) (device : Device) (access : Access) → Reply (MayAnswerThroughCache state device access)
cached_reply state device access =
    reply_by state.limits.in_flight (MayAnswerThroughCache state device access) device access (λ bad. bad) (λ within busy. (within, busy)) (λ forwarded. (0, Miss, forwarded))

-- an answer and a state that may come, with the frame
abbrev Comes : (ℕ → Outcome → State → Type 0) → Type 0
Comes MayCome = (frame : ℕ) × (outcome : Outcome) × (new : State) × MayCome frame outcome new

-- an answer to an act of devices of some kinds
abbrev ActComes : (DeviceKind → Bool) → (Device → ℕ → Outcome → State → Type 0) → State → ℕ → Type 0
ActComes can MayCome state id = Comes (λ frame outcome new. Acts can (λ device. MayCome device frame outcome new) state id outcome new)

-- such an act is answered, where it is for each device
act_is_answered : (can : DeviceKind → Bool) (MayCome : Device → ℕ → Outcome → State → Type 0) (state : State) (id : ℕ) → ((device : Device) → Comes (MayCome device))
    → ActComes can MayCome state id
act_is_answered can MayCome state id able = by (device_of state id) refl
  where
    of_kind : (device : Device) → device_of state id ≡ Some device → (b : Bool) → can device.kind ≡ b → ActComes can MayCome state id
    of_kind device there true can_it = let answered = able device in (answered.0, answered.1, answered.2, rw (there, can_it) answered.3)
    of_kind device there false cannot = (0, Refused WrongKind, state, rw (there, cannot) (refl, refl))

    by : (found : Option Device) → device_of state id ≡ found → ActComes can MayCome state id
    by None absent = (0, Refused NoSuchDevice, state, rw absent (refl, refl))
    by (Some device) there = of_kind device there (can device.kind) refl

request_is_answered : (state : State) (id : ℕ) (access : Access) → Comes (λ frame outcome new. Requests frame state id access outcome new)
request_is_answered state id access =
    act_is_answered sends_untranslated (λ device frame outcome new. MayAnswer state device access frame outcome × (new ≡ state_after state device access frame outcome)) state id
    (λ device. let answered = reply state device access in (answered.0, answered.1, state_after state device access answered.0 answered.1, (answered.2, refl)))

translated_is_answered : (state : State) (id : ℕ) (access : Access) → Comes (λ frame. RequestsTranslated state id access)
translated_is_answered state id access =
    act_is_answered forges (λ device frame outcome new. MayAnswerTranslated state device access outcome × (new ≡ state)) state id
    (λ device. let answered = translated_reply state device access in (answered.0, answered.1, state, (answered.2, refl)))

cached_is_answered : (state : State) (id : ℕ) (access : Access) → Comes (λ frame outcome new. RequestsThroughCache frame state id access outcome new)
cached_is_answered state id access =
    act_is_answered sends_through_cache
    (λ device frame outcome new. MayAnswerThroughCache state device access frame outcome × (new ≡ state_after_cached state device access frame outcome)) state id
    (λ device. let answered = cached_reply state device access in (answered.0, answered.1, state_after_cached state device access answered.0 answered.1, (answered.2, refl)))

-- a message may be lost
message_is_answered : (can : DeviceKind → Bool) (state : State) (id : ℕ) → Comes (λ frame outcome new. Acts can (λ device. Sends state outcome new) state id outcome new)
message_is_answered can state id = act_is_answered can (λ device frame outcome new. Sends state outcome new) state id (λ device. (0, Lost, state, refl))

-- a device is reset
reset_is_answered : (state : State) (id : ℕ) → Comes (λ frame outcome new. Resets state id outcome new)
reset_is_answered state id = act_is_answered is_any_kind (λ device frame outcome new. (outcome ≡ Done) × (new ≡ state)) state id (λ device. (0, Done, state, (refl, refl)))

-- a disk goes in, where the device has none and the disk was in none
medium_is_answered : (state : State) (id disk : ℕ) → Comes (λ frame outcome new. InsertsDisk disk state id outcome new)
medium_is_answered state id disk = act_is_answered is_block_device (λ device frame outcome new. Inserts disk state device outcome new) state id
    (λ device. by device device.has_disk refl (is_among state.disks disk) refl)
  where
    by : (device : Device) (has : Bool) → device.has_disk ≡ has → (b : Bool) → is_among state.disks disk ≡ b → Comes (λ frame outcome new. Inserts disk state device outcome new)
    by device false free true there = (0, Done, with_disk disk state device, ((free, there), refl))
    by device false free false absent = (0, Refused BadMedium, state, (((λ may. false≢true (sym absent ∙ may.1)), refl), refl))
    by device true taken b is = (0, Refused BadMedium, state, (((λ may. false≢true (sym may.0 ∙ taken)), refl), refl))

-- a queue may lie so, or not
layout_or_not : (layout : Layout) → IsLayout layout ⊎ (¬ IsLayout layout)
layout_or_not layout = elim (cases_lt layout.size 1) [
  | inl none ↦ inr (λ is. let some : 1 ≤ layout.size = is.some in omega arith)
  | inr some ↦ elim (cases_lt 256 layout.size) [
    | inl many ↦ inr (λ is. let most : layout.size ≤ 256 = is.most in omega arith)
    | inr most ↦ elim (cases_eq (256 % layout.size) 0) [
      | inr odd ↦ inr (λ is. odd is.power)
      | inl power ↦ elim (cases_eq (layout.descriptor_table % 16) 0) [
        | inr odd ↦ inr (λ is. odd is.descriptor_table)
        | inl descriptors ↦ elim (cases_eq (layout.available_ring % 2) 0) [
          | inr odd ↦ inr (λ is. odd is.available_ring)
          | inl available ↦ elim (cases_eq (layout.used_ring % 4) 0) [
            | inr odd ↦ inr (λ is. odd is.used_ring)
            | inl used ↦ inl (record { some = some; most = most; power = power; descriptor_table = descriptors; available_ring = available; used_ring = used })
          ]
        ]
      ]
    ]
  ]
]

queue_is_answered : (state : State) (id : ℕ) (layout : Layout) → Comes (λ frame outcome new. SetsQueue layout state id outcome new)
queue_is_answered state id layout = act_is_answered is_block_device (λ device frame outcome new. MaySet layout outcome × (new ≡ state)) state id
    (λ device. elim (layout_or_not layout) [
      | inl is ↦ (0, Done, state, (is, refl))
      | inr other ↦ (0, Refused BadQueue, state, ((other, refl), refl))
    ])

-- a step may find nothing to do
step_is_answered : (state : State) (id : ℕ) → Comes (λ frame outcome new. Steps no_access frame state id outcome new)
step_is_answered state id =
    act_is_answered is_block_device (λ device frame outcome new. TakesStep state device no_access frame outcome new) state id (λ device. (0, Stepped Idle, state, (tt, refl)))

-- a status may be any
status_is_answered : (state : State) (id : ℕ) → Comes (λ frame outcome new. TellsStatus state id outcome new)
status_is_answered state id =
    act_is_answered is_block_device (λ device frame outcome new. IsStatus outcome × (new ≡ state)) state id (λ device. (0, Status 0, state, (tt, refl)))

-- every event is answered
is_answered : (state : State) (event : Event) → IsReached state → IsAnswered state event
is_answered state (events.Plug id what) reached = plug_is_answered state id what
is_answered state (events.Medium id disk) reached = let answered = medium_is_answered state id disk in (answered.1, answered.2, (no_choice, answered.3))
is_answered state (events.Attach id mode ats) reached = attach_is_answered state id mode ats
is_answered state (events.Detach id) reached = detach_is_answered state id
is_answered state (events.Grant id page frame rights) reached = grant_is_answered state id page frame rights
is_answered state (events.Release id page) reached = release_is_answered state id page
is_answered state (events.Quarantine id) reached = quarantine_is_answered state id
is_answered state (events.Revive id) reached = revive_is_answered state id
is_answered state events.Restart reached = (Done, state, (no_choice, refl))
is_answered state events.Timeout reached = (NoEffect, state, (no_choice, refl))
is_answered state (events.Reset id) reached = let answered = reset_is_answered state id in (answered.1, answered.2, (no_choice, answered.3))
is_answered state events.Fetch reached = (Fetched Empty, state, (no_choice, refl))
is_answered state events.Poll reached = (NoneConfirmed false, state, (no_choice, (All-nil (MayGiveBack state), refl)))
is_answered state events.Faults reached = (NoRecord, state, (no_choice, refl))
is_answered state (events.Read id address len) reached =
    let answered = request_is_answered state id (read_of address len) in (answered.1, answered.2, (frame_chosen answered.0, answered.3))
is_answered state (events.Write id address bytes) reached =
    let answered = request_is_answered state id (write_of address bytes) in (answered.1, answered.2, (frame_chosen answered.0, answered.3))
is_answered state (events.ReadTranslated id address len) reached =
    let answered = translated_is_answered state id (read_of address len) in (answered.1, answered.2, (no_choice, answered.3))
is_answered state (events.WriteTranslated id address bytes) reached =
    let answered = translated_is_answered state id (write_of address bytes) in (answered.1, answered.2, (no_choice, answered.3))
is_answered state (events.ReadThroughCache id address len) reached =
    let answered = cached_is_answered state id (read_of address len) in (answered.1, answered.2, (frame_chosen answered.0, answered.3))
is_answered state (events.WriteThroughCache id address bytes) reached =
    let answered = cached_is_answered state id (write_of address bytes) in (answered.1, answered.2, (frame_chosen answered.0, answered.3))
is_answered state (events.Ask id page) reached = let answered = message_is_answered asks_questions state id in (answered.1, answered.2, (no_choice, answered.3))
is_answered state (events.Forge id serial) reached = let answered = message_is_answered forges state id in (answered.1, answered.2, (no_choice, answered.3))
is_answered state (events.Deliver place) reached = (NoMessage, state, (no_choice, refl))
is_answered state (events.Drop place) reached = (NoMessage, state, (no_choice, refl))
is_answered state (events.Repeat place) reached = (NoMessage, state, (no_choice, refl))
is_answered state (events.Queue id size descriptors available used) reached =
    let answered = queue_is_answered state id (layout_of size descriptors available used) in (answered.1, answered.2, (no_choice, answered.3))
is_answered state (events.Step id) reached = let answered = step_is_answered state id in (answered.1, answered.2, (frame_chosen answered.0, answered.3))
is_answered state (events.Status id) reached = let answered = status_is_answered state id in (answered.1, answered.2, (no_choice, answered.3))
is_answered state (events.Commit id) reached = commits_are_answered state id reached
is_answered state (events.Poke address bytes) reached = let answered = poke_is_answered state address bytes in (answered.0, answered.1, (no_choice, answered.2))
is_answered state (events.Peek address len) reached = let answered = peek_is_answered state address len reached in (answered.0, answered.1, (no_choice, answered.2))
is_answered state (events.Free frame) reached = let answered = free_is_answered state frame in (answered.0, answered.1, (no_choice, answered.2))

-- the state is reached with the model's limits
abbrev pub IsModels : State → Type 0
IsModels state = IsReached state × (state.limits ≡ model_limits)

-- and so is every line
line_is_answered : (state : State) (line : ScriptLine) → IsModels state → (answer : Answer) × (new : State) × LineLeads state line answer new
line_is_answered state (says.Event event) (reached, model) = let answered = is_answered state event reached in (inl answered.0, answered.1, answered.2)
line_is_answered state says.Settle (reached, model) = let answered = can_settle state model reached in (inr answered.0, answered.1, answered.2)

-- a state that is reached, after events
reached-ran : (old new : State) → IsModels old → Ran old new → IsModels new
reached-ran old new ((events, outcomes, (limits, frames, levels, disks, run)), model) ran = (
  (
    events ++ ran.events,
    outcomes ++ ran.outcomes,
    (limits, frames, levels, disks, run_after (opening limits frames levels disks) old new events ran.events outcomes ran.outcomes run ran.run),
  ),
  limits-run old new ran.events ran.outcomes ran.run ∙ model,
)

-- a run, and the counts beside its answers
abbrev pub CountedRun : State → List ScriptLine → List Answer → List (Option Trace) → State → Type 0
CountedRun state lines answers traces last = (run : LineRun state lines answers last) × AreTraces state lines answers traces last run

-- every list of lines has a run, with counts or without
has_run : (counts : Bool) (state : State) (lines : List ScriptLine) → IsModels state
    → (answers : List Answer) × (traces : List (Option Trace)) × (last : State) × CountedRun state lines answers traces last × AreThere counts traces
has_run counts state [] reached = ([], [], state, (refl, tt), All-nil (λ (trace : Option Trace). is_some trace ≡ counts))
has_run counts state (line ∷ lines) reached =
    let answered = line_is_answered state line reached in
    let rest = has_run counts answered.1 lines (reached-ran state answered.1 reached (unrolled_line state line answered.0 answered.1 answered.2)) in
    let trace = some_trace counts answered.1 in (
      answered.0 ∷ rest.0,
      trace.0 ∷ rest.1,
      rest.2,
      ((answered.1, answered.2, rest.3.0), (trace.2, rest.3.1)),
      All-cons (λ (t : Option Trace). is_some t ≡ counts) trace.0 rest.1 trace.1 rest.4,
    )

-- a run, and then another
run-append : (old mid new : State) (lines later : List ScriptLine) (answers answered : List Answer) (traces more : List (Option Trace))
    → CountedRun old lines answers traces mid → CountedRun mid later answered more new → CountedRun old (lines ++ later) (answers ++ answered) (traces ++ more) new
run-append old mid new [] later [] answered [] more ran rest = subst (λ (s : State). CountedRun s later answered more new) ran.0 rest
run-append old mid new [] later [] answered (trace ∷ traces) more ran rest = absurd ran.1
run-append old mid new [] later (answer ∷ answers) answered traces more ran rest = absurd ran.0
run-append old mid new (line ∷ lines) later [] answered traces more ran rest = absurd ran.0
run-append old mid new (line ∷ lines) later (answer ∷ answers) answered [] more ran rest = absurd ran.1
run-append old mid new (line ∷ lines) later (answer ∷ answers) answered (trace ∷ traces) more ((next, step, run), are) rest =
    let all = run-append next mid new lines later answers answered traces more (run, are.1) rest in
    ((next, step, all.0), (are.0, all.1))

-- each run over some lines, from a state that is reached, goes on over later ones
pub goes_on : (counts : Bool) (old mid : State) (lines later : List ScriptLine) (answers : List Answer) (traces : List (Option Trace))
    → IsModels old → CountedRun old lines answers traces mid
    → (answered : List Answer) × (more : List (Option Trace)) × (last : State)
    × CountedRun old (lines ++ later) (answers ++ answered) (traces ++ more) last × AreThere counts more
goes_on counts old mid lines later answers traces reached ran =
    let rest = has_run counts mid later (reached-ran old mid reached (unrolled old lines answers mid ran.0)) in
    (rest.0, rest.1, rest.2, run-append old mid rest.2 lines later answers rest.0 traces rest.1 ran rest.3, rest.4)
