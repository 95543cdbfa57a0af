-- What a step keeps of each access in flight.
use Rattle.std.proofs.Common.{◌≡◌, ℕ, ◌+◌, ◌%◌, ◌≤◌, ◌==◌, ◌⊎◌, inl, inr, Bool, true, false, cond, List, [], ◌∷◌, ◌-◌, length, take, drop, find, All, Contains, Option, None, Some, MatchOption, IsSomeAnd, if◌then◌else◌, slice_get, refl, sym, subst, arith}
use Rattle.std.specs.Prelude.{⊤}
use Rattle.std.proofs.lemmas.Bool.{eqb-true}
use Rattle.std.proofs.lemmas.Grind.{common_steps}
use Rattle.std.proofs.lemmas.List.Elements.{All-weaker, All-contains, All-cons, All-tail, All-head}
use Rattle.std.proofs.lemmas.Nat.{mod-mul-add, mod_below}
use Rattle.std.proofs.lemmas.Option.{get_or_from_slice_get, slice_get_within}
use Rattle.iom_base.specs.declared.refusal.Refusal.{Refusal}
use Rattle.iom_base.specs.declared.refusal.Refusal.TheVariants.{NoSuchDevice, WrongKind}
use Rattle.iom_ledger.specs.History.{History, May}
use Rattle.iom_machine.specs.declared.outcome.Outcome.{Outcome}
use Rattle.iom_machine.specs.declared.outcome.Outcome.TheVariants.{Refused, Accepted, Sent, Lost, Answered, Kept, Stale, AnswerRefused, Ignored, Invalidated, Closed, NotClosed, Dropped, Repeated, NoMessage}
use Rattle.iom_base.specs.declared.access.Access.{Access}
use Rattle.iom_machine.specs.declared.state.Attachment.{Attachment}
use Rattle.iom_machine.specs.declared.state.Attachment.TheVariants.{Detached, Attached, Quarantined, Leaving}
use Rattle.iom_machine.specs.declared.state.Device.{Device}
use Rattle.iom_base.specs.declared.device_kind.DeviceKind.{DeviceKind}
use Rattle.iom_base.specs.declared.access.AcceptedAccess.{AcceptedAccess}
use Rattle.iom_base.specs.declared.mode.Mode.{Mode}
use Rattle.iom_base.specs.declared.mode.Mode.TheVariants.{First, Second, Both}
use Rattle.iom_machine.specs.declared.state.State.{State}
use Rattle.iom_machine.specs.Devices.{device_of, replaced_device}
use Rattle.iom_base.specs.Accesses.{read_of, write_of, page_of, offset_of, IsWithinPage, at_frame, HasBytes, MayWant}
use Rattle.iom_base.specs.declared.access.AccessKind.{AccessKind}
use Rattle.iom_base.specs.declared.access.AccessKind.TheVariants as kinds
use Rattle.iom_base.specs.DeviceKinds.{is_block_device, forges, asks_questions, is_any_kind}
use Rattle.iom_virtqueue.specs.declared.layout.Layout.{Layout}
use Rattle.iom_machine.specs.Messages.{Sends, Delivers, Drops, Repeats}
use Rattle.iom_machine.specs.Requests.{MayAcceptFormerly, MayAccept}
use Rattle.iom_machine.specs.ThroughCache.{MayGoThrough}
use Rattle.iom_machine.specs.Machine.{IfItCan, Acts, RequestsTranslated, Asks, Forges, Resets, SetsQueue, TellsStatus}
use Rattle.iom_machine.proofs.ReachLemmas.{contains_head, contains_tail}

-- a fact by cases of an option, with the case that it is
pub match_cases : {X : Type 0} (o : Option X) (A : Type 0) (Q : X → Type 0) → MatchOption o A Q → ((o ≡ None) × A) ⊎ ((x : X) × (o ≡ Some x) × Q x)
match_cases None A Q fact = inl (refl, fact)
match_cases (Some x) A Q fact = inr (x, refl, fact)

pub some_case : {X : Type 0} (o : Option X) (Q : X → Type 0) → IsSomeAnd o Q → (x : X) × (o ≡ Some x) × Q x
some_case None Q fact = absurd fact
some_case (Some x) Q fact = (x, refl, fact)

-- an act that is refused, and changes nothing; or of a plugged device that is able
pub act_cases : (can : DeviceKind → Bool) (IfAble : Device → Type 0) (old : State) (id : ℕ) (outcome : Outcome) (new : State) → Acts can IfAble old id outcome new
    → ((why : Refusal) × (outcome ≡ Refused why) × (new ≡ old)) ⊎ ((device : Device) × (device_of old id ≡ Some device) × IfAble device)
act_cases can IfAble old id outcome new step = elim (match_cases (device_of old id) _ _ step) [
  | inl (none, both) ↦ inl (NoSuchDevice, both.0, both.1)
  | inr (device, at, acts) ↦ by device at (can device.kind) acts
]
  where
    by : (device : Device) → device_of old id ≡ Some device → (b : Bool) → IfItCan b (IfAble device) old outcome new
        → ((why : Refusal) × (outcome ≡ Refused why) × (new ≡ old)) ⊎ ((device : Device) × (device_of old id ≡ Some device) × IfAble device)
    by device at true acts = inr (device, at, acts)
    by device at false acts = inl (WrongKind, acts.0, acts.1)

-- what comes of an act of a plugged device that is able
pub able_act : (can : DeviceKind → Bool) (IfAble : Device → Type 0) (old : State) (id : ℕ) (outcome : Outcome) (new : State) (device : Device)
    → device_of old id ≡ Some device → can device.kind ≡ true → Acts can IfAble old id outcome new → IfAble device
able_act can IfAble old id outcome new device there able step = rw (there, able) at step

-- a fact of all elements, at one of them
pub All-at : {X : Type 0} (P : X → Type 0) (xs : List X) (k : ℕ) (x : X) → All P xs → slice_get xs k ≡ Some x → P x
All-at P xs k x all at = subst P (get_or_from_slice_get xs k x x at) (all k x (slice_get_within xs k x at))

pub All-rest : {X : Type 0} (P : X → Type 0) (xs : List X) → All P xs → All P (drop 1 xs)
All-rest P [] all = all
All-rest P (x ∷ xs) all = All-tail P x xs all

-- a fact of each access in flight, with its device's id
abbrev pub AllInFlight : (ℕ → AcceptedAccess → Type 0) → List Device → Type 0
AllInFlight P devices = All (λ device. All (P device.id) device.in_flight) devices

-- the access may still reach its frame
abbrev pub StillMay : History → ℕ → AcceptedAccess → Type 0
StillMay history id flight = May history id flight.frame flight.access.kind

-- the device that is found is there, with its id
pub found_device : (devices : List Device) (id : ℕ) (device : Device) → find (λ d. d.id == id) devices ≡ Some device → Contains devices device × (device.id ≡ id)
found_device [] id device at = cc
found_device (d ∷ devices) id device at = by (d.id == id) refl at (found_device devices id device)
  where
    by : (b : Bool) → (d.id == id) ≡ b → cond b (Some d) (find (λ x. x.id == id) devices) ≡ Some device
        → (find (λ x. x.id == id) devices ≡ Some device → Contains devices device × (device.id ≡ id)) → Contains (d ∷ devices) device × (device.id ≡ id)
    by true e at rest =
        let same : d ≡ device = cc in
        (subst (λ x. Contains (d ∷ devices) x) same (contains_head d devices), subst (λ (x : Device). x.id ≡ id) same (eqb-true d.id id e))
    by false e at rest = (contains_tail d devices device (rest at).0, (rest at).1)

-- where one device is changed
pub AllInFlight-with : (P : ℕ → AcceptedAccess → Type 0) (devices : List Device) (id : ℕ) (now : Device) → AllInFlight P devices → All (P now.id) now.in_flight
    → AllInFlight P (replaced_device devices id now)
AllInFlight-with P [] id now all changed = all
AllInFlight-with P (device ∷ others) id now all changed = by (device.id == id) (AllInFlight-with P others id now (All-tail (λ (d : Device). All (P d.id) d.in_flight) device others all) changed)
  where
    by : (b : Bool) → AllInFlight P (replaced_device others id now) → AllInFlight P (if b then now ∷ others else device ∷ replaced_device others id now)
    by true rest = All-cons (λ (d : Device). All (P d.id) d.in_flight) now others changed (All-tail (λ (d : Device). All (P d.id) d.in_flight) device others all)
    by false rest = All-cons (λ (d : Device). All (P d.id) d.in_flight) device (replaced_device others id now) (All-head (λ (d : Device). All (P d.id) d.in_flight) device others all) rest

-- the facts of one device's accesses
pub AllInFlight-of : (P : ℕ → AcceptedAccess → Type 0) (devices : List Device) (id : ℕ) (device : Device) → find (λ d. d.id == id) devices ≡ Some device → AllInFlight P devices
    → All (P device.id) device.in_flight
AllInFlight-of P devices id device at all = All-contains (λ (d : Device). All (P d.id) d.in_flight) devices device all (found_device devices id device at).0

-- a weaker fact
pub AllInFlight-weaker : (P Q : ℕ → AcceptedAccess → Type 0) → ((id : ℕ) (flight : AcceptedAccess) → P id flight → Q id flight) → (devices : List Device) → AllInFlight P devices → AllInFlight Q devices
AllInFlight-weaker P Q says devices all =
    All-weaker (λ (d : Device). All (P d.id) d.in_flight) (λ (d : Device). All (Q d.id) d.in_flight) (λ d h. All-weaker (P d.id) (Q d.id) (says d.id) d.in_flight h) devices all

-- what may be accepted as in the former mode lingers
formerly_reach : (mode : Mode) (history : History) (id : ℕ) (access : Access) (frame : ℕ) → MayAcceptFormerly mode history id access frame → May history id frame access.kind
formerly_reach (First size) history id access frame lingers = (page_of access, lingers.0, inr lingers.1, lingers.2)
formerly_reach (Second size) history id access frame lingers = (page_of access, lingers.0, inr lingers.1, lingers.2)
formerly_reach (Both size) history id access frame lingers = (lingers.0, lingers.1, inr lingers.2, lingers.3)

-- what may be accepted may be reached
pub accepted_reach : (attachment : Attachment) (state : State) (id : ℕ) (access : Access) (frame : ℕ) → MayAccept attachment state id access frame → May state.history id frame access.kind
accepted_reach (Attached (First size) ats) state id access frame (inl holds) = (page_of access, holds.0, inl holds.1, holds.2)
accepted_reach (Attached (First size) ats) state id access frame (inr (none, lingers)) = (page_of access, lingers.0, inr lingers.1, lingers.2)
accepted_reach (Attached (Second size) ats) state id access frame (inl holds) = (page_of access, holds.0, inl holds.1, holds.2)
accepted_reach (Attached (Second size) ats) state id access frame (inr (none, lingers)) = (page_of access, lingers.0, inr lingers.1, lingers.2)
accepted_reach (Attached (Both size) ats) state id access frame may = may
accepted_reach Detached state id access frame may = absurd may
accepted_reach (Quarantined ticket mode ats) state id access frame (unconfirmed, formerly) = formerly_reach mode state.history id access frame formerly
accepted_reach (Leaving ticket mode ats) state id access frame (unconfirmed, formerly) = formerly_reach mode state.history id access frame formerly

-- the outcome says that a request is accepted
abbrev pub IsAcceptance : Outcome → Type 0
IsAcceptance (Accepted number) = ⊤
IsAcceptance _ = ⊥

-- an access names as many bytes as it has
abbrev pub NamesItsBytes : Access → Type 0
NamesItsBytes access = access.kind ≡ kinds.Write → length access.bytes ≡ access.len

pub read_names : (address len : ℕ) → NamesItsBytes (read_of address len)
read_names address len write = let same : kinds.Read ≡ kinds.Write = write in cc

pub write_names : (address : ℕ) (bytes : List ℕ) → NamesItsBytes (write_of address bytes)
write_names address bytes write = refl

-- and so does one that a step may begin
pub wanted_names : (access : Access) → MayWant access → NamesItsBytes access
wanted_names access wanted write = by access.kind write wanted.1
  where
    by : (kind : AccessKind) → kind ≡ kinds.Write → HasBytes kind access.len access.bytes → length access.bytes ≡ access.len
    by kinds.Read write has = cc
    by kinds.Write write has = has

-- an access that stays within its page, and a write with as many bytes as it names
abbrev pub IsWhole : ℕ → AcceptedAccess → Type 0
IsWhole id flight = IsWithinPage flight.access × NamesItsBytes flight.access

-- what a cache may have may be reached
pub went_through_reach : (attachment : Attachment) (state : State) (id : ℕ) (access : Access) (frame : ℕ) → MayGoThrough attachment state id access frame → May state.history id frame access.kind
went_through_reach (Attached (First size) ats) state id access frame (inl holds) = (page_of access, holds.0, inl holds.1, holds.2)
went_through_reach (Attached (First size) ats) state id access frame (inr lingers) = (page_of access, lingers.0, inr lingers.1, lingers.2)
went_through_reach (Attached (Second size) ats) state id access frame (inl holds) = (page_of access, holds.0, inl holds.1, holds.2)
went_through_reach (Attached (Second size) ats) state id access frame (inr lingers) = (page_of access, lingers.0, inr lingers.1, lingers.2)
went_through_reach (Attached (Both size) ats) state id access frame may = may
went_through_reach Detached state id access frame may = absurd may
went_through_reach (Quarantined ticket mode ats) state id access frame (unconfirmed, formerly) = formerly_reach mode state.history id access frame formerly
went_through_reach (Leaving ticket mode ats) state id access frame (unconfirmed, formerly) = formerly_reach mode state.history id access frame formerly

-- the offset of an access in its frame is that in its page
pub offset_at_frame : (frame : ℕ) (access : Access) → offset_of (at_frame frame access) ≡ offset_of access
offset_at_frame frame access = mod-mul-add frame 4096 (access.address % 4096) (mod_below access.address 4096 (omega arith))

-- an access within its page is within its frame
pub within_frame : (frame : ℕ) (access : Access) → IsWithinPage access → IsWithinPage (at_frame frame access)
within_frame frame access within = (within.0, subst (λ n. n + access.len ≤ 4096) (sym (offset_at_frame frame access)) within.1)

-- the steps of messages, of resets, of queues that are set, of statuses, and of translated requests of devices that forge them, change nothing
same-sends : (old new : State) (outcome : Outcome) → Sends old outcome new → new ≡ old
same-sends old new Sent step = step
same-sends old new Lost step = step
same-sends old new _ step = absurd step

pub same-asks : (old new : State) (id : ℕ) (outcome : Outcome) → Asks old id outcome new → new ≡ old
same-asks old new id outcome step = elim (act_cases asks_questions _ old id outcome new step) [
  | inl (why, reply, same) ↦ same
  | inr (device, at, sends) ↦ same-sends old new outcome sends
]

pub same-forges : (old new : State) (id : ℕ) (outcome : Outcome) → Forges old id outcome new → new ≡ old
same-forges old new id outcome step = elim (act_cases forges _ old id outcome new step) [
  | inl (why, reply, same) ↦ same
  | inr (device, at, sends) ↦ same-sends old new outcome sends
]

pub same-resets : (old new : State) (id : ℕ) (outcome : Outcome) → Resets old id outcome new → new ≡ old
same-resets old new id outcome step = elim (act_cases is_any_kind _ old id outcome new step) [
  | inl (why, reply, same) ↦ same
  | inr (device, at, done) ↦ done.1
]

pub same-sets_queue : (layout : Layout) (old new : State) (id : ℕ) (outcome : Outcome) → SetsQueue layout old id outcome new → new ≡ old
same-sets_queue layout old new id outcome step = elim (act_cases is_block_device _ old id outcome new step) [
  | inl (why, reply, same) ↦ same
  | inr (device, at, sets) ↦ sets.1
]

pub same-tells_status : (old new : State) (id : ℕ) (outcome : Outcome) → TellsStatus old id outcome new → new ≡ old
same-tells_status old new id outcome step = elim (act_cases is_block_device _ old id outcome new step) [
  | inl (why, reply, same) ↦ same
  | inr (device, at, tells) ↦ tells.1
]

pub same-translated : (old new : State) (id : ℕ) (access : Access) (outcome : Outcome) → RequestsTranslated old id access outcome new → new ≡ old
same-translated old new id access outcome step = elim (act_cases forges _ old id outcome new step) [
  | inl (why, reply, same) ↦ same
  | inr (device, at, answer) ↦ answer.1
]

pub same-delivers : (asker page : ℕ) (old new : State) (outcome : Outcome) → Delivers asker page old outcome new → new ≡ old
same-delivers asker page old new (Answered reply) step = step.1
same-delivers asker page old new Kept step = step
same-delivers asker page old new Stale step = step
same-delivers asker page old new AnswerRefused step = step
same-delivers asker page old new Ignored step = step
same-delivers asker page old new (Invalidated serial) step = step
same-delivers asker page old new (Closed serial) step = step
same-delivers asker page old new (NotClosed serial) step = step
same-delivers asker page old new NoMessage step = step
same-delivers asker page old new _ step = absurd step

pub same-drops : (old new : State) (outcome : Outcome) → Drops old outcome new → new ≡ old
same-drops old new Dropped step = step
same-drops old new NoMessage step = step
same-drops old new _ step = absurd step

pub same-repeats : (old new : State) (outcome : Outcome) → Repeats old outcome new → new ≡ old
same-repeats old new Repeated step = step
same-repeats old new Lost step = step
same-repeats old new NoMessage step = step
same-repeats old new _ step = absurd step

-- all elements are so where the first one is, and the later ones are
pub All-from_parts : {X : Type 0} (P : X → Type 0) (xs : List X) (x : X) → slice_get xs 0 ≡ Some x → P x → All P (drop 1 xs) → All P xs
All-from_parts P [] x at here rest = cc
All-from_parts P (y ∷ ys) x at here rest = let same : y ≡ x = cc in All-cons P y ys (subst P (sym same) here) rest

-- the same, with the later ones as a slice pattern has them
pub All-by_parts : {X : Type 0} (P : X → Type 0) (xs : List X) (x : X) → slice_get xs 0 ≡ Some x
    → (P x → All P (take (length xs - 1) (drop 1 xs)) → All P xs) × (All P xs → All P (take (length xs - 1) (drop 1 xs)))
All-by_parts P xs x at =
    let rest : take (length xs - 1) (drop 1 xs) ≡ drop 1 xs = grind (arith, common_steps) in (
      (λ here later. All-from_parts P xs x at here (subst (All P) rest later)),
      (λ all. subst (All P) (sym rest) (All-rest P xs all)),
    )
