-- What is true of every state that is reached.
use Rattle.std.proofs.Common.{◌≡◌, ℕ, suc, zero, ◌+◌, ◌-◌, ◌<◌, ◌≤◌, ◌==◌, ◌⊎◌, inl, inr, Bool, true, false, ◌||◌, List, [], ◌∷◌, length, map, All, Option, None, Some, slice_get, slice_set, replicate, refl, sym, ap, ◌∙◌, subst, arith}
use Rattle.std.proofs.lemmas.Bool.{eqb-true}
use Rattle.std.proofs.lemmas.Grind.{common_steps}
use Rattle.std.proofs.lemmas.List.{length-map, length-replicate}
use Rattle.std.proofs.lemmas.List.Elements.{All-map, All-nil, All-push, All-set, All-replicate, All-weaker}
use Rattle.std.specs.Option.{option_map_or}
use Rattle.iom_base.specs.Bytes.{with_bytes}
use Rattle.iom_base.specs.declared.access.AccessKind.{AccessKind}
use Rattle.iom_base.specs.declared.access.AccessKind.TheVariants as kinds
use Rattle.iom_ledger.specs.declared.entry.HistoryEntry.{HistoryEntry}
use Rattle.iom_ledger.specs.declared.entry.HistoryEntry.TheVariants as entries
use Rattle.iom_ledger.specs.History.{History, May, Pair, confirms, confirmed_from}
use Rattle.iom_machine.specs.declared.event.Event.{Event}
use Rattle.iom_machine.specs.declared.outcome.Outcome.{Outcome}
use Rattle.iom_machine.specs.declared.state.Device.{Device}
use Rattle.iom_machine.specs.declared.state.Limits.{Limits}
use Rattle.iom_machine.specs.declared.state.Frame.{Frame}
use Rattle.iom_base.specs.declared.access.AcceptedAccess.{AcceptedAccess}
use Rattle.iom_base.specs.declared.owner.Owner.{Owner}
use Rattle.iom_base.specs.declared.owner.Owner.TheVariants.{System, OneDevice}
use Rattle.iom_machine.specs.declared.state.State.{State}
use Rattle.iom_machine.specs.Frames.{with_frame, reserved_for, stored}
use Rattle.iom_base.specs.Accesses.{offset_of}
use Rattle.iom_machine.specs.Machine.{Step, Run}
use Rattle.iom_machine.specs.PowerOn.{opening, empty_frame}
use Rattle.iom_machine.specs.Leaving.{device_once_confirmed, given_back}
use Rattle.iom_machine.specs.Returning.{frames_returned}
use Rattle.iom_machine.specs.Laws.{IsReached}
use Rattle.iom_machine.proofs.ReachLemmas.{NamesFrame, reach_before, reach_after_grant, reach_after_release, reach_after_release_of_all}
use Rattle.iom_machine.proofs.ByteLemmas.{length-with_bytes}
use Rattle.iom_machine.proofs.StepChanges.{DeviceChange, DevicesChange, FramesChange, LedgerChange, TakesTicket, step_change}
use Rattle.iom_machine.proofs.InFlightLemmas.{All-at, All-rest, AllInFlight, AllInFlight-of, AllInFlight-weaker, AllInFlight-with, StillMay, IsWhole, found_device}

-- the frames have a page of bytes each
abbrev pub AreWholeFrames : List Frame → Type 0
AreWholeFrames frames = All (λ (frame : Frame). length frame.bytes ≡ 4096) frames

-- each confirmed ticket was given
abbrev pub WereGiven : History → ℕ → Type 0
WereGiven history tickets = (t : ℕ) → confirms history t ≡ true → t ≤ tickets

-- each frame that a device may reach is one of so many
abbrev pub AreInMemory : History → ℕ → Type 0
AreInMemory history size = (device frame : ℕ) (kind : AccessKind) → May history device frame kind → frame < size

-- what is true of every state that is reached
pub record StateInvariant (state : State) : Type 0 where
  pub reaches : AllInFlight (StillMay state.history) state.devices
  pub whole : AllInFlight IsWhole state.devices
  pub tickets : WereGiven state.history state.last_ticket
  pub frames : AreWholeFrames state.frames
  pub in_memory : AreInMemory state.history (length state.frames)

-- changing a frame keeps what is true of each, where the change does
All-with_frame : (P : Frame → Type 0) (frames : List Frame) (number : ℕ) (change : Frame → Frame) → ((frame : Frame) → P frame → P (change frame)) → All P frames
    → All P (with_frame frames number change)
All-with_frame P frames number change keeps all = by (slice_get frames number) refl
  where
    by : (found : Option Frame) → slice_get frames number ≡ found → All P (option_map_or (λ frame. slice_set frames number (change frame)) found frames)
    by None at = all
    by (Some frame) at = All-set P frames number (change frame) (keeps frame (All-at P frames number frame all at)) all

-- reserving frames keeps what is true of their bytes
pub All-reserved : (P : List ℕ → Type 0) (owner : Owner) (numbers : List ℕ) (frames : List Frame) → All (λ (frame : Frame). P frame.bytes) frames
    → All (λ (frame : Frame). P frame.bytes) (reserved_for owner numbers frames)
All-reserved P owner [] frames all = all
All-reserved P owner (number ∷ numbers) frames all =
    All-reserved P owner numbers _ (All-with_frame (λ (frame : Frame). P frame.bytes) frames number (λ frame. record frame { owner = Some owner }) (λ frame its. its) all)

-- tickets that are confirmed, after some more are
confirmed_before : (first n : ℕ) (h : History) (t : ℕ) → confirms (confirmed_from first n h) t ≡ true → (t < first + n) ⊎ (confirms h t ≡ true)
confirmed_before first zero h t c = inr c
confirmed_before first (suc n) h t c = by (first + n == t) refl c (confirmed_before first n h t)
  where
    by : (b : Bool) → (first + n == t) ≡ b → (b || confirms (confirmed_from first n h) t) ≡ true
        → (confirms (confirmed_from first n h) t ≡ true → (t < first + n) ⊎ (confirms h t ≡ true)) → (t < first + suc n) ⊎ (confirms h t ≡ true)
    by true e c rest = let same : first + n ≡ t = eqb-true (first + n) t e in inl (omega arith)
    by false e c rest = elim (rest c) [ inl below ↦ inl (omega arith) | inr old ↦ inr old ]

-- the next ticket isn't confirmed
fresh_ticket : (history : History) (tickets : ℕ) → WereGiven history tickets → confirms history (tickets + 1) ≡ false
fresh_ticket history tickets given = by (confirms history (tickets + 1)) refl
  where
    by : (b : Bool) → confirms history (tickets + 1) ≡ b → confirms history (tickets + 1) ≡ false
    by false e = e
    by true e = let above : tickets + 1 ≤ tickets = given (tickets + 1) e in absurd (omega arith)

-- where it says of a state what it said of another
same_history : (P : History → Type 0) (old new : State) → new.history ≡ old.history → P old.history → P new.history
same_history P old new same fact = subst P (sym same) fact

-- it isn't confirmed, and none was given after it
taken_fresh : (old : State) (ticket : ℕ) → WereGiven old.history old.last_ticket → TakesTicket old ticket → confirms old.history ticket ≡ false
taken_fresh old ticket given (inl next) = ap (confirms old.history) next ∙ fresh_ticket old.history old.last_ticket given
taken_fresh old ticket given (inr last) = last.2

taken_last : (old : State) (ticket : ℕ) → TakesTicket old ticket → old.last_ticket ≤ ticket
taken_last old ticket (inl next) = omega (arith, next)
taken_last old ticket (inr last) = let is = last.1 in omega (arith, is)

-- where the devices stay, and where some have left, which keep their accesses in flight
devices_leave : (P : ℕ → AcceptedAccess → Type 0) (devices : List Device) (history : History) → AllInFlight P devices → AllInFlight P (map (device_once_confirmed history) devices)
devices_leave P devices history all = All-map (λ (device : Device). All (P device.id) device.in_flight) (device_once_confirmed history) devices all

-- one device keeps each fact of its accesses, where it is true of the one that enters
in_flight-device : (P : AcceptedAccess → Type 0) (event : Event) (outcome : Outcome) (old : State) (id : ℕ) (device now : Device) → DeviceChange event outcome old id device now
    → ((flight : AcceptedAccess) → IsWhole id flight → StillMay old.history id flight → P flight) → All P device.in_flight → All P now.in_flight
in_flight-device P event outcome old id device now (DeviceChange.rearranged flights count none) enters all = subst (All P) (sym flights) all
in_flight-device P event outcome old id device now (DeviceChange.accepts asked flight is accepted none_made sent idle whole may) enters all =
    subst (λ (d : Device). All P d.in_flight) (sym is) (All-push P device.in_flight flight all (enters flight whole may))
in_flight-device P event outcome old id device now (DeviceChange.makes first at is accepted one) enters all =
    subst (λ (d : Device). All P d.in_flight) (sym is) (All-rest P device.in_flight all)

-- A step keeps each fact of each access in flight, where it is true of those that enter.
in_flight-change : (P : ℕ → AcceptedAccess → Type 0) (event : Event) (outcome : Outcome) (old new : State) → DevicesChange event outcome old new
    → ((id : ℕ) (flight : AcceptedAccess) → IsWhole id flight → StillMay old.history id flight → P id flight)
    → AllInFlight P old.devices → AllInFlight P new.devices
in_flight-change P event outcome old new (DevicesChange.stay none same) enters all = subst (AllInFlight P) (sym same) all
in_flight-change P event outcome old new (DevicesChange.leave none history same) enters all = subst (AllInFlight P) (sym same) (devices_leave P old.devices history all)
in_flight-change P event outcome old new (DevicesChange.enters id what fits none same) enters all =
    subst (AllInFlight P) (sym same) (All-push (λ (d : Device). All (P d.id) d.in_flight) old.devices _ all (All-nil (P id)))
in_flight-change P event outcome old new (DevicesChange.changes id device now at own change others same) enters all =
    let its : device.id ≡ id = (found_device old.devices id device at).1 in
    let before : All (P id) device.in_flight = subst (λ i. All (P i) device.in_flight) its (AllInFlight-of P old.devices id device at all) in
    subst (AllInFlight P) (sym same)
    (AllInFlight-with P old.devices device.id now all
    (subst (λ i. All (P i) now.in_flight) (sym (own ∙ its)) (in_flight-device (P id) event outcome old id device now change (enters id) before)))

-- a step takes no device's reach from an access in flight
reaches-change : (event : Event) (outcome : Outcome) (old new : State) → LedgerChange event outcome old new → WereGiven old.history old.last_ticket → AllInFlight (StillMay old.history) new.devices → AllInFlight (StillMay new.history) new.devices
reaches-change event outcome old new (LedgerChange.ledger_stays unchanged) given all = subst (λ h. AllInFlight (StillMay h) new.devices) (sym unchanged.0) all
reaches-change event outcome old new (LedgerChange.detaches unchanged next) given all = subst (λ h. AllInFlight (StillMay h) new.devices) (sym unchanged) all
reaches-change event outcome old new (LedgerChange.grants id page frame rights granted low empty extended tickets) given all =
    subst (λ h. AllInFlight (StillMay h) new.devices) (sym extended)
    (AllInFlight-weaker (StillMay old.history) _ (λ d flight may. reach_after_grant old.history id page frame rights empty d flight.frame flight.access.kind may) new.devices all)
reaches-change event outcome old new (LedgerChange.releases id page extended next) given all =
    subst (λ h. AllInFlight (StillMay h) new.devices) (sym extended)
    (AllInFlight-weaker (StillMay old.history) _ (λ d flight may. reach_after_release old.history id page new.last_ticket
    (taken_fresh old new.last_ticket given next) d flight.frame flight.access.kind may) new.devices all)
reaches-change event outcome old new (LedgerChange.releases_all id extended next) given all =
    subst (λ h. AllInFlight (StillMay h) new.devices) (sym extended)
    (AllInFlight-weaker (StillMay old.history) _ (λ d flight may. reach_after_release_of_all old.history id new.last_ticket
    (ap (confirms old.history) next ∙ fresh_ticket old.history old.last_ticket given) d flight.frame flight.access.kind may) new.devices all)
reaches-change event outcome old new (LedgerChange.confirms_some first n most extended tickets reaches) given all = reaches

-- confirmed tickets were given
tickets-change : (event : Event) (outcome : Outcome) (old new : State) → LedgerChange event outcome old new → WereGiven old.history old.last_ticket → WereGiven new.history new.last_ticket
tickets-change event outcome old new (LedgerChange.ledger_stays unchanged) given = rw (unchanged.0, unchanged.1) given
tickets-change event outcome old new (LedgerChange.detaches unchanged next) given =
    λ t c. let below : t ≤ old.last_ticket = given t (subst (λ h. confirms h t ≡ true) unchanged c) in omega (arith, next)
tickets-change event outcome old new (LedgerChange.grants id page frame rights granted low empty extended tickets) given = rw (extended, tickets) given
tickets-change event outcome old new (LedgerChange.releases id page extended next) given =
    λ t c. let before : confirms old.history t ≡ true = subst (λ h. confirms h t ≡ true) extended c in
    let below : t ≤ old.last_ticket = given t before in let later = taken_last old new.last_ticket next in omega (arith, below, later)
tickets-change event outcome old new (LedgerChange.releases_all id extended next) given =
    λ t c. let before : confirms old.history t ≡ true = subst (λ h. confirms h t ≡ true) extended c in
    let below : t ≤ old.last_ticket = given t before in omega (arith, next)
tickets-change event outcome old new (LedgerChange.confirms_some first n most extended tickets reaches) given =
    λ t c. let below = confirmed_before first n old.history t (subst (λ h. confirms h t ≡ true) extended c) in
    subst (λ last. t ≤ last) (sym tickets) (by t below)
  where
    by : (t : ℕ) → (t < first + n) ⊎ (confirms old.history t ≡ true) → t ≤ old.last_ticket
    by t (inl below) = omega arith
    by t (inr before) = given t before

-- a frame that may be reached is one of the memory
in_memory-change : (event : Event) (outcome : Outcome) (old new : State) → LedgerChange event outcome old new → length new.frames ≡ length old.frames → AreInMemory old.history (length old.frames)
    → AreInMemory new.history (length new.frames)
in_memory-change event outcome old new change size low = subst (λ n. AreInMemory new.history n) (sym size) (by change)
  where
    entered : (e : HistoryEntry) → ((device frame : ℕ) → NamesFrame e device frame → frame < length old.frames) → (h : History) → AreInMemory h (length old.frames) → AreInMemory (e ∷ h) (length old.frames)
    entered e names h before device frame kind may = elim (reach_before e h device frame kind may) [
      | inl named ↦ names device frame named
      | inr reached ↦ before device frame kind reached
    ]

    confirmed : (first n : ℕ) → AreInMemory (confirmed_from first n old.history) (length old.frames)
    confirmed first zero = low
    confirmed first (suc n) = entered (entries.Confirmed (first + n)) (λ device frame named. absurd named) (confirmed_from first n old.history) (confirmed first n)

    by : LedgerChange event outcome old new → AreInMemory new.history (length old.frames)
    by (LedgerChange.ledger_stays unchanged) = subst (λ h. AreInMemory h (length old.frames)) (sym unchanged.0) low
    by (LedgerChange.detaches unchanged next) = subst (λ h. AreInMemory h (length old.frames)) (sym unchanged) low
    by (LedgerChange.grants id page frame rights granted below empty extended tickets) = subst (λ h. AreInMemory h (length old.frames)) (sym extended)
        (entered (entries.Granted id page frame rights) (λ device named same. subst (λ n. n < length old.frames) same.1 below) old.history low)
    by (LedgerChange.releases id page extended next) = subst (λ h. AreInMemory h (length old.frames)) (sym extended)
        (entered (entries.Released id page new.last_ticket) (λ device frame named. absurd named) old.history low)
    by (LedgerChange.releases_all id extended next) = subst (λ h. AreInMemory h (length old.frames)) (sym extended)
        (entered (entries.AllReleased id new.last_ticket) (λ device frame named. absurd named) old.history low)
    by (LedgerChange.confirms_some first n most extended tickets reaches) = subst (λ h. AreInMemory h (length old.frames)) (sym extended) (confirmed first n)

-- what is kept where a frame gets an owner
abbrev pub KeptByOwners : (List Frame → Type 0) → Type 0
KeptByOwners P = (frames : List Frame) (number : ℕ) (owner : Owner) → P frames → P (with_frame frames number (λ frame. record frame { owner = Some owner }))

-- what is kept where a write that is so is made
abbrev pub KeptByWrites : (AcceptedAccess → Type 0) → (List Frame → Type 0) → Type 0
KeptByWrites W P = (frames : List Frame) (made : AcceptedAccess) → W made → made.access.kind ≡ kinds.Write → P frames
    → P (stored frames made.frame (offset_of made.access) made.access.bytes)

-- what is kept where bytes are written within one frame
abbrev pub KeptByPokes : (List Frame → Type 0) → Type 0
KeptByPokes P = (frames : List Frame) (number offset : ℕ) (bytes : List ℕ) → offset + length bytes ≤ 4096 → P frames → P (stored frames number offset bytes)

-- what is kept where frames are given back
abbrev pub KeptByReturns : (List Frame → Type 0) → Type 0
KeptByReturns P = (frames : List Frame) (has_left : Option Owner → Bool) → P frames → P (map (λ frame. given_back (has_left frame.owner) frame) frames)

-- what is kept where a frame is emptied
abbrev pub KeptByEmptying : (List Frame → Type 0) → Type 0
KeptByEmptying P = (frames : List Frame) (number : ℕ) → P frames → P (with_frame frames number (λ frame. empty_frame))

kept-emptied : (P : List Frame → Type 0) → KeptByEmptying P → (numbers : List ℕ) (frames : List Frame) → P frames → P (frames_returned numbers frames)
kept-emptied P emptied [] frames its = its
kept-emptied P emptied (number ∷ numbers) frames its = kept-emptied P emptied numbers _ (emptied frames number its)

kept-reserved : (P : List Frame → Type 0) → KeptByOwners P → (owner : Owner) (numbers : List ℕ) (frames : List Frame) → P frames → P (reserved_for owner numbers frames)
kept-reserved P owned owner [] frames its = its
kept-reserved P owned owner (number ∷ numbers) frames its = kept-reserved P owned owner numbers _ (owned frames number owner its)

-- A step keeps what reserving frames keeps, and giving them back, and making the writes in flight, and the processor's own.
frames-change : (W : AcceptedAccess → Type 0) (P : List Frame → Type 0) → KeptByOwners P → KeptByReturns P → KeptByEmptying P → KeptByWrites W P → KeptByPokes P
    → (old new : State) → AllInFlight (λ id flight. W flight) old.devices → FramesChange old new → P old.frames → P new.frames
frames-change W P owned returned emptied written poked old new all (FramesChange.frames_stay same) its = subst P (sym same) its
frames-change W P owned returned emptied written poked old new all (FramesChange.reserves id pages taken same) its =
    subst P (sym same) (kept-reserved P owned (OneDevice id) taken _ (kept-reserved P owned System pages old.frames its))
frames-change W P owned returned emptied written poked old new all (FramesChange.gives_back has_left same) its = subst P (sym same) (returned old.frames has_left its)
frames-change W P owned returned emptied written poked old new all (FramesChange.returns numbers same) its = subst P (sym same) (kept-emptied P emptied numbers old.frames its)
frames-change W P owned returned emptied written poked old new all (FramesChange.writes id device made at first write same) its =
    let fact = All-at W device.in_flight 0 made (AllInFlight-of (λ id flight. W flight) old.devices id device at all) first in
    subst P (sym same) (written old.frames made fact write its)
frames-change W P owned returned emptied written poked old new all (FramesChange.pokes number offset bytes fits same) its =
    subst P (sym same) (poked old.frames number offset bytes fits its)

-- bytes that are written within a frame keep its length
whole-poked : KeptByPokes AreWholeFrames
whole-poked frames number offset bytes fits all = All-with_frame (λ (f : Frame). length f.bytes ≡ 4096) frames number
    (λ frame. record frame { bytes = with_bytes frame.bytes offset bytes })
    (λ frame long. length-with_bytes frame.bytes offset bytes (subst (λ n. offset + length bytes ≤ n) (sym long) fits) ∙ long) all

-- frames that are given back have a page of zeros
whole-returned : KeptByReturns AreWholeFrames
whole-returned frames has_left all =
    All-map (λ (f : Frame). length f.bytes ≡ 4096) (λ frame. given_back (has_left frame.owner) frame) frames
    (All-weaker (λ (f : Frame). length f.bytes ≡ 4096) (λ (f : Frame). length (given_back (has_left f.owner) f).bytes ≡ 4096) (λ frame long. by frame (has_left frame.owner) long) frames all)
  where
    by : (frame : Frame) (b : Bool) → length frame.bytes ≡ 4096 → length (given_back b frame).bytes ≡ 4096
    by frame true long = length-replicate {A = ℕ} 4096 0
    by frame false long = long

-- and so has one that is emptied
whole-emptied : KeptByEmptying AreWholeFrames
whole-emptied frames number all =
    All-with_frame (λ (f : Frame). length f.bytes ≡ 4096) frames number (λ frame. empty_frame) (λ frame long. length-replicate {A = ℕ} 4096 0) all

-- and so does a write of a device
whole-stored : KeptByWrites (IsWhole 0) AreWholeFrames
whole-stored frames made whole write all =
    whole-poked frames made.frame (offset_of made.access) made.access.bytes (subst (λ n. offset_of made.access + n ≤ 4096) (sym (whole.1 write)) whole.0.1) all

pub length-with_frame : (frames : List Frame) (number : ℕ) (change : Frame → Frame) → length (with_frame frames number change) ≡ length frames
length-with_frame frames number change = by (slice_get frames number)
  where
    by : (found : Option Frame) → length (option_map_or (λ frame. slice_set frames number (change frame)) found frames) ≡ length frames
    by None = refl
    by (Some frame) = grind (arith, common_steps)

pub length-reserved_for : (owner : Owner) (numbers : List ℕ) (frames : List Frame) → length (reserved_for owner numbers frames) ≡ length frames
length-reserved_for owner [] frames = refl
length-reserved_for owner (number ∷ numbers) frames =
    length-reserved_for owner numbers (with_frame frames number (λ frame. record frame { owner = Some owner }))
    ∙ length-with_frame frames number (λ frame. record frame { owner = Some owner })

all_so : {X : Type 0} (xs : List X) → All (λ x. Unit {0}) xs
all_so xs k d below = tt

-- A step keeps the number of frames.
pub same_size-change : (old new : State) → FramesChange old new → length new.frames ≡ length old.frames
same_size-change old new change =
    frames-change (λ flight. Unit {0}) (λ frames. length frames ≡ length old.frames)
    (λ frames number owner same. length-with_frame frames number (λ frame. record frame { owner = Some owner }) ∙ same)
    (λ frames has_left same. length-map frames (λ frame. given_back (has_left frame.owner) frame) ∙ same)
    (λ frames number same. length-with_frame frames number (λ frame. empty_frame) ∙ same)
    (λ frames made fact write same. length-with_frame frames made.frame (λ frame. record frame { bytes = with_bytes frame.bytes (offset_of made.access) made.access.bytes }) ∙ same)
    (λ frames number offset bytes fits same. length-with_frame frames number (λ frame. record frame { bytes = with_bytes frame.bytes offset bytes }) ∙ same)
    old new (λ k d below. all_so _) change refl

pub invariants-step : (old new : State) (event : Event) (outcome : Outcome) → StateInvariant old → Step old event outcome new → StateInvariant new
invariants-step old new event outcome invariants step =
    let change = step_change old new event outcome step in
    record {
      reaches = reaches-change event outcome old new change.ledger invariants.tickets
          (in_flight-change (StillMay old.history) event outcome old new change.devices (λ id flight whole may. may) invariants.reaches);
      whole = in_flight-change IsWhole event outcome old new change.devices (λ id flight whole may. whole) invariants.whole;
      tickets = tickets-change event outcome old new change.ledger invariants.tickets;
      frames = frames-change (IsWhole 0) AreWholeFrames
          (λ frames number owner all. All-with_frame (λ (f : Frame). length f.bytes ≡ 4096) frames number (λ frame. record frame { owner = Some owner }) (λ frame its. its) all)
          whole-returned whole-emptied whole-stored whole-poked old new invariants.whole change.frames invariants.frames;
      in_memory = in_memory-change event outcome old new change.ledger (same_size-change old new change.frames) invariants.in_memory;
    }

pub invariants-run : (old new : State) (events : List Event) (outcomes : List Outcome) → StateInvariant old → Run old events outcomes new → StateInvariant new
invariants-run old new [] [] invariants run = subst StateInvariant (sym run) invariants
invariants-run old new (event ∷ events) (outcome ∷ outcomes) invariants (mid, step, run) = invariants-run mid new events outcomes (invariants-step old mid event outcome invariants step) run
invariants-run old new [] (outcome ∷ outcomes) invariants run = absurd run
invariants-run old new (event ∷ events) [] invariants run = absurd run

-- where nothing is granted nothing is reached
never_before : (device frame : ℕ) (kind : AccessKind) → ¬ May [] device frame kind
never_before device frame kind (page, rights, inl holds, allowed) = let none : ◌≡◌ {A = Option Pair} None (Some (frame, rights)) = holds in cc
never_before device frame kind (page, rights, inr (ticket, (k, below, at)), allowed) = omega arith

pub invariants-opening : (limits : Limits) (frames levels : ℕ) (disks : List ℕ) → StateInvariant (opening limits frames levels disks)
invariants-opening limits frames levels disks = record {
  reaches = All-nil (λ (d : Device). All (StillMay [] d.id) d.in_flight);
  whole = All-nil (λ (d : Device). All (IsWhole d.id) d.in_flight);
  tickets = λ t c. cc;
  in_memory = λ device frame kind may. absurd (never_before device frame kind may);
  frames = All-reserved (λ bytes. length bytes ≡ 4096) System ((frames - 4) ∷ (frames - 3) ∷ (frames - 2) ∷ (frames - 1) ∷ []) (replicate frames empty_frame)
      (All-replicate (λ (f : Frame). length f.bytes ≡ 4096) frames empty_frame (length-replicate {A = ℕ} 4096 0));
}

-- every state that is reached is sound
pub sound_if_reached : (state : State) → IsReached state → StateInvariant state
sound_if_reached state (events, outcomes, (limits, frames, levels, disks, run)) =
    invariants-run (opening limits frames levels disks) state events outcomes (invariants-opening limits frames levels disks) run
