-- A poll confirms the oldest pending tickets in the ledger machine, such that each access in flight may still reach its frame, and gives back what devices had that left under them.
use Rattle.std.proofs.Common.{suc, zero, ◌≡◌, ◌≢◌, ◌+◌, ◌-◌, ◌<◌, ◌≤◌, ◌==◌, ◌||◌, ◌∙◌, ℕ, inl, Bool, true, false, not, nat_le, List, [], ◌∷◌, map, Option, Some, None, slice_get, Result, Ok, Err, refl, sym, ap, subst, arith, inl, inr, if◌then◌else◌}
use Rattle.std.proofs.lemmas.Bool.{false≢true, or_from}
use Rattle.std.proofs.lemmas.Bool.Decides.{eqb_tells, leb_tells}
use Rattle.std.proofs.lemmas.List.Elements.{All-nil}
use Rattle.iom_walk_coherence.specs.Walks.{Walk}
use Rattle.iom_base.specs.declared.owner.Owner.{Owner}
use Rattle.iom_base.specs.declared.owner.Owner.TheVariants.{System, OneDevice}
use Rattle.iom_driver.specs.declared.answers.Polled.{Polled}
use Rattle.iom_driver.specs.declared.device.Attachment as owned
use Rattle.iom_driver.specs.declared.device.Attachment.TheVariants as attached
use Rattle.iom_driver.specs.declared.device.Device as known
use Rattle.iom_driver.specs.declared.device.Stages.{Stages}
use Rattle.iom_driver.specs.Confirmed as driver
use Rattle.iom_driver.specs.Devices.{attachment_by_id}
use Rattle.iom_driver.specs.Polling.{AnswersPoll, ConfirmsDone}
use Rattle.iom_driver.specs.State.{DriverState}
use Rattle.iom_driver.proofs.Gone.{after, attachment_confirmed, none_left, nobody_gone, marks_same}
use Rattle.iom_driver.proofs.Lists.{differs}
use Rattle.iom_iommu.specs.OwnIommu.{Iommu}
use Rattle.iom_iommu.specs.Parts.{registers_of, flights_of}
use Rattle.iom_inflight.specs.Flights.{FlightRow}
use Rattle.iom_ledger.specs.History.{confirmed_from, History, confirms}
use Rattle.iom_base.specs.declared.refusal.Refusal.{Refusal}
use Rattle.iom_base.specs.declared.refusal.Refusal.TheVariants.{NotStarted}
use Rattle.iom_base.specs.Refusals.{first_that_applies}
use Rattle.iom_ledger.specs.Shown.{Agrees}
use Rattle.iom_machine.specs.declared.outcome.Outcome.{Outcome}
use Rattle.iom_machine.specs.declared.outcome.Outcome.TheVariants.{Confirmed, NoneConfirmed}
use Rattle.iom_machine.specs.declared.state.Attachment.{Attachment}
use Rattle.iom_machine.specs.declared.state.Attachment.TheVariants.{Detached, Leaving}
use Rattle.iom_machine.specs.declared.state.Frame.{Frame}
use Rattle.iom_machine.specs.declared.state.State.{State}
use Rattle.iom_machine.specs.Machine as machine
use Rattle.iom_machine.specs.Devices.{EachInFlightMay}
use Rattle.iom_machine.specs.Leaving.{has_left, once_confirmed, device_once_confirmed, is_of_left, with_left}
use Rattle.iom_machine.specs.Returning.{MayGiveBack}
use Rattle.iom_machine.specs.Tickets.{last_confirmed, with_confirmed}
use Rattle.iom_phys_mem.specs.Words.{zeroed}
use Rattle.iom_device.specs.declared.device.Device.{Device}
use Rattle.iom_world_effects.specs.Devices.{shown_attachment, shown_device, shown_devices}
use Rattle.iom_world_effects.specs.Effect.{PollsTickets, outcome_of_poll}
use Rattle.iom_world_effects.specs.Frames.{ShowsFrames}
use Rattle.iom_world_effects.specs.Parts.{Parts}
use Rattle.iom_world_effects.specs.Shows.{PartsShow}
use Rattle.iom_world_effects.specs.Invariant.{InvariantWith}
use Rattle.iom_world_refinement.proofs.BackFrames.{mark_back, GivesFramesBack, back, shows_given_back}
use Rattle.iom_world_effects.proofs.DriverLemmas.{DriverInvariant}
use Rattle.iom_world_effects.proofs.FrameLemmas.{shows_kept}
use Rattle.iom_world_refinement.proofs.PlaceLemmas.{attached_so}
use Rattle.iom_world_invariant.proofs.PollKeeps.{polled_most}
use Rattle.iom_world_refinement.proofs.ReasonLemmas.{how_shown}

-- THE TICKETS

-- the last ticket that is confirmed, and those after it
last_of : (confirmed n : ℕ) (h : History) → last_confirmed h ≡ confirmed → last_confirmed (confirmed_from (confirmed + 1) n h) ≡ confirmed + n
last_of confirmed zero h before = omega (arith, before)
last_of confirmed (suc n) h before = omega arith

none_after : (first n ticket : ℕ) (h : History) → first + n ≤ ticket → confirms h ticket ≡ false → confirms (confirmed_from first n h) ticket ≡ false
none_after first zero ticket h above none = none
none_after first (suc n) ticket h above none =
    let differ : first + n ≢ ticket = λ same. absurd (omega arith) in
    or_from _ _ (differs (first + n) ticket differ) (none_after first n ticket h (omega arith) none)

-- each from the first on is confirmed
or_true : (b c : Bool) → c ≡ true → (b || c) ≡ true
or_true true c is = refl
or_true false c is = is

each_among : (first n ticket : ℕ) (h : History) → first ≤ ticket → ticket < first + n → confirms (confirmed_from first n h) ticket ≡ true
each_among first zero ticket h over below = absurd (omega (arith, over, below))
each_among first (suc n) ticket h over below = elim (eqb_tells (first + n) ticket) [
  | inl e ↦ rw e.0 refl
  | inr ne ↦ or_true (first + n == ticket) (confirms (confirmed_from first n h) ticket) (each_among first n ticket h over (lower first n ticket ne.1 below))
]
  where
    lower : (first n ticket : ℕ) → first + n ≢ ticket → ticket < first + suc n → ticket < first + n
    lower first n ticket apart below = elim (leb_tells (first + n) ticket) [
      | inl over ↦ absurd (apart (let le : first + n ≤ ticket = over.1 in omega (arith, le, below)))
      | inr under ↦ under.1
    ]

-- a ticket that waited is confirmed exactly where it isn't above the last
confirms_is : (confirmed n ticket : ℕ) (h : History) → confirmed < ticket → confirms h ticket ≡ false
    → confirms (confirmed_from (confirmed + 1) n h) ticket ≡ nat_le ticket (confirmed + n)
confirms_is confirmed n ticket h over none = elim (leb_tells ticket (confirmed + n)) [
  | inl low ↦ let le : ticket ≤ confirmed + n = low.1 in each_among (confirmed + 1) n ticket h (omega (arith, over)) (omega (arith, le)) ∙ sym low.0
  | inr high ↦ let lt : confirmed + n < ticket = high.1 in none_after (confirmed + 1) n ticket h (omega (arith, lt)) none ∙ sym high.0
]

-- what was confirmed stays so
still_confirmed : (first n ticket : ℕ) (h : History) → confirms h ticket ≡ true → confirms (confirmed_from first n h) ticket ≡ true
still_confirmed first zero ticket h is = is
still_confirmed first (suc n) ticket h is = or_true (first + n == ticket) (confirms (confirmed_from first n h) ticket) (still_confirmed first n ticket h is)

-- so all up to the last are confirmed then
all_up_to : (confirmed n ticket : ℕ) (h : History) → (ticket ≤ confirmed → confirms h ticket ≡ true) → ticket ≤ confirmed + n
    → confirms (confirmed_from (confirmed + 1) n h) ticket ≡ true
all_up_to confirmed n ticket h earlier low = elim (leb_tells ticket confirmed) [
  | inl before ↦ still_confirmed (confirmed + 1) n ticket h (earlier before.1)
  | inr after ↦ each_among (confirmed + 1) n ticket h (let lt : confirmed < ticket = after.1 in omega (arith, lt)) (omega (arith, low))
]

-- THE DEVICES

-- the history confirms the ticket of a leaving device as the driver does
abbrev ConfirmsAs : History → ℕ → owned.Attachment → Type 0
ConfirmsAs h done attached.Detached = Unit {0}
ConfirmsAs h done (attached.Attached stage) = Unit {0}
ConfirmsAs h done (attached.Quarantined ticket stage) = Unit {0}
ConfirmsAs h done (attached.Leaving ticket stage) = confirms h ticket ≡ nat_le ticket done

left_as : (h : History) (done : ℕ) (how : owned.Attachment) → ConfirmsAs h done how → has_left h (shown_attachment how) ≡ driver.has_left_until done how
left_as h done attached.Detached same = refl
left_as h done (attached.Attached stage) same = refl
left_as h done (attached.Quarantined ticket stage) same = refl
left_as h done (attached.Leaving ticket stage) same = same

once_as : (h : History) (done : ℕ) (how : owned.Attachment) → ConfirmsAs h done how → once_confirmed h (shown_attachment how) ≡ shown_attachment (after done how)
once_as h done attached.Detached same = refl
once_as h done (attached.Attached stage) same = refl
once_as h done (attached.Quarantined ticket stage) same = refl
once_as h done (attached.Leaving ticket stage) same = ap (λ (b : Bool). if b then Detached else Leaving ticket stage.mode stage.ats) same ∙ by (nat_le ticket done)
  where
    by : (b : Bool) → ◌≡◌ {A = Attachment} (if b then Detached else Leaving ticket stage.mode stage.ats) (shown_attachment (if b then attached.Detached else attached.Leaving ticket stage))
    by true = refl
    by false = refl

confirmed_as : (h : History) (confirmed n given : ℕ) (how : owned.Attachment) → ((ticket : ℕ) → confirmed < ticket → confirms h ticket ≡ false)
    → ((ticket : ℕ) (stage : Stages) → how ≡ attached.Leaving ticket stage → (confirmed < ticket) × (ticket ≤ given))
    → ConfirmsAs (confirmed_from (confirmed + 1) n h) (confirmed + n) how
confirmed_as h confirmed n given attached.Detached none leaves = tt
confirmed_as h confirmed n given (attached.Attached stage) none leaves = tt
confirmed_as h confirmed n given (attached.Quarantined ticket stage) none leaves = tt
confirmed_as h confirmed n given (attached.Leaving ticket stage) none leaves =
    let over = (leaves ticket stage refl).0 in confirms_is confirmed n ticket h over (none ticket over)

-- the devices that are shown once their tickets are confirmed
shown_once : (known known' : List known.Device) (rows : List FlightRow) (devices : List Device) (h : History)
    → ((id : ℕ) → once_confirmed h (shown_attachment (attachment_by_id known id)) ≡ shown_attachment (attachment_by_id known' id))
    → map (device_once_confirmed h) (shown_devices known rows devices) ≡ shown_devices known' rows devices
shown_once known known' rows [] h same = refl
shown_once known known' rows (device ∷ others) h same =
    ap (λ how. attached_so rows device how ∷ map (device_once_confirmed h) (shown_devices known rows others)) (same device.id)
    ∙ ap (λ ds. shown_device known' rows device ∷ ds) (shown_once known known' rows others h same)

-- and where they are attached as before
pub shown_alike : (known known' : List known.Device) (rows : List FlightRow) (devices : List Device) → ((id : ℕ) → attachment_by_id known' id ≡ attachment_by_id known id)
    → shown_devices known rows devices ≡ shown_devices known' rows devices
shown_alike known known' rows [] same = refl
shown_alike known known' rows (device ∷ others) same =
    ap (λ how. attached_so rows device (shown_attachment how) ∷ shown_devices known rows others) (sym (same device.id))
    ∙ ap (λ ds. shown_device known' rows device ∷ ds) (shown_alike known known' rows others same)

-- THE FRAMES

-- where the machine's owners have left as the driver's, the frames are given back
module _ (done : ℕ) (known : List known.Device) (left : Option Owner → Bool) (none : left None ≡ false) (same : (owner : Owner) → left (Some owner) ≡ driver.is_gone done known owner) where
  mark_as : (mark : Option Owner) → mark_back left mark ≡ driver.owner_given_back done known mark
  mark_as None = ap (λ (b : Bool). if b then None else None) none
  mark_as (Some owner) = ap (λ (b : Bool). if b then None else Some owner) (same owner)

  marks_as : (owners : List (Option Owner)) → map (mark_back left) owners ≡ map (driver.owner_given_back done known) owners
  marks_as [] = refl
  marks_as (mark ∷ owners) = ap (λ (m : Option Owner). m ∷ map (mark_back left) owners) (mark_as mark) ∙ ap (λ ms. driver.owner_given_back done known mark ∷ ms) (marks_as owners)

  gives_as : (owners : List (Option Owner)) (memory memory' : List (List ℕ)) → driver.ClearsGone done known owners memory memory' → GivesFramesBack left owners memory memory'
  gives_as owners memory memory' clears = record { size = clears.size; own = own; others = others }
    where
      own : (n : ℕ) (mark : Option Owner) → slice_get owners n ≡ Some mark → left mark ≡ true → slice_get memory' n ≡ Some zeroed
      own n None at gone = absurd (false≢true (sym none ∙ gone))
      own n (Some owner) at gone = clears.own n owner at (sym (same owner) ∙ gone)

      others : (n : ℕ) (mark : Option Owner) → slice_get owners n ≡ Some mark → left mark ≡ false → slice_get memory' n ≡ slice_get memory n
      others n mark at unchanged = clears.others n (λ owner here.
          let both : Some mark ≡ Some (Some owner) = sym at ∙ here in
          let is : mark ≡ Some owner = cc in
          sym (same owner) ∙ ap left (sym is) ∙ unchanged)

  frames_back : (owners : List (Option Owner)) (memory memory' : List (List ℕ)) (frames : List Frame) → ShowsFrames memory owners frames → driver.ClearsGone done known owners memory memory'
      → ShowsFrames memory' (map (driver.owner_given_back done known) owners) (map (back left none) frames)
  frames_back owners memory memory' frames shows clears =
      subst (λ ms. ShowsFrames memory' ms (map (back left none) frames)) (marks_as owners)
      (shows_given_back left none owners memory memory' frames shows (gives_as owners memory memory' clears))

-- THE STEP

-- the machine's state with these tickets confirmed, before what they leave is given back
abbrev confirmed_state : Parts → ℕ → State → State
confirmed_state old count state = record state { history = confirmed_from (old.driver.confirmed + 1) count state.history }

-- how a device's ticket is confirmed
as_driver : (old : Parts) (count : ℕ) (state : State) → DriverInvariant old.driver → PartsShow old state → (id : ℕ)
    → ConfirmsAs (confirmed_from (old.driver.confirmed + 1) count state.history) (old.driver.confirmed + count) (attachment_by_id old.driver.devices id)
as_driver old count state invariants shows id =
    confirmed_as state.history old.driver.confirmed count old.driver.given (attachment_by_id old.driver.devices id) shows.none_later
    (λ ticket stage at. invariants.leaving id ticket stage at)

-- an owner has left in the machine where it has in the driver
owner_left : {walks : List Walk} (old : Parts) (events count : ℕ) (state : State) → InvariantWith walks old events → DriverInvariant old.driver → PartsShow old state → (owner : Owner)
    → is_of_left (confirmed_state old count state) (Some owner) ≡ driver.is_gone (old.driver.confirmed + count) old.driver.devices owner
owner_left old events count state invariants driver_invariant shows System = refl
owner_left old events count state invariants driver_invariant shows (OneDevice id) =
    let h = confirmed_from (old.driver.confirmed + 1) count state.history in
    ap (has_left h) (how_shown old events state id invariants shows)
    ∙ left_as h (old.driver.confirmed + count) (attachment_by_id old.driver.devices id) (as_driver old count state driver_invariant shows id)

-- what a world shows after so many tickets were confirmed, and what they leave is given back
shows_polled : {walks : List Walk} (old new : Parts) (events : ℕ) (state : State) (polled : Polled) → InvariantWith walks old events → DriverInvariant old.driver → new.iommu ≡ old.iommu → new.devices ≡ old.devices → PartsShow old state
    → ConfirmsDone (registers_of old.iommu) old.driver old.memory polled new.driver new.memory
    → PartsShow new (with_left (confirmed_state old polled.count state))
shows_polled old new events state polled invariants driver_invariant iommu devices shows does_confirm =
    let d = old.driver in
    let done = d.confirmed + polled.count in
    let h = confirmed_from (d.confirmed + 1) polled.count state.history in
    let rows = (flights_of old.iommu).rows in
    let left = is_of_left (confirmed_state old polled.count state) in
    let frames = frames_back done d.devices left refl (owner_left old events polled.count state invariants driver_invariant shows) d.owners old.memory new.memory state.frames shows.frames does_confirm.cleared in
    let once = shown_once d.devices (map (driver.driven_once_confirmed done) d.devices) rows old.devices h
    (λ id. once_as h done (attachment_by_id d.devices id) (as_driver old polled.count state driver_invariant shows id) ∙ ap shown_attachment (sym (attachment_confirmed done d.devices id))) in
    record {
      ledger = does_confirm.agrees state.history shows.ledger;
      frames = rw (ap (λ (x : DriverState). x.owners) does_confirm.driver) frames;
      devices = rw (devices, ap (λ (i : Iommu). (flights_of i).rows) iommu, ap (λ (x : DriverState). x.devices) does_confirm.driver)
          (ap (λ ds. map (device_once_confirmed h) ds) shows.devices ∙ once);
      given = rw (ap (λ (x : DriverState). x.given) does_confirm.driver) shows.given;
      confirmed = rw (ap (λ (x : DriverState). x.confirmed) does_confirm.driver) (last_of d.confirmed polled.count state.history shows.confirmed);
      all_earlier = rw (ap (λ (x : DriverState). x.confirmed) does_confirm.driver)
          (λ ticket above up_to. all_up_to d.confirmed polled.count ticket state.history (λ low. shows.all_earlier ticket above low) up_to);
      none_later = rw (ap (λ (x : DriverState). x.confirmed) does_confirm.driver)
          (λ ticket above. none_after (d.confirmed + 1) polled.count ticket state.history (omega (arith, above)) (shows.none_later ticket (omega (arith, above))));
      levels = rw (ap (λ (x : DriverState). x.levels) does_confirm.driver) shows.levels;
      limits = shows.limits;
    }

-- and where none was confirmed
shows_none : (old new : Parts) (state : State) (polled : Polled) → DriverInvariant old.driver → new.iommu ≡ old.iommu → new.devices ≡ old.devices → PartsShow old state
    → ConfirmsDone (registers_of old.iommu) old.driver old.memory polled new.driver new.memory → polled.count ≡ 0 → PartsShow new state
shows_none old new state polled invariants iommu devices shows does_confirm none =
    let d = old.driver in
    let done = d.confirmed + polled.count in
    let same : done ≡ d.confirmed = omega (arith, none) in
    let rows = (flights_of old.iommu).rows in
    let stay : (id : ℕ) → driver.has_left_until done (attachment_by_id d.devices id) ≡ false =
    λ id. ap (λ n. driver.has_left_until n (attachment_by_id d.devices id)) same ∙ none_left d.devices d.given d.confirmed invariants.leaving id in
    let nobody = nobody_gone d.devices done stay in
    let owners = marks_same done d.devices d.owners nobody in
    let frames = shows_kept old.memory new.memory d.owners state.frames shows.frames (λ k free. does_confirm.cleared.others k (λ owner at. nobody owner)) does_confirm.cleared.size in
    let alike = shown_alike d.devices (map (driver.driven_once_confirmed done) d.devices) rows old.devices
    (λ id. attachment_confirmed done d.devices id ∙ ap (λ (b : Bool). if b then attached.Detached else attachment_by_id d.devices id) (stay id)) in
    record {
      ledger = subst (λ n. Agrees new.driver.ledger (confirmed_from (d.confirmed + 1) n state.history)) none (does_confirm.agrees state.history shows.ledger);
      frames = subst (λ ms. ShowsFrames new.memory ms state.frames) (sym (ap (λ (x : DriverState). x.owners) does_confirm.driver ∙ owners)) frames;
      devices = rw (devices, ap (λ (i : Iommu). (flights_of i).rows) iommu, ap (λ (x : DriverState). x.devices) does_confirm.driver) (shows.devices ∙ alike);
      given = rw (ap (λ (x : DriverState). x.given) does_confirm.driver) shows.given;
      confirmed = shows.confirmed ∙ sym same ∙ sym (ap (λ (x : DriverState). x.confirmed) does_confirm.driver);
      all_earlier = rw (ap (λ (x : DriverState). x.confirmed) does_confirm.driver) (λ ticket above up_to. shows.all_earlier ticket above (omega (arith, up_to, same)));
      none_later = rw (ap (λ (x : DriverState). x.confirmed) does_confirm.driver) (λ ticket above. shows.none_later ticket (omega (arith, above, same)));
      levels = rw (ap (λ (x : DriverState). x.levels) does_confirm.driver) shows.levels;
      limits = shows.limits;
    }

-- what is told of so many tickets
abbrev told_of_count : ℕ → ℕ → Bool → Outcome
told_of_count first count timed_out = if count == 0 then NoneConfirmed timed_out else Confirmed first (first + count - 1) timed_out

-- the tickets are told and confirmed, by how many they are
confirmed_so : (old new : Parts) (first count : ℕ) (timed_out : Bool) (state : State) → ((s : State) → PartsShow new s → EachInFlightMay s) → PartsShow old state
    → PartsShow new (with_left (confirmed_state old count state)) → (count ≡ 0 → PartsShow new state) → old.driver.confirmed + count ≤ old.driver.given
    → (n : ℕ) → count ≡ n → first ≡ (if n == 0 then 0 else old.driver.confirmed + 1)
    → (next : State) × machine.Polls [] state (told_of_count first n timed_out) next × PartsShow new next
confirmed_so old new first count timed_out state may shows shows' shows_old most zero none is = (state, (All-nil (MayGiveBack state), refl), shows_old none)
confirmed_so old new first count timed_out state may shows shows' shows_old most (suc m) some is =
    let c = old.driver.confirmed in
    let test : (suc m == 0) ≡ false = differs (suc m) 0 (λ e. absurd (omega (arith, e))) in
    let begin : first ≡ c + 1 = is ∙ ap (λ b. if b then 0 else c + 1) test in
    let last : first + suc m - 1 ≡ c + suc m = omega (arith, begin) in
    let long : suc (first + suc m - 1 - first) ≡ count = omega (arith, begin, some) in
    let same : confirmed_from (c + 1) count state.history ≡ confirmed_from first (suc (first + suc m - 1 - first)) state.history =
    ap (λ f. confirmed_from f count state.history) (sym begin) ∙ ap (λ n. confirmed_from first n state.history) (sym long) in
    let shown : PartsShow new (with_left (with_confirmed state first (first + suc m - 1))) = subst (λ h. PartsShow new (with_left (record state { history = h }))) same shows' in
    let confirmed = shows.confirmed in
    let given = shows.given in (
      with_left (with_confirmed state first (first + suc m - 1)),
      subst (λ b. machine.Polls [] state (if b then NoneConfirmed timed_out else Confirmed first (first + suc m - 1) timed_out) (with_left (with_confirmed state first (first + suc m - 1)))) (sym test) (
        inl (omega (arith, begin, confirmed), omega arith, omega (arith, last, most, some, given)),
        refl,
        may (with_left (with_confirmed state first (first + suc m - 1))) shown,
      ),
      shown,
    )

-- a driver that is started isn't refused a poll
started_refuses : (started : Bool) (why : Refusal) → started ≡ true → first_that_applies ((not started, NotStarted) ∷ []) ≡ Some why → ⊥
started_refuses true why on refused = cc
started_refuses false why on refused = false≢true on

pub poll_step : {walks : List Walk} (old new : Parts) (events after : ℕ) (reply : Outcome) → InvariantWith walks old events → DriverInvariant old.driver → InvariantWith walks new after → PollsTickets old reply new
    → ((s : State) → PartsShow new s → EachInFlightMay s) → (state : State) → PartsShow old state → (next : State) × machine.Polls [] state reply next × PartsShow new next
poll_step old new events later reply invariants driver_invariant invariants' effect may state shows = by effect.answer effect.reply_is effect.call
  where
    by : (answer : Result Polled Refusal) → reply ≡ outcome_of_poll answer → AnswersPoll (registers_of old.iommu) old.driver old.memory answer new.driver new.memory
        → (next : State) × machine.Polls [] state reply next × PartsShow new next
    by (Ok polled) tells (admitted, does_confirm) =
        let most = polled_most (registers_of old.iommu) old.driver old.memory polled new.driver new.memory driver_invariant does_confirm in
        let done = confirmed_so old new polled.first polled.count polled.timed_out state may shows
        (shows_polled old new events state polled invariants driver_invariant effect.iommu effect.devices shows does_confirm)
        (λ none. shows_none old new state polled driver_invariant effect.iommu effect.devices shows does_confirm none) most polled.count refl does_confirm.first in
        (done.0, subst (λ (o : Outcome). machine.Polls [] state o done.0) (sym tells) done.1, done.2)
    by (Err why) tells (refused, driver, memory) = absurd (started_refuses old.driver.started why invariants.started refused)
