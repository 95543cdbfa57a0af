-- The reclaim theorem where walks take several events: of what the ledger machine sees it holds already.
use Rattle.std.proofs.Common.{◌≡◌, ℕ, ◌⊎◌, inl, inr, true, List, [], ◌∷◌, Option, None, Some, IsSomeAnd, is_some, refl, sym, ap, ◌∙◌, subst}
use Rattle.std.specs.Option.{option_map}
use Rattle.iom_base.specs.declared.device_kind.DeviceKind.TheVariants.{Raw}
use Rattle.iom_base.specs.declared.access.Access.{Access}
use Rattle.iom_base.specs.DeviceKinds.{sends_untranslated}
use Rattle.iom_base.specs.Accesses.{IsWithinPage, read_of, write_of}
use Rattle.iom_machine.specs.declared.event.Event.{Event}
use Rattle.iom_machine.specs.declared.event.Event.TheVariants as events
use Rattle.iom_machine.specs.declared.outcome.Outcome.{Outcome}
use Rattle.iom_machine.specs.declared.outcome.Outcome.TheVariants.{Accepted, BadSpan, Busy, Fault, Refused}
use Rattle.iom_machine.specs.declared.state.Device.{Device}
use Rattle.iom_machine.specs.declared.state.State.{State}
use Rattle.iom_machine.specs.Devices.{IsPlugged, device_of}
use Rattle.iom_machine.specs.Headline.{AsksFor, GrantsFrame, GrantsFrameTo}
use Rattle.iom_machine.specs.Laws.{IsReached, NoneGrants}
use Rattle.iom_machine.specs.Machine.{Requests, Step}
use Rattle.iom_machine.specs.Requests.{IsBusy, MayAnswer, state_after}
use Rattle.iom_machine.proofs.HeadlineLemmas.{in_flight_may}
use Rattle.iom_machine.proofs.InFlightLemmas.{able_act, some_case}
use Rattle.iom_machine.proofs.ReclaimLemmas.{free_frames_are_not_touched, held_pages_are_accepted, made_accesses_touch_their_own, only_grantees_touch}
use Rattle.iom_stepped_machine.specs.Laws.{Answered, GoOn, IsReachedByLoads, IsSeenAs, ledger_part, part_besides, part_whole, unless_busy}
use Rattle.iom_stepped_machine.specs.Machine.{Answer, AnswersBesides, AnswersWhole, BeginsAt, EndsWalk, IsFullBesides, IsOccupied, Load, Loaded, NoWalk, Occupied, RefusesBesides, SteppedEvent, SteppedOutcome, SteppedState, SteppedStep, Walking, Whole, asker_of, walk_at, IsAbleAt}
use Rattle.iom_stepped_machine.specs.Reclaim.{HoldsPage, IsAcceptedOn, IsSo, NoneIsSo, SteppedAccessesInFlightMay, SteppedAccessesTouchTheirOwn, SteppedFramesAreNotTouched, SteppedGranteesTouch, SteppedPagesAreAccepted}
use Rattle.iom_stepped_machine.specs.Walks.{Asking, Reads, Writes, Begins, Walk, Walks, event_of}
use Rattle.iom_stepped_machine.proofs.PartLemmas.{runs_are_runs}

-- what is reached is reached by the ledger machine too
ledger_reached : (state : SteppedState) → IsReachedByLoads state → IsReached state.ledger
ledger_reached state (events, outcomes, limits, frames, levels, disks, run) =
    let seen = runs_are_runs _ state events outcomes run in (seen.0, seen.1, (limits, frames, levels, disks, seen.3))

pub in_flight_may_still : SteppedAccessesInFlightMay
in_flight_may_still state reached = in_flight_may state.ledger (ledger_reached state reached)

pub touch_their_own : SteppedAccessesTouchTheirOwn
touch_their_own old new id outcome reached step = made_accesses_touch_their_own old.ledger new.ledger (events.Commit id) outcome (ledger_reached old reached) step.0 id refl

-- FREE FRAMES. What the ledger machine sees of an event is that event, or a request in walk
is_first : (event : Event) (outcome : Outcome) (first : Answered) → ◌≡◌ {A = Option Answered} (Some (event, outcome)) (Some first) → (first.0 ≡ event) × (first.1 ≡ outcome)
is_first event outcome first same =
    let pairs : ◌≡◌ {A = Answered} (event, outcome) first = cc in (sym (ap (λ (p : Answered). p.0) pairs), sym (ap (λ (p : Answered). p.1) pairs))

unless_first : (event : Event) (outcome : Outcome) (first : Answered) → unless_busy event outcome ≡ Some first → (first.0 ≡ event) × (first.1 ≡ outcome)
unless_first event Busy first same = cc
unless_first event _ first same = is_first event _ first same

besides_first : (event : Event) (outcome : Outcome) (first : Answered) → part_besides event outcome ≡ Some first → (first.0 ≡ event) × (first.1 ≡ outcome)
besides_first (events.Read id address len) outcome first same = unless_first (events.Read id address len) outcome first same
besides_first (events.Write id address bytes) outcome first same = unless_first (events.Write id address bytes) outcome first same
besides_first (events.ReadTranslated id address len) outcome first same = unless_first (events.ReadTranslated id address len) outcome first same
besides_first (events.WriteTranslated id address bytes) outcome first same = unless_first (events.WriteTranslated id address bytes) outcome first same
besides_first (events.ReadThroughCache id address len) outcome first same = unless_first (events.ReadThroughCache id address len) outcome first same
besides_first (events.WriteThroughCache id address bytes) outcome first same = unless_first (events.WriteThroughCache id address bytes) outcome first same
besides_first _ outcome first same = is_first _ outcome first same

whole_first : (found : Option Walk) (event : Event) (outcome : Outcome) (first : Answered) → part_whole found event outcome ≡ Some first → (first.0 ≡ event) × (first.1 ≡ outcome)
whole_first None event outcome first same = is_first event outcome first same
whole_first (Some walk) event outcome first same = besides_first event outcome first same

load_first : (found : Option Walk) (id : ℕ) (reply : Outcome) (first : Answered)
    → ◌≡◌ {A = Option Answered} (option_map (λ (walk : Walk). (event_of id walk.asking, reply)) found) (Some first) → (walk : Walk) × (first.0 ≡ event_of id walk.asking)
load_first None id reply first same = cc
load_first (Some walk) id reply first same = (walk, (is_first (event_of id walk.asking) reply first same).0)

-- so what no event is, and no request in walk can be, nothing that is seen is
module _ (Is : Event → Outcome → Type 0) (never : (id : ℕ) (asking : Asking) (outcome : Outcome) → Is (event_of id asking) outcome → ⊥) where
  not_load : (found : Option Walk) (id : ℕ) (reply : Outcome) (first : Answered)
      → ◌≡◌ {A = Option Answered} (option_map (λ (walk : Walk). (event_of id walk.asking, reply)) found) (Some first) → Is first.0 first.1 → ⊥
  not_load found id reply first same is =
      let walk = load_first found id reply first same in never id walk.0.asking first.1 (subst (λ e. Is e first.1) walk.1 is)

  not_first : (walks : Walks) (event : SteppedEvent) (outcome : SteppedOutcome) (first : Answered) → ledger_part walks event outcome ≡ Some first → ¬ IsSo Is event outcome → Is first.0 first.1 → ⊥
  not_first walks (Whole event) (Answer outcome) first same other is =
      let own = whole_first (walk_at walks (asker_of event)) event outcome first same in
      other (event, outcome, refl, refl, subst (λ o. Is event o) own.1 (subst (λ e. Is e first.1) own.0 is))
  not_first walks (Load id) (Answer (Accepted number)) first same other is = not_load (walks id) id (Accepted number) first same is
  not_first walks (Load id) (Answer (Fault cause)) first same other is = not_load (walks id) id (Fault cause) first same is
  not_first walks (Load id) (Answer _) first same other is = cc
  not_first walks (Load id) Walking first same other is = cc
  not_first walks (Load id) Occupied first same other is = cc
  not_first walks (Load id) Loaded first same other is = cc
  not_first walks (Load id) NoWalk first same other is = cc
  not_first walks (Whole event) Walking first same other is = cc
  not_first walks (Whole event) Occupied first same other is = cc
  not_first walks (Whole event) Loaded first same other is = cc
  not_first walks (Whole event) NoWalk first same other is = cc

  none_joined : (Others : List Event → List Outcome → Type 0) → ((later : List Event) (answers : List Outcome) → Others later answers → NoneGrants Is later answers)
      → (part : Option Answered) → ((first : Answered) → part ≡ Some first → Is first.0 first.1 → ⊥) → (its : List Event) (replies : List Outcome) → GoOn part Others its replies
      → NoneGrants Is its replies
  none_joined Others none None other its replies seen = none its replies seen
  none_joined Others none (Some first) other its replies (later, answers, its_first, replies_first, seen) =
      rw (its_first, replies_first) ((λ so. other first refl so), none later answers seen)

  none_seen : (old new : SteppedState) (events : List SteppedEvent) (outcomes : List SteppedOutcome) (its : List Event) (replies : List Outcome)
      → IsSeenAs old events outcomes new its replies → NoneIsSo Is events outcomes → NoneGrants Is its replies
  none_seen old new [] [] its replies (same, no_events, no_replies) none =
      subst (λ (e : List Event). NoneGrants Is e replies) (sym no_events) (subst (λ (r : List Outcome). NoneGrants Is [] r) (sym no_replies) tt)
  none_seen old new [] (outcome ∷ outcomes) its replies seen none = absurd seen
  none_seen old new (event ∷ events) [] its replies seen none = absurd seen
  none_seen old new (event ∷ events) (outcome ∷ outcomes) its replies (mid, step, on) (other, none) =
      none_joined (λ later answers. IsSeenAs mid events outcomes new later answers) (λ later answers seen. none_seen mid new events outcomes later answers seen none)
      (ledger_part old.walks event outcome) (λ first is so. not_first old.walks event outcome first is other so) its replies on

-- a request in walk grants nothing
never_grants : (d frame id : ℕ) (asking : Asking) (outcome : Outcome) → GrantsFrameTo (event_of id asking) outcome d frame → ⊥
never_grants d frame id (Reads address len) outcome (page, rights, is, done) = cc
never_grants d frame id (Writes address bytes) outcome (page, rights, is, done) = cc
never_grants d frame id (Begins access) outcome (page, rights, is, done) = cc

-- a commit is answered as ever, whatever walks there are
commit_step : (old new : SteppedState) (its : Event) (reply : Outcome) (id : ℕ) → its ≡ events.Commit id → SteppedStep old (Whole its) (Answer reply) new
    → Step old.ledger its reply new.ledger
commit_step old new its reply id is step =
    subst (λ e. Step old.ledger e reply new.ledger) (sym is) (subst (λ e. SteppedStep old (Whole e) (Answer reply) new) is step).0

-- the step of what touches a frame
touching : (old new : SteppedState) (event : SteppedEvent) (outcome : SteppedOutcome) (its : Event) (reply : Outcome) (id : ℕ) → event ≡ Whole its → outcome ≡ Answer reply
    → its ≡ events.Commit id → SteppedStep old event outcome new → Step old.ledger its reply new.ledger
touching old new event outcome its reply id is_event is_reply is step =
    commit_step old new its reply id is (subst (λ o. SteppedStep old (Whole its) o new) is_reply (subst (λ e. SteppedStep old e outcome new) is_event step))

pub frames_untouched : SteppedFramesAreNotTouched
frames_untouched free old new since replies event outcome frame reached is_free run none step (its, reply, is_event, is_reply, touches) =
    let seen = runs_are_runs free old since replies run in
    free_frames_are_not_touched free.ledger old.ledger new.ledger seen.0 seen.1 its reply (ledger_reached free reached)
    (touching old new event outcome its reply touches.0 is_event is_reply touches.1.0.0 step) frame is_free seen.3
    (none_seen (λ e o. GrantsFrame e o frame) (λ id asking o grants. never_grants grants.0 frame id asking o grants.1) free old since replies seen.0 seen.1 seen.2 none) touches

pub grantees_touch : SteppedGranteesTouch
grantees_touch free old new since replies event outcome d frame reached is_free run none step (its, reply, is_event, is_reply, touches) =
    let seen = runs_are_runs free old since replies run in
    only_grantees_touch free.ledger old.ledger new.ledger seen.0 seen.1 its reply (ledger_reached free reached)
    (touching old new event outcome its reply d is_event is_reply touches.0.0 step) d frame is_free seen.3
    (none_seen (λ e o. GrantsFrameTo e o d frame) (λ id asking o grants. never_grants d frame id asking o grants) free old since replies seen.0 seen.1 seen.2 none) touches

-- HELD PAGES. Of an event that asks for an access of the device: who asks, how it is answered beside a walk, and where a walk may begin
record IsAsking (old new : SteppedState) (event : Event) (id : ℕ) (access : Access) : Type 0 where
  pub who : asker_of event ≡ Some id
  pub occupied : IsOccupied old event → is_some (old.walks id) ≡ true
  pub besides : (reply : Outcome) → AnswersBesides old.ledger event reply new.ledger → IsAbleAt sends_untranslated old.ledger id → IsWithinPage access → ¬ IsFullBesides old.ledger id → ⊥
  pub begins : BeginsAt old event new → old.walks id ≡ None

-- a device that can ask so is refused for a bad span, or as too busy
refuses_neither : (old new : State) (id : ℕ) (access : Access) (event : Event) (reply : Outcome)
    → ((answer : Outcome) → Step old event answer new → (chosen : ℕ) × Requests chosen old id access answer new) → RefusesBesides sends_untranslated old id access event reply new
    → IsAbleAt sends_untranslated old id → IsWithinPage access → ¬ IsFullBesides old id → ⊥
refuses_neither old new id access event (Refused why) as_request step able within room =
    let found = some_case (device_of old id) _ able in
    let request = as_request (Refused why) step in (able_act sends_untranslated _ old id (Refused why) new found.0 found.1 found.2 request.1).0
refuses_neither old new id access event BadSpan as_request step able within room =
    let found = some_case (device_of old id) _ able in
    let request = as_request BadSpan step in (able_act sends_untranslated _ old id BadSpan new found.0 found.1 found.2 request.1).0 within
refuses_neither old new id access event Busy as_request step able within room = room step.2
refuses_neither old new id access event _ as_request step able within room = step

asking_so : (old new : SteppedState) (event : Event) (id : ℕ) (access : Access) → AsksFor event id access → IsAsking old new event id access
asking_so old new event id access (inl (address, len, is, same)) =
    subst (λ (e : Event). IsAsking old new e id access) (sym is) (subst (λ a. IsAsking old new (events.Read id address len) id a) (sym same) (record {
      who = refl;
      occupied = λ found. found.0;
      besides = λ reply answers.
          refuses_neither old.ledger new.ledger id (read_of address len) (events.Read id address len) reply (λ answer step. (step.0.frame, step.1)) answers;
      begins = λ walk. walk.none;
    }))
asking_so old new event id access (inr (address, bytes, is, same)) =
    subst (λ (e : Event). IsAsking old new e id access) (sym is) (subst (λ a. IsAsking old new (events.Write id address bytes) id a) (sym same) (record {
      who = refl;
      occupied = λ found. found.0;
      besides = λ reply answers.
          refuses_neither old.ledger new.ledger id (write_of address bytes) (events.Write id address bytes) reply (λ answer step. (step.0.frame, step.1)) answers;
      begins = λ walk. walk.none;
    }))

-- a device has no walk, or has one
one_or_none : (found : Option Walk) → found ≡ None → is_some found ≡ true → ⊥
one_or_none None none some = cc
one_or_none (Some walk) none some = cc

some_or_none : (found : Option Walk) (walk : Walk) → found ≡ Some walk → found ≡ None → ⊥
some_or_none None walk some none = cc
some_or_none (Some own) walk some none = cc

accepted_at_once : (old new : SteppedState) (event : Event) (outcome : SteppedOutcome) (id : ℕ) (device : Device) (access : Access) (frame : ℕ)
    → IsReachedByLoads old → SteppedStep old (Whole event) outcome new → AsksFor event id access → HoldsPage old id device access frame
    → old.walks id ≡ None → IsWithinPage access → ¬ IsBusy old.ledger.limits.in_flight device.in_flight
    → (outcome ≡ Walking) ⊎ IsAcceptedOn old device access frame outcome new
accepted_at_once old new event outcome id device access frame reached step asks holds none within room = by outcome step
  where
    asking : IsAsking old new event id access
    asking = asking_so old new event id access asks

    by : (reply : SteppedOutcome) → SteppedStep old (Whole event) reply new → (reply ≡ Walking) ⊎ IsAcceptedOn old device access frame reply new
    by (Answer reply) answers =
        let its : Step old.ledger event reply new.ledger =
        subst (λ found. AnswersWhole found old.ledger event reply new.ledger) (ap (walk_at old.walks) asking.who ∙ none) answers.0 in
        let held = held_pages_are_accepted old.ledger new.ledger event reply (ledger_reached old reached) its id frame device access asks
        holds.plugged holds.raw holds.one_stage within room holds.holds in inr (ap (λ o. Answer o) held.0, held.1)
    by Walking walk = inl refl
    by Occupied occupied = absurd (one_or_none (old.walks id) none (asking.occupied occupied.0))
    by Loaded never = absurd never
    by NoWalk never = absurd never

occupied_beside : (old new : SteppedState) (event : Event) (outcome : SteppedOutcome) (id : ℕ) (access : Access) (walk : Walk)
    → SteppedStep old (Whole event) outcome new → AsksFor event id access → old.walks id ≡ Some walk → IsAbleAt sends_untranslated old.ledger id → IsWithinPage access → ¬ IsFullBesides old.ledger id
    → outcome ≡ Occupied
occupied_beside old new event outcome id access walk step asks at able within room = by outcome step
  where
    asking : IsAsking old new event id access
    asking = asking_so old new event id access asks

    by : (reply : SteppedOutcome) → SteppedStep old (Whole event) reply new → reply ≡ Occupied
    by (Answer reply) answers =
        let besides : AnswersBesides old.ledger event reply new.ledger =
        subst (λ found. AnswersWhole found old.ledger event reply new.ledger) (ap (walk_at old.walks) asking.who ∙ at) answers.0 in
        absurd (asking.besides reply besides able within room)
    by Walking begins = absurd (some_or_none (old.walks id) walk at (asking.begins begins))
    by Occupied occupied = refl
    by Loaded never = absurd never
    by NoWalk never = absurd never

-- a request of a raw device is answered by the rule of requests
may_answer : (old new : State) (event : Event) (id : ℕ) (device : Device) (access : Access) (reply : Outcome) → Step old event reply new → AsksFor event id access
    → IsPlugged old id device → device.kind ≡ Raw → (chosen : ℕ) × MayAnswer old device access chosen reply
may_answer old new event id device access reply step (inl (address, len, is, same)) there raw =
    let its = subst (λ (e : Event). Step old e reply new) is step in
    let answer = able_act sends_untranslated (λ (d : Device). MayAnswer old d (read_of address len) its.0.frame reply × (new ≡ state_after old d (read_of address len) its.0.frame reply))
    old id reply new device there (ap sends_untranslated raw) its.1 in
    (its.0.frame, subst (λ a. MayAnswer old device a its.0.frame reply) (sym same) answer.0)
may_answer old new event id device access reply step (inr (address, bytes, is, same)) there raw =
    let its = subst (λ (e : Event). Step old e reply new) is step in
    let answer = able_act sends_untranslated (λ (d : Device). MayAnswer old d (write_of address bytes) its.0.frame reply × (new ≡ state_after old d (write_of address bytes) its.0.frame reply))
    old id reply new device there (ap sends_untranslated raw) its.1 in
    (its.0.frame, subst (λ a. MayAnswer old device a its.0.frame reply) (sym same) answer.0)

plugged_or_not : (found : Option Device) (device : Device) → found ≡ Some device → found ≡ None → ⊥
plugged_or_not None device some none = cc
plugged_or_not (Some own) device some none = cc

accepted_at_load : (old new : SteppedState) (outcome : SteppedOutcome) (id : ℕ) (device : Device) (access : Access) (frame : ℕ) (walk : Walk)
    → IsReachedByLoads old → SteppedStep old (Load id) outcome new → old.walks id ≡ Some walk → AsksFor (event_of id walk.asking) id access
    → HoldsPage old id device access frame → (outcome ≡ Loaded) ⊎ IsAcceptedOn old device access frame outcome new
accepted_at_load old new outcome id device access frame walk reached step at asks holds = by outcome step
  where
    ended : (reply : Outcome) → Step old.ledger (event_of id walk.asking) reply new.ledger → IsWithinPage access → ¬ IsBusy old.ledger.limits.in_flight device.in_flight
        → (Answer reply ≡ Loaded) ⊎ IsAcceptedOn old device access frame (Answer reply) new
    ended reply its within room =
        let held = held_pages_are_accepted old.ledger new.ledger (event_of id walk.asking) reply (ledger_reached old reached) its id frame device access asks
        holds.plugged holds.raw holds.one_stage within room holds.holds in inr (ap (λ o. Answer o) held.0, held.1)

    answered : (reply : Outcome) → Step old.ledger (event_of id walk.asking) reply new.ledger → (chosen : ℕ) × MayAnswer old.ledger device access chosen reply
    answered reply its = may_answer old.ledger new.ledger (event_of id walk.asking) id device access reply its asks holds.plugged holds.raw

    by : (reply : SteppedOutcome) → SteppedStep old (Load id) reply new → (reply ≡ Loaded) ⊎ IsAcceptedOn old device access frame reply new
    by (Answer (Accepted number)) answers =
        let ends = subst (λ (w : Option Walk). IsSomeAnd w (λ its. EndsWalk old id its (Accepted number) new)) at answers in
        let its : Step old.ledger (event_of id walk.asking) (Accepted number) new.ledger = (ends.0.0, ends.0.2) in
        let may = answered (Accepted number) its in ended (Accepted number) its may.1.0.0 may.1.0.1
    by (Answer (Fault cause)) answers =
        let ends = subst (λ (w : Option Walk). IsSomeAnd w (λ its. EndsWalk old id its (Fault cause) new)) at answers in
        let its : Step old.ledger (event_of id walk.asking) (Fault cause) new.ledger = (ends.0.0, ends.0.2) in
        let may = answered (Fault cause) its in ended (Fault cause) its may.1.0.0 may.1.0.1
    by (Answer (Refused why)) answers = absurd (plugged_or_not (device_of old.ledger id) device holds.plugged answers.1)
    by (Answer _) answers = absurd answers
    by Loaded on = inl refl
    by NoWalk none = absurd (some_or_none (old.walks id) walk at none.1)
    by Walking never = absurd never
    by Occupied never = absurd never

pub pages_accepted : SteppedPagesAreAccepted
pages_accepted = record { at_once = accepted_at_once; beside = occupied_beside; at_load = accepted_at_load }
