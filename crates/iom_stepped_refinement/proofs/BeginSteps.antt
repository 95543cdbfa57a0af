-- A REQUEST THAT BEGINS is a step of the ledger machine with walks: its walk is under way, it is answered at once, or it is refused.
use Rattle.std.proofs.Common.{true, ◌≡◌, ℕ, ◌+◌, ◌^◌, ◌<◌, ◌≤◌, ◌∙◌, is_some, IsSome, List, length, Option, Some, None, refl, sym, ap, subst, arith, if◌then◌else◌, IsSomeAnd}
use Rattle.iom_base.specs.DeviceKinds.{is_block_device, sends_untranslated}
use Rattle.iom_machine.specs.BlockDevices.{TakesStep}
use Rattle.iom_world_effects.proofs.PresentLemmas.{kind_present}
use Rattle.iom_world_effects.proofs.RowPlaces.{present_found}
use Rattle.iom_base.specs.Accesses.{IsWithinPage}
use Rattle.iom_base.specs.Sizes.{in_flight_limit}
use Rattle.iom_base.specs.declared.access.Access.{Access}
use Rattle.iom_inflight.specs.Flights.{count_in}
use Rattle.iom_inflight.specs.Flights as flights
use Rattle.iom_iommu.specs.Parts.{contexts_of, flights_of, registers_of, translations_of}
use Rattle.iom_iommu.specs.Stepped.{AnswersAtOnce, BeginsRequest, BeginsWalk, NothingChanges, beginning, places_taken, request_for, translation_by}
use Rattle.iom_iommu.specs.declared.begun.Begun.{Begun}
use Rattle.iom_iommu.specs.declared.begun.Begun.TheVariants.{Answered, Walking, Occupied}
use Rattle.iom_iommu.specs.declared.reply.Reply.{Reply}
use Rattle.iom_iommu.specs.declared.reply.Reply.TheVariants.{Accepted, Busy, BadSpan, Fault}
use Rattle.iom_machine.specs.Devices.{device_of}
use Rattle.iom_machine.specs.Machine.{Step}
use Rattle.iom_machine.specs.declared.state.Device.{Device}
use Rattle.iom_machine.specs.declared.outcome.BlockStep.TheVariants.{Waiting}
use Rattle.iom_machine.specs.declared.outcome.Outcome.{Outcome}
use Rattle.iom_machine.specs.declared.outcome.Outcome.TheVariants as outcome
use Rattle.iom_machine.specs.declared.state.State.{State}
use Rattle.iom_stepped_machine.specs.Machine as machine
use Rattle.iom_stepped_machine.specs.Machine.{AnswersWhole, SteppedState, SteppedStep, Whole}
use Rattle.iom_stepped_machine.specs.Walks.{Asking, Begins, Reads, Walk, Writes, access_of, event_of, with_walk}
use Rattle.iom_stepped_requests.specs.Laws.{RequestsEnd}
use Rattle.iom_stepped_requests.specs.Standing.{stands}
use Rattle.iom_stepped_requests.specs.Whole.{ServedWithin}
use Rattle.iom_walk_coherence.specs.Walks as copies
use Rattle.iom_walks.specs.Calls.{StartsWalking, row_walking}
use Rattle.iom_walks.specs.Walks.{UnderWay, WalkRow, under_way_of, with_row}
use Rattle.iom_world_effects.specs.Invariant.{InvariantWith}
use Rattle.iom_world_effects.specs.Parts.{Parts}
use Rattle.iom_world_effects.specs.Requests.{outcome_of_reply}
use Rattle.iom_world_effects.proofs.DriverLemmas.{DriverInvariant}
use Rattle.iom_world_effects.proofs.PartsLemmas.{StaysReady, StaysReported, parts_are}
use Rattle.iom_world_invariant.proofs.RequestStep.{acts_at, kind_found, shows_where}
use Rattle.iom_world_refinement.proofs.EventLemmas.{access_chosen, no_access}
use Rattle.iom_world_walks.proofs.BeginKeeps.{begun_answer}
use Rattle.iom_world_walks.proofs.EffectsLeave.{RecordsLeave}
use Rattle.iom_world_walks.proofs.RowLoads.{RowLaws}
use Rattle.iom_world_walks.specs.Standing.{RowsStand}
use Rattle.iom_stepped_refinement.specs.Laws.{AsksAlone, WaitsAreSteps}
use Rattle.iom_stepped_refinement.specs.Shows.{Asks, CanAsk, SteppedShow, told_at_begin}
use Rattle.iom_stepped_refinement.proofs.AnswerSteps.{AnswersSo, answer_step, device, found, full_besides, has_room, in_flight, is_full, kind_is, most, plugged_at, replied, room_besides}
use Rattle.iom_stepped_refinement.proofs.WalkShows.{none_shown, replaced_shown, shown_still, some_shown}

-- what is under way, if anything is
decide : (taken : Option UnderWay) → (R : Type 0) → (taken ≡ None → R) → (IsSome taken → R) → R
decide None R none some = none refl
decide (Some own) R none some = some refl

-- so many places are taken
taken_none : (flights_rows : flights.Flights) (rows : List WalkRow) (id : ℕ) → under_way_of rows id ≡ None → places_taken flights_rows rows id ≡ count_in (flights.row_of flights_rows.rows id)
taken_none flights_rows rows id none = by (under_way_of rows id) none
  where
    by : (u : Option UnderWay) → u ≡ None → count_in (flights.row_of flights_rows.rows id) + (if is_some u then 1 else 0) ≡ count_in (flights.row_of flights_rows.rows id)
    by None is = omega arith
    by (Some own) is = cc

pub taken_some : (flights_rows : flights.Flights) (rows : List WalkRow) (id : ℕ) → IsSome (under_way_of rows id) → places_taken flights_rows rows id ≡ count_in (flights.row_of flights_rows.rows id) + 1
taken_some flights_rows rows id some = by (under_way_of rows id) some
  where
    by : (u : Option UnderWay) → IsSome u → count_in (flights.row_of flights_rows.rows id) + (if is_some u then 1 else 0) ≡ count_in (flights.row_of flights_rows.rows id) + 1
    by None is = cc
    by (Some own) is = refl

-- AS WHERE NO WALK TAKES SEVERAL EVENTS
as_whole : (state : SteppedState) (id : ℕ) (asking : Asking) (response : Outcome) (next : State) → state.walks id ≡ None → Step state.ledger (event_of id asking) response next
    → SteppedStep state (Whole (event_of id asking)) (machine.Answer response) (record state { ledger = next })
as_whole state id (Reads address len) response next none step = (subst (λ w. AnswersWhole w state.ledger (event_of id (Reads address len)) response next) (sym none) step, refl)
as_whole state id (Writes address bytes) response next none step = (subst (λ w. AnswersWhole w state.ledger (event_of id (Writes address bytes)) response next) (sym none) step, refl)
as_whole state id (Begins access) response next none step = (subst (λ w. AnswersWhole w state.ledger (event_of id (Begins access)) response next) (sym none) step, refl)

-- one that is under way already
pub waits_step : WaitsAreSteps
waits_step parts id rows state (kind, there, block) some shows =
    let walk = some_shown (length parts.memory) parts.devices rows state.walks shows.walks id some in
    let is = present_found parts.driver.devices (flights_of parts.iommu).rows parts.devices id (kind_present parts.devices id kind there) in
    let able = ap is_block_device (kind_found parts.driver.devices (flights_of parts.iommu).rows parts.devices id kind is there) ∙ block in
    let step =
    acts_at is_block_device (λ d. TakesStep state.ledger d no_access 0 (outcome.Stepped Waiting) state.ledger) parts state.ledger id (outcome.Stepped Waiting) state.ledger shows.ledger.devices is able
    (tt, refl) in
    (subst (λ w. AnswersWhole w state.ledger (event_of id (Begins no_access)) (outcome.Stepped Waiting) state.ledger) (sym walk.1) (access_chosen no_access 0, step), refl)

-- a walk begins
begins_at : (state : SteppedState) (id : ℕ) (asking : Asking) (own : Device) → device_of state.ledger id ≡ Some own → CanAsk own.kind asking → IsWithinPage (access_of asking)
    → length own.in_flight < state.ledger.limits.in_flight → state.walks id ≡ None
    → SteppedStep state (Whole (event_of id asking)) machine.Walking (record state { walks = with_walk state.walks id (Some (record { asking = asking; loads = 0 })) })
begins_at state id (Reads address len) own plugged can within room none = record { device = own; plugged = plugged; able = can; within = within; room = room; none = none; begun = refl }
begins_at state id (Writes address bytes) own plugged can within room none = record { device = own; plugged = plugged; able = can; within = within; room = room; none = none; begun = refl }
begins_at state id (Begins access) own plugged can within room none =
    (access, can.1, record { device = own; plugged = plugged; able = can.0; within = within; room = room; none = none; begun = refl })

module _ {walks : List copies.Walk} (laws : RowLaws) (ends : RequestsEnd) (old new : Parts) (events id : ℕ) (rows new_rows : List WalkRow) (invariants : InvariantWith walks old events)
    (own : DriverInvariant old.driver) (stays_ready : StaysReady old.driver) (reported : StaysReported old.driver) (recorded_leaves : RecordsLeave old.driver) (driver : new.driver ≡ old.driver)
    (devices : new.devices ≡ old.devices) (fabric : new.fabric ≡ old.fabric) (below : (flights_of old.iommu).so_far < events) (stand : RowsStand old.driver old.memory walks rows)
    (asking : Asking) (fits : (access_of asking).address < 2 ^ 64) (asks : Asks old.devices id asking) (alone : AsksAlone rows id asking) (state : SteppedState) (shows : SteppedShow old rows state) where
  abbrev IsStep : machine.SteppedOutcome → Type 0
  IsStep response = (next : SteppedState) × SteppedStep state (Whole (event_of id asking)) response next × SteppedShow new new_rows next

  abbrev access : Access
  access = access_of asking

  none_walks : under_way_of rows id ≡ None → state.walks id ≡ None
  none_walks none = none_shown (length old.memory) old.devices rows state.walks shows.walks id none

  shows_same : NothingChanges old.memory old.iommu rows new.memory new.iommu new_rows → SteppedShow new new_rows state
  shows_same (memory, iommu, rows_stay) =
      let same : new ≡ old = parts_are new old.memory old.iommu old.driver old.devices old.fabric memory iommu driver devices fabric in
      subst (λ parts. SteppedShow parts new_rows state) (sym same) (subst (λ rs. SteppedShow old rs state) (sym rows_stay) shows)

  -- the machine sees that the device can ask so
  able : sends_untranslated asks.kind ≡ true → machine.IsAbleAt sends_untranslated state.ledger id
  able can =
      subst (λ d. IsSomeAnd d (λ device. sends_untranslated device.kind ≡ true)) (sym (plugged_at old state.ledger shows.ledger id asking asks))
      (ap sends_untranslated (kind_is old state.ledger shows.ledger id asking asks) ∙ can)

  -- what the machine answers to itself
  bad_span : ¬ IsWithinPage access → NothingChanges old.memory old.iommu rows new.memory new.iommu new_rows → IsStep (machine.Answer outcome.BadSpan)
  bad_span wide same =
      decide (under_way_of rows id) (IsStep (machine.Answer outcome.BadSpan)) (λ none. (
        state,
        as_whole state id asking outcome.BadSpan state.ledger (none_walks none) (access_chosen access 0, answer_step old state.ledger shows.ledger id asking asks BadSpan 0 state.ledger wide refl),
        shows_same same,
      ))
      (λ some.
      let walk = some_shown (length old.memory) old.devices rows state.walks shows.walks id some in (
        state,
        by asking (access_chosen access 0, answer_step old state.ledger shows.ledger id asking asks BadSpan 0 state.ledger wide refl) alone walk.0 walk.1,
        shows_same same,
      ))
    where
      by : (asking : Asking) → Step state.ledger (event_of id asking) outcome.BadSpan state.ledger → AsksAlone rows id asking → (walk : Walk) → state.walks id ≡ Some walk
          → SteppedStep state (Whole (event_of id asking)) (machine.Answer outcome.BadSpan) state
      by (Reads address len) step alone walk is = (subst (λ w. AnswersWhole w state.ledger (event_of id (Reads address len)) outcome.BadSpan state.ledger) (sym is) step, refl)
      by (Writes address bytes) step alone walk is = (subst (λ w. AnswersWhole w state.ledger (event_of id (Writes address bytes)) outcome.BadSpan state.ledger) (sym is) step, refl)
      by (Begins other) step alone walk is = let both : Some walk ≡ None = sym is ∙ none_walks alone in cc

  busy : IsWithinPage access → in_flight_limit ≤ places_taken (flights_of old.iommu) rows id → NothingChanges old.memory old.iommu rows new.memory new.iommu new_rows → IsStep (machine.Answer outcome.Busy)
  busy within full same =
      decide (under_way_of rows id) (IsStep (machine.Answer outcome.Busy)) (λ none.
      let many : in_flight_limit ≤ count_in (flights.row_of (flights_of old.iommu).rows id) = subst (λ n. in_flight_limit ≤ n) (taken_none (flights_of old.iommu) rows id none) full in (
        state,
        as_whole state id asking outcome.Busy state.ledger (none_walks none) (
          access_chosen access 0,
          answer_step old state.ledger shows.ledger id asking asks Busy 0 state.ledger (within, is_full old state.ledger shows.ledger id asking asks many) refl,
        ),
        shows_same same,
      ))
      (λ some.
      let many : in_flight_limit ≤ count_in (flights.row_of (flights_of old.iommu).rows id) + 1 = subst (λ n. in_flight_limit ≤ n) (taken_some (flights_of old.iommu) rows id some) full in
      let walk = some_shown (length old.memory) old.devices rows state.walks shows.walks id some in
      (state, by asking asks.can within alone (full_besides old state.ledger shows.ledger id asking asks many) walk.0 walk.1, shows_same same))
    where
      by : (asking : Asking) → CanAsk asks.kind asking → IsWithinPage (access_of asking) → AsksAlone rows id asking → machine.IsFullBesides state.ledger id → (walk : Walk) → state.walks id ≡ Some walk
          → SteppedStep state (Whole (event_of id asking)) (machine.Answer outcome.Busy) state
      by (Reads address len) can within alone full walk is = (subst (λ w. AnswersWhole w state.ledger (event_of id (Reads address len)) outcome.Busy state.ledger) (sym is) (able can, within, full, refl), refl)
      by (Writes address bytes) can within alone full walk is = (subst (λ w. AnswersWhole w state.ledger (event_of id (Writes address bytes)) outcome.Busy state.ledger) (sym is) (able can, within, full, refl), refl)
      by (Begins other) can within alone full walk is = let both : Some walk ≡ None = sym is ∙ none_walks alone in cc

  -- one of the device is under way
  occupied : IsWithinPage access → places_taken (flights_of old.iommu) rows id < in_flight_limit → IsSome (under_way_of rows id)
      → NothingChanges old.memory old.iommu rows new.memory new.iommu new_rows → IsStep machine.Occupied
  occupied within few some same =
      let room : count_in (flights.row_of (flights_of old.iommu).rows id) + 1 < in_flight_limit = subst (λ n. n < in_flight_limit) (taken_some (flights_of old.iommu) rows id some) few in
      let walk = some_shown (length old.memory) old.devices rows state.walks shows.walks id some in
      (state, by asking asks.can within alone (room_besides old state.ledger shows.ledger id asking asks room) walk.0 walk.1, shows_same same)
    where
      by : (asking : Asking) → CanAsk asks.kind asking → IsWithinPage (access_of asking) → AsksAlone rows id asking → ¬ machine.IsFullBesides state.ledger id → (walk : Walk) → state.walks id ≡ Some walk
          → SteppedStep state (Whole (event_of id asking)) machine.Occupied state
      by (Reads address len) can within alone room walk is = ((rw is refl, able can, within, room), refl)
      by (Writes address bytes) can within alone room walk is = ((rw is refl, able can, within, room), refl)
      by (Begins other) can within alone room walk is = let both : Some walk ≡ None = sym is ∙ none_walks alone in cc

  -- IT IS UNDER WAY
  walking : new.memory ≡ old.memory → BeginsWalk old.iommu rows id access new.iommu new_rows → IsStep machine.Walking
  walking memory begins = (
    next,
    begins_at state id asking (device old state.ledger shows.ledger id asking asks) (plugged_at old state.ledger shows.ledger id asking asks)
        (subst (λ kind. CanAsk kind asking) (sym (kind_is old state.ledger shows.ledger id asking asks)) asks.can) begins.may.within few (none_walks begins.may.idle),
    shown,
  )
    where
      starts : StartsWalking rows (request_for id access) access.len access.bytes (beginning old.iommu id access) new_rows
      starts = begins.begun

      walk : Walk
      walk = record { asking = asking; loads = 0 }

      next : SteppedState
      next = record state { walks = with_walk state.walks id (Some walk) }

      room : count_in (flights.row_of (flights_of old.iommu).rows id) < in_flight_limit
      room = subst (λ n. n < in_flight_limit) (taken_none (flights_of old.iommu) rows id begins.may.idle) begins.may.room

      few : length (device old state.ledger shows.ledger id asking asks).in_flight < state.ledger.limits.in_flight
      few = let low = room in let many = in_flight old state.ledger shows.ledger id asking asks in let eight = most old state.ledger shows.ledger id asking asks in omega (arith, low, many, eight)

      within_27 : ServedWithin 27 (length old.memory) (stands (length old.memory) starts.walk)
      within_27 =
          subst (ServedWithin 27 (length old.memory)) (sym (starts.has_begun (length old.memory)))
          (ends (length old.memory) (registers_of old.iommu).ddtp (contexts_of old.iommu id) (translations_of old.iommu) (request_for id access)).0

      shown : SteppedShow new new_rows next
      shown = record {
        ledger = shows_where old new state.ledger (rw memory shows.ledger.frames) driver devices (ap (λ parts. parts.flights) begins.rest) shows.ledger;
        walks =
            shown_still (length old.memory) (length new.memory) old.devices new.devices (with_row rows (row_walking starts.row (request_for id access) access.len access.bytes starts.walk)) new_rows next.walks
            (ap (λ m. length m) memory) devices starts.after
            (replaced_shown (length old.memory) old.devices rows state.walks shows.walks id starts.row (row_walking starts.row (request_for id access) access.len access.bytes starts.walk) (Some walk)
            starts.was_there refl
            (walk, refl, record { asks = asks; access = refl; left = 27; ends = within_27; few = omega arith }));
      }

  -- IT IS ANSWERED AT ONCE, as a whole request may be
  at_once : (reply : Reply) → AnswersAtOnce old.memory old.iommu rows id access reply new.memory new.iommu new_rows → IsStep (machine.Answer (outcome_of_reply reply))
  at_once reply answers =
      let room : count_in (flights.row_of (flights_of old.iommu).rows id) < in_flight_limit = subst (λ n. n < in_flight_limit) (taken_none (flights_of old.iommu) rows id answers.may.idle) answers.may.room in
      let so : AnswersSo state.ledger (device old state.ledger shows.ledger id asking asks) access reply new (length old.memory) =
      replied old new events id access invariants own reported driver devices fabric state.ledger shows.ledger (found old state.ledger shows.ledger id asking asks) answers.may.within
      (has_room old state.ledger shows.ledger id asking asks room) (translation_by old.memory access.address access.kind answers.answer) reply answers.replied
      (begun_answer laws old new events id rows new_rows invariants own stays_ready reported recorded_leaves driver devices fabric below stand access fits reply answers) in (
        record state { ledger = so.next },
        as_whole state id asking (outcome_of_reply reply) so.next (none_walks answers.may.idle)
            (access_chosen access so.frame, answer_step old state.ledger shows.ledger id asking asks reply so.frame so.next so.may so.after),
        record {
          ledger = so.shows;
          walks = shown_still (length old.memory) (length new.memory) old.devices new.devices rows new_rows state.walks so.size devices answers.begun.1 shows.walks;
        },
      )

  pub begin_step : (begun : Begun) → BeginsRequest old.memory old.iommu rows id access begun new.memory new.iommu new_rows → IsStep (told_at_begin begun)
  begin_step (Answered BadSpan) (wide, same) = bad_span wide same
  begin_step (Answered Busy) (within, full, same) = busy within full same
  begin_step Occupied (within, few, some, same) = occupied within few some same
  begin_step Walking (memory, begins) = walking memory begins
  begin_step (Answered (Accepted number)) answers = at_once (Accepted number) answers
  begin_step (Answered (Fault cause)) answers = at_once (Fault cause) answers
