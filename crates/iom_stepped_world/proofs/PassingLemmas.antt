-- A request that needs no walk does what its event is to do, beside what is under way.
use Rattle.std.proofs.Common.{◌≡◌, ◌≢◌, ◌⊎◌, ◌+◌, ◌∙◌, ◌<◌, ◌≤◌, inl, inr, ℕ, Bool, true, false, List, Option, None, Some, is_some, IsSome, Result, if◌then◌else◌, ap, arith, refl, sym, subst}
use Rattle.iom_base.specs.Accesses.{IsWithinPage, at_frame, read_of, write_of}
use Rattle.iom_base.specs.DeviceKinds.{forges, sends_through_cache}
use Rattle.iom_base.specs.Sizes.{in_flight_limit}
use Rattle.iom_base.specs.declared.access.Access.{Access}
use Rattle.iom_base.specs.declared.device_kind.DeviceKind.{DeviceKind}
use Rattle.iom_base.specs.declared.refusal.Refusal.{Refusal}
use Rattle.iom_base.specs.declared.refusal.Refusal.TheVariants.{NoSuchDevice, WrongKind}
use Rattle.iom_board.specs.BoardParts.{BoardParts}
use Rattle.iom_board.specs.Permits.{IsPermitted}
use Rattle.iom_board.proofs.Permitted.{added}
use Rattle.iom_board.specs.Requests.{Replies}
use Rattle.iom_board.specs.declared.answers.CacheReply.{CacheReply}
use Rattle.iom_board.specs.declared.answers.CacheReply.TheVariants.{Miss, Replied}
use Rattle.iom_device.specs.Caches.{IsAble}
use Rattle.iom_iommu.specs.Parts.{flights_of, frames_of}
use Rattle.iom_iommu.specs.Stepped.{AnswersTranslatedBeside, places_taken}
use Rattle.iom_iommu.specs.Translated.{AnswersTranslated}
use Rattle.iom_iommu.specs.declared.reply.Reply.{Reply}
use Rattle.iom_iommu.specs.declared.reply.Reply.TheVariants as reply
use Rattle.iom_inflight.specs.Calls.{HasRoom, IsFull}
use Rattle.iom_inflight.specs.Flights.{FlightRow, Flights, count_in, row_of as flight_row}
use Rattle.iom_machine.specs.declared.event.Event.{Event}
use Rattle.iom_machine.specs.declared.event.Event.TheVariants as events
use Rattle.iom_machine.specs.declared.outcome.Outcome.{Outcome}
use Rattle.iom_machine.specs.declared.outcome.Outcome.TheVariants as outcome
use Rattle.iom_stepped_board.specs.Requests.{RequestsTranslatedBeside}
use Rattle.iom_stepped_board.specs.ThroughCache.{GoesByCacheBeside, GoesByFrameBeside, RequestsThroughCacheBeside}
use Rattle.iom_stepped_machine.specs.Machine.{Answer, Whole, asker_of}
use Rattle.iom_stepped_refinement.specs.Effect.{BusySo, HappensSo}
use Rattle.iom_stepped_refinement.specs.Laws.{AsksAsEver, NeedsNoWalk, able_for}
use Rattle.iom_stepped_world.specs.Asked.{AsksThroughCache, SaysTranslated}
use Rattle.iom_stepped_world.specs.Happens.{Does, StaysIfRefused}
use Rattle.iom_stepped_world.specs.Shown.{SteppedShown}
use Rattle.iom_stepped_world.proofs.Around.{Around, leads, nothing_changed, rows_stay, stays_refused}
use Rattle.iom_stepped_world.proofs.FramesStay.{same_frames}
use Rattle.iom_walks.specs.Walks.{UnderWay, WalkRow, under_way_of}
use Rattle.iom_world.specs.OnHardware.{hardware_of, outcome_of_cache_reply, outcome_unless}
use Rattle.iom_world.proofs.InParts.{same_parts}
use Rattle.iom_world_effects.proofs.PresentLemmas.{kind_absent}
use Rattle.iom_world_effects.specs.Effect.{Effect}
use Rattle.iom_world_effects.specs.Invariant.{AreKnown, PartsInvariant}
use Rattle.iom_world_effects.specs.Parts.{Parts}
use Rattle.iom_world_effects.specs.Requests.{AsksTranslated, IsReplied, outcome_of_reply}
use Rattle.iom_world_effects.specs.ThroughCache.{DeviceAsksThroughCache, FindsFrame, cached_frame}
use Rattle.iom_world_refinement.proofs.RefusedSame.{refused_same}
use Rattle.iom_world_walks.specs.Events.{GivesUp}

-- beside what is under way it is answered as ever: nothing of the device is under way, or it is refused, or it is of a bad span, or finds a place
abbrev pub FindsPlace : Parts → List WalkRow → ℕ → Outcome → Type 0
FindsPlace old rows id answered =
    (under_way_of rows id ≡ None) ⊎ ((why : Refusal) × (answered ≡ outcome.Refused why))
    ⊎ ((answered ≢ outcome.Busy) × ((answered ≡ outcome.BadSpan) ⊎ (places_taken (flights_of old.iommu) rows id < in_flight_limit)))

-- or what is under way takes the last place
pub record IsBusyBeside (can : DeviceKind → Bool) (old : Parts) (rows : List WalkRow) (id : ℕ) (access : Access) (answered : Outcome) (new : Parts) : Type 0 where
  pub able : IsAble can old.devices id
  pub under_way : IsSome (under_way_of rows id)
  pub within : IsWithinPage access
  pub full : in_flight_limit ≤ places_taken (flights_of old.iommu) rows id
  pub busy : answered ≡ outcome.Busy
  pub same : new ≡ old

abbrev pub Passes : (DeviceKind → Bool) → (Outcome → Type 0) → Parts → List WalkRow → ℕ → Access → Outcome → Parts → Type 0
Passes can Asks old rows id access answered new = IsBusyBeside can old rows id access answered new ⊎ (Asks answered × FindsPlace old rows id answered)

-- the places that are taken are those of its accesses, where nothing of it is under way
taken_idle : (flights : Flights) (rows : List WalkRow) (id : ℕ) → under_way_of rows id ≡ None → places_taken flights rows id ≡ count_in (flight_row flights.rows id)
taken_idle flights rows id idle = rw idle (omega arith)

taken_more : (flights : Flights) (rows : List WalkRow) (id : ℕ) → places_taken flights rows id < in_flight_limit → count_in (flight_row flights.rows id) < in_flight_limit
taken_more flights rows id room = by (is_some (under_way_of rows id)) room
  where
    by : (b : Bool) → count_in (flight_row flights.rows id) + (if b then 1 else 0) < in_flight_limit → count_in (flight_row flights.rows id) < in_flight_limit
    by true lt = omega (arith, lt)
    by false lt = omega (arith, lt)

-- its row is there
full_row : (flights : Flights) (id : ℕ) → in_flight_limit ≤ count_in (flight_row flights.rows id) → IsFull flights id
full_row flights id full = by (flight_row flights.rows id) refl full
  where
    by : (found : Option FlightRow) → flight_row flights.rows id ≡ found → in_flight_limit ≤ count_in found → IsFull flights id
    by None at many = absurd (omega (arith, many))
    by (Some row) at many = record { row = row; stands = at; full = many }

room_row : (flights : Flights) (id : ℕ) → IsSome (flight_row flights.rows id) → count_in (flight_row flights.rows id) < in_flight_limit → HasRoom flights id
room_row flights id some room = by (flight_row flights.rows id) refl some room
  where
    by : (found : Option FlightRow) → flight_row flights.rows id ≡ found → IsSome found → count_in found < in_flight_limit → HasRoom flights id
    by None at none few = cc
    by (Some row) at here few = record { row = row; stands = at; room = few }

-- parts of hardware that are the same one by one
board_same : (old new : BoardParts) → new.memory ≡ old.memory → new.iommu ≡ old.iommu → new.devices ≡ old.devices → new.fabric ≡ old.fabric → new ≡ old
board_same old new memory iommu devices fabric =
    ap (λ m. record new { memory = m }) memory ∙ ap (λ i. record new { memory = old.memory; iommu = i }) iommu
    ∙ ap (λ d. record new { memory = old.memory; iommu = old.iommu; devices = d }) devices ∙ ap (λ f. record old { fabric = f }) fabric

module _ (old new : Parts) (rows : List WalkRow) (id : ℕ) (stays : new.driver ≡ old.driver) where
  abbrev NoPlace : Access → Reply → Type 0
  NoPlace access given =
      IsSome (under_way_of rows id) × IsWithinPage access × (in_flight_limit ≤ places_taken (flights_of old.iommu) rows id) × (given ≡ reply.Busy) × (new ≡ old)

  abbrev IsAnswered : Access → Reply → Type 0
  IsAnswered access given = (IsReplied (AnswersTranslated old.memory old.iommu id access) old (outcome_of_reply given) new × FindsPlace old rows id (outcome_of_reply given)) ⊎ NoPlace access given

  -- A DEVICE SAYS that its address is translated
  replied : (access : Access) (given : Reply) → Replies (AnswersTranslatedBeside old.memory old.iommu rows id access) (hardware_of old) given (hardware_of new) → IsAnswered access given
  replied access reply.BadSpan so =
      inl (record { reply = reply.BadSpan; reply_is = refl; call = so.call; driver = stays; devices = so.devices; fabric = so.fabric }, inr (inr (λ is. cc, inl refl)))
  replied access (reply.Accepted number) so =
      inl (record { reply = reply.Accepted number; reply_is = refl; call = so.call.1; driver = stays; devices = so.devices; fabric = so.fabric }, inr (inr (λ is. cc, inr so.call.0)))
  replied access (reply.Fault cause) so =
      inl (record { reply = reply.Fault cause; reply_is = refl; call = so.call.1; driver = stays; devices = so.devices; fabric = so.fabric }, inr (inr (λ is. cc, inr so.call.0)))
  replied access reply.Busy so = by (under_way_of rows id) refl
    where
      by : (u : Option UnderWay) → under_way_of rows id ≡ u → IsAnswered access reply.Busy
      by None idle = inl (
        record {
          reply = reply.Busy;
          reply_is = refl;
          call = (so.call.0, full_row (flights_of old.iommu) id (subst (λ n. in_flight_limit ≤ n) (taken_idle (flights_of old.iommu) rows id idle) so.call.1), so.call.2, so.call.3);
          driver = stays;
          devices = so.devices;
          fabric = so.fabric;
        },
        inl idle,
      )
      by (Some own) walks =
          inr (ap is_some walks, so.call.0, so.call.1, refl, same_parts old new (board_same (hardware_of old) (hardware_of new) so.call.3 so.call.2 so.devices so.fabric) stays)

  pub translated_passes : (access : Access) (answer : Result Reply Refusal) → RequestsTranslatedBeside (hardware_of old) rows id access answer (hardware_of new)
      → Passes forges (λ o. AsksTranslated old id access o new) old rows id access (outcome_unless outcome_of_reply answer) new
  translated_passes access answer (inl none) =
      subst (λ a. Passes forges (λ o. AsksTranslated old id access o new) old rows id access (outcome_unless outcome_of_reply a) new) (sym none.answered)
      (inr (inl (record { absent = kind_absent old.devices id none.absent; reply_is = refl; same = same_parts old new none.same stays }), inr (inl (NoSuchDevice, refl))))
  translated_passes access answer (inr (inl wrong)) =
      subst (λ a. Passes forges (λ o. AsksTranslated old id access o new) old rows id access (outcome_unless outcome_of_reply a) new) (sym wrong.answered) (inr (
        inr (inl (record { kind = wrong.kind; there = wrong.there; cannot = wrong.cannot; reply_is = refl; same = same_parts old new wrong.same stays })),
        inr (inl (WrongKind, refl)),
      ))
  translated_passes access answer (inr (inr does)) =
      subst (λ a. Passes forges (λ o. AsksTranslated old id access o new) old rows id access (outcome_unless outcome_of_reply a) new) (sym does.answered) (elim (replied access does.given does.call) [
        | inl so ↦ inr (inr (inr (does.able, so.0)), so.1)
        | inr busy ↦ inl (record { able = does.able; under_way = busy.0; within = busy.1; full = busy.2; busy = ap outcome_of_reply busy.3; same = busy.4 })
      ])

  module _ (added : IsAble sends_through_cache old.devices id → IsSome (flight_row (flights_of old.iommu).rows id)) where
    abbrev CachePasses : Access → CacheReply → Type 0
    CachePasses access given =
        Passes sends_through_cache (λ o. DeviceAsksThroughCache sends_through_cache old id access o new) old rows id access (outcome_of_cache_reply given) new

    by_frame : (access : Access) (frame : Option ℕ) (given : CacheReply) → IsAble sends_through_cache old.devices id → IsWithinPage access → places_taken (flights_of old.iommu) rows id < in_flight_limit
        → frame ≡ cached_frame old id access → GoesByFrameBeside frame rows id access (hardware_of old) given (hardware_of new) → CachePasses access given
    by_frame access None Miss able within room is same = inr (
      inr (inr (
        able,
        inr (inr (
          within,
          room_row (flights_of old.iommu) id (added able) (taken_more (flights_of old.iommu) rows id room),
          subst (λ f. FindsFrame f old id access outcome.Miss new) is (refl, same_parts old new same stays),
        )),
      )),
      inr (inr (λ busy. cc, inr room)),
    )
    by_frame access None (Replied given) able within room is never = absurd never
    by_frame access (Some frame) Miss able within room is never = absurd never
    by_frame access (Some frame) (Replied given) able within room is so = elim (replied (at_frame frame access) given so) [
      | inl found ↦ inr (
        inr (inr (
          able,
          inr (inr (
            within,
            room_row (flights_of old.iommu) id (added able) (taken_more (flights_of old.iommu) rows id room),
            subst (λ f. FindsFrame f old id access (outcome_of_reply given) new) is found.0,
          )),
        )),
        found.1,
      )
      | inr busy ↦ absurd (omega (arith, busy.2, room))
    ]

    by_cache : (access : Access) (given : CacheReply) → IsAble sends_through_cache old.devices id → GoesByCacheBeside rows id access (hardware_of old) given (hardware_of new) → CachePasses access given
    by_cache access given able (inl (outside, is, same)) =
        subst (CachePasses access) (sym is) (inr (inr (inr (able, inl (outside, refl, same_parts old new same stays))), inr (inr (λ busy. cc, inl refl))))
    by_cache access given able (inr (inl (within, full, is, same))) = subst (CachePasses access) (sym is) (by (under_way_of rows id) refl)
      where
        by : (u : Option UnderWay) → under_way_of rows id ≡ u → CachePasses access (Replied reply.Busy)
        by None idle = inr (
          inr (inr (able, inr (inl (within, full_row (flights_of old.iommu) id (subst (λ n. in_flight_limit ≤ n) (taken_idle (flights_of old.iommu) rows id idle) full), refl, same_parts old new same stays)))),
          inl idle,
        )
        by (Some own) walks = inl (record { able = able; under_way = ap is_some walks; within = within; full = full; busy = refl; same = same_parts old new same stays })
    by_cache access given able (inr (inr (within, room, finds))) = by_frame access (cached_frame old id access) given able within room refl finds

    pub cached_passes : (access : Access) (answer : Result CacheReply Refusal) → RequestsThroughCacheBeside sends_through_cache (hardware_of old) rows id access answer (hardware_of new)
        → Passes sends_through_cache (λ o. DeviceAsksThroughCache sends_through_cache old id access o new) old rows id access (outcome_unless outcome_of_cache_reply answer) new
    cached_passes access answer (inl none) =
        subst (λ a. Passes sends_through_cache (λ o. DeviceAsksThroughCache sends_through_cache old id access o new) old rows id access (outcome_unless outcome_of_cache_reply a) new) (sym none.answered)
        (inr (inl (record { absent = kind_absent old.devices id none.absent; reply_is = refl; same = same_parts old new none.same stays }), inr (inl (NoSuchDevice, refl))))
    cached_passes access answer (inr (inl wrong)) =
        subst (λ a. Passes sends_through_cache (λ o. DeviceAsksThroughCache sends_through_cache old id access o new) old rows id access (outcome_unless outcome_of_cache_reply a) new) (sym wrong.answered) (inr (
          inr (inl (record { kind = wrong.kind; there = wrong.there; cannot = wrong.cannot; reply_is = refl; same = same_parts old new wrong.same stays })),
          inr (inl (WrongKind, refl)),
        ))
    cached_passes access answer (inr (inr does)) =
        subst (λ a. Passes sends_through_cache (λ o. DeviceAsksThroughCache sends_through_cache old id access o new) old rows id access (outcome_unless outcome_of_cache_reply a) new) (sym does.answered)
        (by_cache access does.given does.able does.call)

-- SO THE EVENT does what it is to do
module _ (old new : SteppedShown) (id : ℕ) (access : Access) (answered : Outcome) (rows : new.rows ≡ old.rows) (can : DeviceKind → Bool) (Asks : Outcome → Type 0) where
  passed_so : (event : Event) → NeedsNoWalk event → asker_of event ≡ Some id → able_for event ≡ can → ((device : ℕ) → GivesUp old.world.parts event answered device → ⊥)
      → (Asks answered → Effect old.world.disks old.world.parts event answered new.world.parts)
      → Passes can Asks old.world.parts old.rows id access answered new.world.parts
      → (BusySo old.world.parts old.rows id access event (Answer answered) new.world.parts new.rows ⊎ HappensSo old.world.disks old.world.parts old.rows event (Answer answered) new.world.parts new.rows)
      × StaysIfRefused (Answer answered) old new
  passed_so event needs asker able keeps effect (inl busy) = (
    inl (record {
      able = subst (λ c. IsAble c old.world.parts.devices id) (sym able) busy.able;
      under_way = busy.under_way;
      within = busy.within;
      full = busy.full;
      told = ap (λ (o : Outcome). Answer o) busy.busy;
      same = (busy.same, rows);
    }),
    nothing_changed old new (Answer answered) busy.same rows,
  )
  passed_so event needs asker able keeps effect (inr (asks, place)) = (
    inr (record {
      answered = answered;
      told = refl;
      effect = effect asks;
      asks = by place;
      leaves = rows_stay old.world.parts event answered old.rows new.rows rows keeps;
    }),
    stays_refused old new answered (refused_same old.world.disks old.world.parts new.world.parts event answered (effect asks)) (λ why is. rows),
  )
    where
      same_asker : (other : ℕ) → asker_of event ≡ Some other → id ≡ other
      same_asker other is = let both : Some id ≡ Some other = sym asker ∙ is in cc

      by : FindsPlace old.world.parts old.rows id answered → AsksAsEver old.world.parts old.rows event answered
      by (inl idle) = inl (λ other is. subst (λ n. under_way_of old.rows n ≡ None) (same_asker other is) idle)
      by (inr (inl refused)) = inr (inl refused)
      by (inr (inr (not_busy, inl bad))) = inr (inr (record { needs_none = needs; not_busy = not_busy; room = λ other is. inl bad }))
      by (inr (inr (not_busy, inr room))) =
          inr (inr (record { needs_none = needs; not_busy = not_busy; room = λ other is. inr (subst (λ n. places_taken (flights_of old.world.parts.iommu) old.rows n < in_flight_limit) (same_asker other is) room) }))

abbrev PassesTo : SteppedShown → ℕ → Access → Outcome → SteppedShown → Type 0
PassesTo old id access answered new = Passes forges (λ o. AsksTranslated old.world.parts id access o new.world.parts) old.world.parts old.rows id access answered new.world.parts

pub translated_does : (old new : SteppedShown) (event : Event) (id : ℕ) (access : Access) (answered : Outcome) → Around old new → new.rows ≡ old.rows → new.world.disks ≡ old.world.disks
    → new.world.inside ≡ old.world.inside → frames_of new.world.parts.iommu ≡ frames_of old.world.parts.iommu → SaysTranslated event id access
    → Passes forges (λ o. AsksTranslated old.world.parts id access o new.world.parts) old.world.parts old.rows id access answered new.world.parts → Does old (Whole event) (Answer answered) new
translated_does old new (events.ReadTranslated device address len) id access answered around rows disks inside frames (own, same) passes =
    let here = subst (λ n. PassesTo old n (read_of address len) answered new) (sym own) (subst (λ a. PassesTo old id a answered new) (sym same) passes) in
    let so = passed_so old new device (read_of address len) answered rows forges (λ o. AsksTranslated old.world.parts device (read_of address len) o new.world.parts)
    (events.ReadTranslated device address len) tt refl refl (λ d gives. gives) (λ asks. asks) here in
    record {
      leads = leads old new (Whole (events.ReadTranslated device address len)) (Answer answered) around tt so.0 disks frames;
      inside = inside;
      refused = so.1;
    }
translated_does old new (events.WriteTranslated device address bytes) id access answered around rows disks inside frames (own, same) passes =
    let here = subst (λ n. PassesTo old n (write_of address bytes) answered new) (sym own) (subst (λ a. PassesTo old id a answered new) (sym same) passes) in
    let so = passed_so old new device (write_of address bytes) answered rows forges (λ o. AsksTranslated old.world.parts device (write_of address bytes) o new.world.parts)
    (events.WriteTranslated device address bytes) tt refl refl (λ d gives. gives) (λ asks. asks) here in
    record {
      leads = leads old new (Whole (events.WriteTranslated device address bytes)) (Answer answered) around tt so.0 disks frames;
      inside = inside;
      refused = so.1;
    }
translated_does old new _ id access answered around rows disks inside frames never passes = absurd never

abbrev CachesTo : SteppedShown → ℕ → Access → Outcome → SteppedShown → Type 0
CachesTo old id access answered new =
    Passes sends_through_cache (λ o. DeviceAsksThroughCache sends_through_cache old.world.parts id access o new.world.parts) old.world.parts old.rows id access answered new.world.parts

pub cached_does : (old new : SteppedShown) (event : Event) (id : ℕ) (access : Access) (answered : Outcome) → Around old new → new.rows ≡ old.rows → new.world.disks ≡ old.world.disks
    → new.world.inside ≡ old.world.inside → frames_of new.world.parts.iommu ≡ frames_of old.world.parts.iommu → AsksThroughCache event id access
    → Passes sends_through_cache (λ o. DeviceAsksThroughCache sends_through_cache old.world.parts id access o new.world.parts) old.world.parts old.rows id access answered new.world.parts
    → Does old (Whole event) (Answer answered) new
cached_does old new (events.ReadThroughCache device address len) id access answered around rows disks inside frames (own, same) passes =
    let here = subst (λ n. CachesTo old n (read_of address len) answered new) (sym own) (subst (λ a. CachesTo old id a answered new) (sym same) passes) in
    let so = passed_so old new device (read_of address len) answered rows sends_through_cache (λ o. DeviceAsksThroughCache sends_through_cache old.world.parts device (read_of address len) o new.world.parts)
    (events.ReadThroughCache device address len) tt refl refl (λ d gives. gives) (λ asks. asks) here in
    record {
      leads = leads old new (Whole (events.ReadThroughCache device address len)) (Answer answered) around tt so.0 disks frames;
      inside = inside;
      refused = so.1;
    }
cached_does old new (events.WriteThroughCache device address bytes) id access answered around rows disks inside frames (own, same) passes =
    let here = subst (λ n. CachesTo old n (write_of address bytes) answered new) (sym own) (subst (λ a. CachesTo old id a answered new) (sym same) passes) in
    let so = passed_so old new device (write_of address bytes) answered rows sends_through_cache (λ o. DeviceAsksThroughCache sends_through_cache old.world.parts device (write_of address bytes) o new.world.parts)
    (events.WriteThroughCache device address bytes) tt refl refl (λ d gives. gives) (λ asks. asks) here in
    record {
      leads = leads old new (Whole (events.WriteThroughCache device address bytes)) (Answer answered) around tt so.0 disks frames;
      inside = inside;
      refused = so.1;
    }
cached_does old new _ id access answered around rows disks inside frames never passes = absurd never

-- the frames, whichever way it passes
pub passed_frames : (can : DeviceKind → Bool) (Asks : Outcome → Type 0) (old new : Parts) (rows : List WalkRow) (id : ℕ) (access : Access) (answered : Outcome)
    → (Asks answered → frames_of new.iommu ≡ frames_of old.iommu) → Passes can Asks old rows id access answered new → frames_of new.iommu ≡ frames_of old.iommu
passed_frames can Asks old new rows id access answered frames (inl busy) = same_frames old new busy.same
passed_frames can Asks old new rows id access answered frames (inr (asks, place)) = frames asks

-- and what is true of the parts
pub passed_keeps : (can : DeviceKind → Bool) (Asks : Outcome → Type 0) (old new : Parts) (rows : List WalkRow) (id events : ℕ) (access : Access) (answered : Outcome) → PartsInvariant old events
    → (Asks answered → PartsInvariant new events) → Passes can Asks old rows id access answered new → PartsInvariant new events
passed_keeps can Asks old new rows id events access answered invariants keeps (inl busy) = subst (λ p. PartsInvariant p events) (sym busy.same) invariants
passed_keeps can Asks old new rows id events access answered invariants keeps (inr (asks, place)) = keeps asks

-- devices stay
found_devices : (frame : Option ℕ) (old new : Parts) (id : ℕ) (access : Access) (answered : Outcome) → FindsFrame frame old id access answered new → new.devices ≡ old.devices
found_devices None old new id access answered finds = ap (λ (p : Parts). p.devices) finds.1
found_devices (Some frame) old new id access answered replied = replied.devices

pub translated_devices : (old new : Parts) (id : ℕ) (access : Access) (answered : Outcome) → AsksTranslated old id access answered new → new.devices ≡ old.devices
translated_devices old new id access answered (inl unknown) = ap (λ (p : Parts). p.devices) unknown.same
translated_devices old new id access answered (inr (inl unable)) = ap (λ (p : Parts). p.devices) unable.same
translated_devices old new id access answered (inr (inr (able, replied))) = replied.devices

pub cached_devices : (can : DeviceKind → Bool) (old new : Parts) (id : ℕ) (access : Access) (answered : Outcome) → DeviceAsksThroughCache can old id access answered new → new.devices ≡ old.devices
cached_devices can old new id access answered (inl unknown) = ap (λ (p : Parts). p.devices) unknown.same
cached_devices can old new id access answered (inr (inl unable)) = ap (λ (p : Parts). p.devices) unable.same
cached_devices can old new id access answered (inr (inr (able, inl bad))) = ap (λ (p : Parts). p.devices) bad.2
cached_devices can old new id access answered (inr (inr (able, inr (inl full)))) = ap (λ (p : Parts). p.devices) full.3
cached_devices can old new id access answered (inr (inr (able, inr (inr finds)))) = found_devices (cached_frame old id access) old new id access answered finds.2

pub passed_devices : (can : DeviceKind → Bool) (Asks : Outcome → Type 0) (old new : Parts) (rows : List WalkRow) (id : ℕ) (access : Access) (answered : Outcome)
    → (Asks answered → new.devices ≡ old.devices) → Passes can Asks old rows id access answered new → new.devices ≡ old.devices
passed_devices can Asks old new rows id access answered devices (inl busy) = ap (λ (p : Parts). p.devices) busy.same
passed_devices can Asks old new rows id access answered devices (inr (asks, place)) = devices asks

-- a device that can has a row for its accesses
pub row_added : (old : Parts) (id : ℕ) → AreKnown old → IsAble sends_through_cache old.devices id → IsSome (flight_row (flights_of old.iommu).rows id)
row_added old id known (kind, at, can) =
    added sends_through_cache (flights_of old.iommu).rows old.devices id None known.iommu (subst (λ k. IsPermitted sends_through_cache k None) (sym at) can) refl
