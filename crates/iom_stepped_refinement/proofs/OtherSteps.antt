-- EACH OTHER EVENT is a step of the ledger machine with walks: that of the ledger machine, which gives up the walks that the event gives up.
use Rattle.std.proofs.Common.{◌≡◌, ◌≢◌, ℕ, ◌<◌, ◌≤◌, IsSome, IsSomeAnd, ◌∙◌, ◌⊎◌, inl, inr, Bool, true, false, List, length, Option, Some, None, refl, sym, ap, subst, if◌then◌else◌}
use Rattle.std.specs.Option.{option_map_or}
use Rattle.std.proofs.lemmas.Bool.Decides.{eqb_tells}
use Rattle.std.proofs.lemmas.Bool.{false≢true}
use Rattle.iom_machine.specs.Machine.{Step}
use Rattle.iom_base.specs.Accesses.{read_of, write_of}
use Rattle.iom_base.specs.Sizes.{in_flight_limit}
use Rattle.iom_base.specs.declared.access.Access.{Access}
use Rattle.iom_base.specs.declared.refusal.Refusal.{Refusal}
use Rattle.iom_stepped_machine.specs.Walks.{Asking}
use Rattle.iom_world_effects.specs.Below.{AddressFits}
use Rattle.iom_stepped_refinement.specs.Laws.{AsksAsEver, AsksWith, BusyIsAStep, NeedsNoWalk, PassesBy, able_for}
use Rattle.iom_stepped_refinement.proofs.BeginSteps.{taken_some}
use Rattle.iom_base.specs.DeviceKinds.{forges, is_block_device, sends_through_cache}
use Rattle.iom_base.specs.declared.device_kind.DeviceKind.{DeviceKind}
use Rattle.iom_coherence.proofs.ListLemmas.{in_none}
use Rattle.iom_device.specs.Caches.{kind_in}
use Rattle.iom_device.specs.declared.device.Device.{Device}
use Rattle.iom_iommu.specs.Parts.{flights_of}
use Rattle.iom_machine.specs.declared.event.Event.{Event}
use Rattle.iom_machine.specs.declared.event.Event.TheVariants as happens
use Rattle.iom_machine.specs.declared.outcome.Outcome.{Outcome}
use Rattle.iom_machine.specs.declared.outcome.Outcome.TheVariants as outcome
use Rattle.iom_machine.specs.Devices.{device_of}
use Rattle.iom_machine.specs.declared.state.State.{State}
use Rattle.iom_stepped_machine.specs.Machine.{Answer, AnswersBesides, AnswersWhole, IsAbleAt, IsBusyBesides, IsFullBesides, PassesBesides, SteppedState, SteppedStep, Whole, asker_of, gives_up_at_detach, walk_at, walks_after}
use Rattle.iom_stepped_machine.specs.Walks.{Walk, Walks, with_walk}
use Rattle.iom_walk_coherence.specs.Walks as copies
use Rattle.iom_walks.specs.Walks.{UnderWay, WalkRow, row_of, under_way_in, under_way_of}
use Rattle.iom_world_effects.specs.Below.{AddressFits}
use Rattle.iom_world_effects.specs.Effect.{Effect}
use Rattle.iom_world_effects.specs.Invariant.{InvariantWith, PartsInvariant}
use Rattle.iom_world_effects.specs.Parts.{Parts}
use Rattle.iom_world_effects.specs.Shows.{PartsShow}
use Rattle.iom_world_effects.proofs.DriverLemmas.{DriverInvariant}
use Rattle.iom_world_effects.proofs.PartsLemmas.{StaysReported}
use Rattle.iom_world_effects.proofs.PresentLemmas.{kind_absent, kind_present}
use Rattle.iom_world_effects.proofs.RowPlaces.{absent_shown, present_found}
use Rattle.iom_world_effects.proofs.ServedLemmas.{ServiceLaws}
use Rattle.iom_world_effects.proofs.WalksLeft.{given_up}
use Rattle.iom_world_invariant.proofs.RequestStep.{kind_found}
use Rattle.iom_world_refinement.proofs.EventSteps.{steps}
use Rattle.iom_world_walks.specs.Events.{GivesUp}
use Rattle.iom_stepped_refinement.specs.Laws.{LeavesRows}
use Rattle.iom_stepped_refinement.specs.Shows.{Asks, ShowsRow, ShowsUnderWay, SteppedShow, WalksShow}
use Rattle.iom_stepped_refinement.proofs.AnswerSteps.{absent_from, full_besides, plugged_from, room_besides}
use Rattle.iom_stepped_refinement.proofs.KindsStay.{KindsStay, kinds_stay}
use Rattle.iom_stepped_refinement.proofs.WalkShows.{none_shown, some_shown}

-- the facts of a world without walks under way
pub without : {walks : List copies.Walk} (parts : Parts) (events : ℕ) → InvariantWith walks parts events → PartsInvariant parts events
without parts events invariants = given_up parts events (λ walk there. absurd (in_none walk there)) invariants

-- the walks of devices that stay are shown still
row_stays : (frames id : ℕ) (devices new_devices : List Device) (row : Option WalkRow) (walk : Option Walk) → KindsStay devices new_devices → ShowsRow frames devices id row walk
    → ShowsRow frames new_devices id row walk
row_stays frames id devices new_devices None walk stay is = is
row_stays frames id devices new_devices (Some row) walk stay is = by row.under_way is
  where
    asks_still : (shown : Walk) → Asks devices id shown.asking → Asks new_devices id shown.asking
    asks_still shown asks = record { kind = asks.kind; there = stay id asks.kind asks.there; can = asks.can }

    by : (u : Option UnderWay) → ShowsUnderWay frames devices id row u walk → ShowsUnderWay frames new_devices id row u walk
    by None shown = shown
    by (Some own) (shown, same, request) =
        (shown, same, record { asks = asks_still shown request.asks; access = request.access; left = request.left; ends = request.ends; few = request.few })

-- nothing is under way
pub row_idle : (frames id : ℕ) (devices : List Device) (row : Option WalkRow) (walk : Option Walk) → under_way_in row ≡ None → walk ≡ None → ShowsRow frames devices id row walk
row_idle frames id devices None walk idle none = none
row_idle frames id devices (Some row) walk idle none = subst (λ u. ShowsUnderWay frames devices id row u walk) (sym idle) none

-- the ledger machine sees of a device whether it is a block device
block_seen : (parts : Parts) (state : State) (id : ℕ) → PartsShow parts state → gives_up_at_detach (device_of state id) ≡ option_map_or is_block_device (kind_in parts.devices id) false
block_seen parts state id shows = by (kind_in parts.devices id) refl
  where
    by : (kind : Option DeviceKind) → kind_in parts.devices id ≡ kind → gives_up_at_detach (device_of state id) ≡ option_map_or is_block_device kind false
    by None is =
        let absent = absent_shown parts.driver.devices (flights_of parts.iommu).rows parts.devices id (kind_absent parts.devices id is) in
        let none : device_of state id ≡ None = absent_from parts state id shows.devices absent in ap gives_up_at_detach none
    by (Some kind) is =
        let found = present_found parts.driver.devices (flights_of parts.iommu).rows parts.devices id (kind_present parts.devices id kind is) in
        ap gives_up_at_detach (plugged_from parts state id shows.devices found) ∙ ap is_block_device (kind_found parts.driver.devices (flights_of parts.iommu).rows parts.devices id kind found is)

-- WHICH WALKS ARE LEFT: those that the event doesn't give up
abbrev IsAsLeft : Parts → Event → Outcome → ℕ → Option Walk → Option Walk → Type 0
IsAsLeft old event answered id before after = (GivesUp old event answered id × (after ≡ None)) ⊎ ((GivesUp old event answered id → ⊥) × (after ≡ before))

as_left : (old : Parts) (state : State) (walks : Walks) (event : Event) (answered : Outcome) (id : ℕ) → PartsShow old state → event ≢ happens.Fetch
    → IsAsLeft old event answered id (walks id) (walks_after state event answered walks id)
as_left old state walks happens.Fetch answered id shows other = absurd (other refl)
as_left old state walks (happens.Reset d) outcome.Done id shows other = elim (eqb_tells id d) [
  | inl e ↦ inl ((e.1, refl), rw e.0 refl)
  | inr ne ↦ inr (λ gives. ne.1 gives.0, rw ne.0 refl)
]
as_left old state walks (happens.Reset d) _ id shows other = inr (λ gives. let never = gives.1 in cc, refl)
as_left old state walks (happens.Revive d) outcome.Done id shows other = elim (eqb_tells id d) [
  | inl e ↦ inl ((e.1, refl), rw e.0 refl)
  | inr ne ↦ inr (λ gives. ne.1 gives.0, rw ne.0 refl)
]
as_left old state walks (happens.Revive d) _ id shows other = inr (λ gives. let never = gives.1 in cc, refl)
as_left old state walks (happens.Queue d size descriptors available used) outcome.Done id shows other = elim (eqb_tells id d) [
  | inl e ↦ inl ((e.1, refl), rw e.0 refl)
  | inr ne ↦ inr (λ gives. ne.1 gives.0, rw ne.0 refl)
]
as_left old state walks (happens.Queue d size descriptors available used) _ id shows other = inr (λ gives. let never = gives.1 in cc, refl)
as_left old state walks (happens.Detach d) (outcome.Ticket ticket) id shows other = by (gives_up_at_detach (device_of state d)) (sym (block_seen old state d shows))
  where
    by : (b : Bool) → option_map_or is_block_device (kind_in old.devices d) false ≡ b
        → IsAsLeft old (happens.Detach d) (outcome.Ticket ticket) id (walks id) ((if b then with_walk walks d None else walks) id)
    by false no_block = inr (λ gives. false≢true (sym no_block ∙ gives.2), refl)
    by true block = elim (eqb_tells id d) [
      | inl e ↦ inl ((e.1, (ticket, refl), block), rw e.0 refl)
      | inr ne ↦ inr (λ gives. ne.1 gives.0, rw ne.0 refl)
    ]
as_left old state walks (happens.Detach d) _ id shows other = inr (λ gives. let never = gives.1.1 in cc, refl)
as_left old state walks _ answered id shows other = inr (λ gives. gives, refl)

-- BESIDE A WALK what is refused is refused as ever
refused_besides : (old new : State) (event : Event) (why : Refusal) → Step old event (outcome.Refused why) new → AnswersBesides old event (outcome.Refused why) new
refused_besides old new (happens.Read id address len) why step = step
refused_besides old new (happens.Write id address bytes) why step = step
refused_besides old new (happens.ReadTranslated id address len) why step = step
refused_besides old new (happens.WriteTranslated id address bytes) why step = step
refused_besides old new (happens.ReadThroughCache id address len) why step = step
refused_besides old new (happens.WriteThroughCache id address bytes) why step = step
refused_besides old new (happens.Step id) why step = step
refused_besides old new _ why step = step

-- and what needs no walk is answered as ever, where there is room
passed : (can : DeviceKind → Bool) (old new : State) (id : ℕ) (access : Access) (event : Event) (answered : Outcome) → answered ≢ outcome.Busy
    → (answered ≡ outcome.BadSpan) ⊎ (¬ IsFullBesides old id) → Step old event answered new → PassesBesides can old id access event answered new
passed can old new id access event (outcome.Refused why) idle room step = step
passed can old new id access event outcome.BadSpan idle room step = step
passed can old new id access event outcome.Busy idle room step = absurd (idle refl)
passed can old new id access event _ idle room step = elim room [ inl bad ↦ cc | inr free ↦ (free, step) ]

passed_besides : (old new : State) (event : Event) (answered : Outcome) → NeedsNoWalk event → answered ≢ outcome.Busy → ((id : ℕ) → asker_of event ≡ Some id → (answered ≡ outcome.BadSpan) ⊎ (¬ IsFullBesides old id))
    → Step old event answered new → AnswersBesides old event answered new
passed_besides old new (happens.ReadTranslated id address len) answered needs idle room step = passed forges old new id (read_of address len) (happens.ReadTranslated id address len) answered idle (room id refl) step
passed_besides old new (happens.WriteTranslated id address bytes) answered needs idle room step = passed forges old new id (write_of address bytes) (happens.WriteTranslated id address bytes) answered idle (room id refl) step
passed_besides old new (happens.ReadThroughCache id address len) answered needs idle room step =
    passed sends_through_cache old new id (read_of address len) (happens.ReadThroughCache id address len) answered idle (room id refl) step
passed_besides old new (happens.WriteThroughCache id address bytes) answered needs idle room step =
    passed sends_through_cache old new id (write_of address bytes) (happens.WriteThroughCache id address bytes) answered idle (room id refl) step
passed_besides old new _ answered needs idle room step = absurd needs

-- where a walk is under way its device is there
walker_there : (frames : ℕ) (devices : List Device) (rows : List WalkRow) (walks : Walks) → WalksShow frames devices rows walks → (id : ℕ) → IsSome (under_way_of rows id)
    → (asking : Asking) × Asks devices id asking
walker_there frames devices rows walks shows id some = by (row_of rows id) some (shows id)
  where
    own : (row : WalkRow) (u : Option UnderWay) → IsSome u → ShowsUnderWay frames devices id row u (walks id) → (asking : Asking) × Asks devices id asking
    own row None is shown = cc
    own row (Some request) is (walk, same, shown) = (walk.asking, shown.asks)

    by : (found : Option WalkRow) → IsSome (under_way_in found) → ShowsRow frames devices id found (walks id) → (asking : Asking) × Asks devices id asking
    by None is shown = cc
    by (Some row) is shown = own row row.under_way is shown

module _ {walks left_walks : List copies.Walk} (laws : ServiceLaws) (disks : List ℕ) (old new : Parts) (events later : ℕ) (rows new_rows : List WalkRow) (invariants : InvariantWith walks old events)
    (own : DriverInvariant old.driver) (reported : StaysReported old.driver) (afterwards : InvariantWith left_walks new later) (size : length new.memory ≡ length old.memory) where
  walks_shown : (event : Event) (answered : Outcome) (state : SteppedState) → SteppedShow old rows state → event ≢ happens.Fetch → KindsStay old.devices new.devices
      → LeavesRows old event answered rows new_rows → WalksShow (length old.memory) new.devices new_rows (walks_after state.ledger event answered state.walks)
  walks_shown event answered state shows other stay leaves id = elim (as_left old state.ledger state.walks event answered id shows.ledger other) [
    | inl (gives, none) ↦ row_idle (length old.memory) id new.devices (row_of new_rows id) _ (leaves.gone id gives) none
    | inr (keeps, same) ↦ subst (ShowsRow (length old.memory) new.devices id (row_of new_rows id)) (sym same) (elim (leaves.left id keeps) [
      | inl is ↦ subst (λ r. ShowsRow (length old.memory) new.devices id r (state.walks id)) (sym is) (row_stays (length old.memory) id old.devices new.devices (row_of rows id) (state.walks id) stay (shows.walks id))
      | inr idle ↦ row_idle (length old.memory) id new.devices (row_of new_rows id) (state.walks id) idle.1 (none_shown (length old.memory) old.devices rows state.walks shows.walks id idle.0)
    ])
  ]

  pub other_step : (event : Event) (answered : Outcome) (state : SteppedState) → AsksAsEver old rows event answered → AddressFits event → event ≢ happens.Fetch → state.ledger.disks ≡ disks → Effect disks old event answered new
      → LeavesRows old event answered rows new_rows → SteppedShow old rows state
      → (next : SteppedState) × SteppedStep state (Whole event) (Answer answered) next × SteppedShow new new_rows next
  other_step event answered state none fits other at_hand effect leaves shows =
      let step = steps laws disks old new later events (without old events invariants) own reported (without new later afterwards) event answered fits effect state.ledger shows.ledger at_hand in
      let next : SteppedState = record { ledger = step.0; walks = walks_after state.ledger event answered state.walks } in (
        next,
        (answers (walk_at state.walks (asker_of event)) refl step.0 step.1, refl),
        record {
          ledger = step.2;
          walks =
              subst (λ n. WalksShow n new.devices new_rows next.walks) (sym size)
              (walks_shown event answered state shows other (kinds_stay disks old new event answered effect) leaves);
        },
      )
    where
      -- where a walk is found one of the device that asks is under way
      found_walk : (asker : Option ℕ) (walk : Walk) → walk_at state.walks asker ≡ Some walk → (id : ℕ) × (asker ≡ Some id) × (state.walks id ≡ Some walk)
      found_walk None walk is = cc
      found_walk (Some id) walk is = (id, refl, is)

      under_way : (id : ℕ) (walk : Walk) → state.walks id ≡ Some walk → IsSome (under_way_of rows id)
      under_way id walk is = by (under_way_of rows id) refl
        where
          by : (u : Option UnderWay) → under_way_of rows id ≡ u → IsSome u
          by None idle = let both : Some walk ≡ None = sym is ∙ none_shown (length old.memory) old.devices rows state.walks shows.walks id idle in cc
          by (Some own) busy = refl

      room_by : PassesBy old rows event answered → (walk : Walk) → walk_at state.walks (asker_of event) ≡ Some walk → (id : ℕ) → asker_of event ≡ Some id → (answered ≡ outcome.BadSpan) ⊎ (¬ IsFullBesides state.ledger id)
      room_by passes walk is id who =
          let some : IsSome (under_way_of rows id) = under_way id walk (subst (λ asker. walk_at state.walks asker ≡ Some walk) who is) in
          let there = walker_there (length old.memory) old.devices rows state.walks shows.walks id some in
          elim (passes.room id who) [
            | inl bad ↦ inl bad
            | inr free ↦ inr (room_besides old state.ledger shows.ledger id there.0 there.1 (subst (λ n. n < in_flight_limit) (taken_some (flights_of old.iommu) rows id some) free))
          ]

      answers : (walk : Option Walk) → walk_at state.walks (asker_of event) ≡ walk → (next : State) → Step state.ledger event answered next
          → AnswersWhole (walk_at state.walks (asker_of event)) state.ledger event answered next
      answers None is next step = subst (λ w. AnswersWhole w state.ledger event answered next) (sym is) step
      answers (Some walk) is next step = subst (λ w. AnswersWhole w state.ledger event answered next) (sym is) (elim none [
        | inl free ↦
            let at = found_walk (asker_of event) walk is in
            let both : Some walk ≡ None = sym at.2 ∙ none_shown (length old.memory) old.devices rows state.walks shows.walks at.0 (free at.0 at.1) in cc
        | inr (inl (why, refused)) ↦
            subst (λ o. AnswersBesides state.ledger event o next) (sym refused) (refused_besides state.ledger next event why (subst (λ o. Step state.ledger event o next) refused step))
        | inr (inr passes) ↦ passed_besides state.ledger next event answered passes.needs_none passes.not_busy (room_by passes walk is) step
      ])

-- WHERE IT IS BUSY
pub busy_step : BusyIsAStep
busy_step parts id access event rows state (kind, there, can) asks some within full shows = by event can asks
  where
    walk : (walk : Walk) × (state.walks id ≡ Some walk)
    walk = some_shown (length parts.memory) parts.devices rows state.walks shows.walks id some

    walker : (asking : Asking) × Asks parts.devices id asking
    walker = walker_there (length parts.memory) parts.devices rows state.walks shows.walks id some

    is_full : IsFullBesides state.ledger id
    is_full = full_besides parts state.ledger shows.ledger id walker.0 walker.1 (subst (λ n. in_flight_limit ≤ n) (taken_some (flights_of parts.iommu) rows id some) full)

    able : (wants : DeviceKind → Bool) → wants kind ≡ true → IsAbleAt wants state.ledger id
    able wants is =
        let found = present_found parts.driver.devices (flights_of parts.iommu).rows parts.devices id (kind_present parts.devices id kind there) in
        subst (λ d. IsSomeAnd d (λ device. wants device.kind ≡ true)) (sym (plugged_from parts state.ledger id shows.ledger.devices found))
        (ap wants (kind_found parts.driver.devices (flights_of parts.iommu).rows parts.devices id kind found there) ∙ is)

    at : (wants : DeviceKind → Bool) (device : ℕ) (wanted : Access) → wants kind ≡ true → device ≡ id → wanted ≡ access → IsBusyBesides wants state.ledger device wanted state.ledger
    at wants device wanted is own same =
        subst (λ n. IsBusyBesides wants state.ledger n wanted state.ledger) (sym own)
        (subst (λ a. IsBusyBesides wants state.ledger id a state.ledger) (sym same) (able wants is, within, is_full, refl))

    by : (event : Event) → able_for event kind ≡ true → AsksWith event id access → SteppedStep state (Whole event) (Answer outcome.Busy) state
    by (happens.ReadTranslated device address len) is (own, same) =
        (subst (λ w. AnswersWhole w state.ledger (happens.ReadTranslated device address len) outcome.Busy state.ledger) (sym (ap state.walks own ∙ walk.1)) (at forges device _ is own same), refl)
    by (happens.WriteTranslated device address bytes) is (own, same) =
        (subst (λ w. AnswersWhole w state.ledger (happens.WriteTranslated device address bytes) outcome.Busy state.ledger) (sym (ap state.walks own ∙ walk.1)) (at forges device _ is own same), refl)
    by (happens.ReadThroughCache device address len) is (own, same) =
        (subst (λ w. AnswersWhole w state.ledger (happens.ReadThroughCache device address len) outcome.Busy state.ledger) (sym (ap state.walks own ∙ walk.1)) (at sends_through_cache device _ is own same), refl)
    by (happens.WriteThroughCache device address bytes) is (own, same) =
        (subst (λ w. AnswersWhole w state.ledger (happens.WriteThroughCache device address bytes) outcome.Busy state.ledger) (sym (ap state.walks own ∙ walk.1)) (at sends_through_cache device _ is own same), refl)
    by _ is never = absurd never
