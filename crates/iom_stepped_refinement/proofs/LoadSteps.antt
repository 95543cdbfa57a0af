-- ONE LOAD of a request under way is a step of the ledger machine with walks: the walk goes on, or the load that ends it answers the request.
use Rattle.std.proofs.Common.{◌≡◌, ℕ, zero, suc, ◌+◌, ◌<◌, ◌≤◌, ◌∙◌, is_some, IsSome, IsSomeAnd, true, List, length, Some, None, Result, refl, sym, ap, subst, arith}
use Rattle.iom_base.specs.Accesses.{IsWithinPage}
use Rattle.iom_base.specs.Spans.{FitsInPage}
use Rattle.iom_base.specs.declared.access.Access.{Access}
use Rattle.iom_base.specs.declared.cause.Cause.{Cause}
use Rattle.iom_base.specs.declared.device_kind.DeviceKind.{DeviceKind}
use Rattle.iom_device.specs.Caches.{kind_in}
use Rattle.iom_device_dir.specs.declared.context.Context.{Context}
use Rattle.iom_iommu.specs.Parts.{flights_of, translations_of}
use Rattle.iom_iommu.specs.Requests as requests
use Rattle.iom_iommu.specs.Stepped.{EndsAtLoad, HasRoomAtEnd, LoadsMore, LoadsNext, translation_by}
use Rattle.iom_iommu.specs.declared.begun.Load as iommu
use Rattle.iom_iommu.specs.declared.begun.Load.TheVariants.{Nothing, Loaded, Ended}
use Rattle.iom_iommu.specs.declared.reply.Reply.{Reply}
use Rattle.iom_iommu.specs.declared.reply.Reply.TheVariants.{Accepted, Busy, BadSpan, Fault}
use Rattle.iom_machine.specs.Devices.{device_of}
use Rattle.iom_stepped_machine.specs.Machine as machine
use Rattle.iom_stepped_machine.specs.Machine.{EndsWalk, GoesOn, Load, SteppedState, SteppedStep}
use Rattle.iom_stepped_machine.specs.Walks.{Walk, access_of, most_loads, with_walk}
use Rattle.iom_stepped_requests.specs.Laws.{LoadsTakeAway}
use Rattle.iom_stepped_requests.specs.Serving.{load}
use Rattle.iom_stepped_requests.specs.Standing.{stands, still_serving}
use Rattle.iom_stepped_requests.specs.Whole.{ServedWithin, followed}
use Rattle.iom_stepped_requests.specs.declared.request.Request.{Request}
use Rattle.iom_stepped_requests.specs.declared.walk.RequestWalk.{RequestWalk}
use Rattle.iom_stepped_requests.specs.declared.walk.RequestWalk.TheVariants.{InDirectory, InTables}
use Rattle.iom_stepped_requests.specs.declared.walk.Serving.{Serving}
use Rattle.iom_stepped_requests.specs.declared.walk.Serving.TheVariants as serving
use Rattle.iom_stepped_walk.specs.declared.tables.TableWalk.TheVariants.{InFirstStage, InSecondStage, ToGuestEntry, InGuestTable, ToGuestPage}
use Rattle.iom_tlb.specs.Content.{Translations}
use Rattle.iom_walk_coherence.specs.Walks as copies
use Rattle.iom_walk_loads.specs.Directory.{directory_walk}
use Rattle.iom_walk_loads.specs.Loads as loads
use Rattle.iom_walks.specs.Calls.{row_going_on}
use Rattle.iom_walks.specs.Walks.{UnderWay, WalkRow, idle_row, row_of, under_way_of, with_row}
use Rattle.iom_world_effects.specs.Invariant.{InvariantWith}
use Rattle.iom_world_effects.specs.Parts.{Parts}
use Rattle.iom_world_effects.specs.Requests.{outcome_of_reply}
use Rattle.iom_world_effects.proofs.DriverLemmas.{DriverInvariant}
use Rattle.iom_world_effects.proofs.PartsLemmas.{StaysReady, StaysReported, parts_are}
use Rattle.iom_world_effects.proofs.PresentLemmas.{kind_present}
use Rattle.iom_world_effects.proofs.RowPlaces.{IsFound, present_found}
use Rattle.iom_world_invariant.proofs.RequestStep.{shows_where}
use Rattle.iom_world_refinement.proofs.EventLemmas.{access_chosen}
use Rattle.iom_world_walks.proofs.EffectsLeave.{RecordsLeave}
use Rattle.iom_world_walks.proofs.RowLoads.{RowLaws, ended_answer, goes_on_still}
use Rattle.iom_world_walks.specs.Standing.{RowsStand}
use Rattle.iom_stepped_refinement.specs.Shows.{SteppedShow, told_at_load}
use Rattle.iom_stepped_refinement.proofs.AnswerSteps.{AnswersSo, answer_step, device, found, has_room, plugged_from, replied}
use Rattle.iom_stepped_refinement.proofs.WalkShows.{none_shown, replaced_shown, shown_still, walk_of_row}

-- FEWER LOADS are left after each. One that stands somewhere needs a load
directory_needs : {A : Type 0} (level page id : ℕ) (next : Result Context Cause → loads.Walk A) → loads.EndsWithin 0 (followed (directory_walk level page id) next) → ⊥
directory_needs zero page id next within = within
directory_needs (suc level) page id next within = within

needs_load : (frames : ℕ) (walk : RequestWalk) → ServedWithin 0 frames (stands frames walk) → ⊥
needs_load frames (InDirectory request anew walk) within = directory_needs walk.level walk.page.number walk.id _ (within (λ key. None))
needs_load frames (InTables request context translated (InFirstStage asked place)) within = within (λ key. None)
needs_load frames (InTables request context translated (InSecondStage asked place)) within = within (λ key. None)
needs_load frames (InTables request context translated (ToGuestEntry both entry place)) within = within (λ key. None)
needs_load frames (InTables request context translated (InGuestTable both entry frame)) within = within (λ key. None)
needs_load frames (InTables request context translated (ToGuestPage both page place)) within = within (λ key. None)

-- so many loads are left after one that goes on, of those that a walk may make
record FewerLeft (frames made : ℕ) (walk : RequestWalk) : Type 0 where
  more : made < most_loads
  left : ℕ
  ends : ServedWithin left frames (stands frames walk)
  few : made + 1 + left ≤ most_loads + 1

fewer : (take_away : LoadsTakeAway) (memory : List (List ℕ)) (cached : Translations) (before : Serving) (walk : RequestWalk) (left made : ℕ)
    → stands (length memory) walk ≡ load memory cached (still_serving (length memory) before) → ServedWithin left (length memory) (still_serving (length memory) before)
    → made + left ≤ most_loads + 1 → FewerLeft (length memory) made walk
fewer take_away memory cached (serving.Served answer) walk left made is ends few = absurd (goes_on_still (length memory) walk answer is)
fewer take_away memory cached (serving.GoesOn earlier) walk zero made is ends few = absurd (needs_load (length memory) earlier ends)
fewer take_away memory cached (serving.GoesOn earlier) walk (suc left) made is ends few =
    by left (subst (ServedWithin left (length memory)) (sym is) (take_away memory cached earlier left ends)) few
  where
    by : (n : ℕ) → ServedWithin n (length memory) (stands (length memory) walk) → made + suc n ≤ most_loads + 1 → FewerLeft (length memory) made walk
    by zero within small = absurd (needs_load (length memory) walk within)
    by (suc n) within small = record { more = omega (arith, small); left = suc n; ends = within; few = omega (arith, small) }

module _ {walks : List copies.Walk} (laws : RowLaws) (take_away : LoadsTakeAway) (old new : Parts) (events id : ℕ) (rows new_rows : List WalkRow) (invariants : InvariantWith walks old events)
    (own : DriverInvariant old.driver) (stays_ready : StaysReady old.driver) (reported : StaysReported old.driver) (recorded_leaves : RecordsLeave old.driver) (driver : new.driver ≡ old.driver)
    (devices : new.devices ≡ old.devices) (fabric : new.fabric ≡ old.fabric) (below : (flights_of old.iommu).so_far < events) (stand : RowsStand old.driver old.memory walks rows)
    (mine : (row : WalkRow) (under_way : UnderWay) → row_of rows id ≡ Some row → row.under_way ≡ Some under_way → under_way.request.device ≡ id)
    (room : HasRoomAtEnd (flights_of old.iommu) rows id) (kind : DeviceKind) (there : kind_in old.devices id ≡ Some kind) (state : SteppedState) (shows : SteppedShow old rows state) where
  abbrev IsStep : machine.SteppedOutcome → Type 0
  IsStep outcome = (next : SteppedState) × SteppedStep state (Load id) outcome next × SteppedShow new new_rows next

  -- IT GOES ON
  goes_on : new.memory ≡ old.memory → LoadsMore old.memory old.iommu rows id new.iommu new_rows → IsStep machine.Loaded
  goes_on memory more =
      let is = more.loads in
      let shown = walk_of_row (length old.memory) old.devices rows state.walks shows.walks id is.row is.under_way is.was_there is.walks in
      let walk : Walk = shown.0 in
      let request = shown.2 in
      let after = fewer take_away old.memory (translations_of old.iommu) is.under_way.serving is.walk request.left walk.loads is.made request.ends request.few in
      let now : Walk = record walk { loads = walk.loads + 1 } in
      let next : SteppedState = record state { walks = with_walk state.walks id (Some now) } in
      let goes : GoesOn state id walk next = (after.more, refl) in (
        next,
        subst (λ w. IsSomeAnd w (λ walk. GoesOn state id walk next)) (sym shown.1) goes,
        record {
          ledger = shows_where old new state.ledger (rw memory shows.ledger.frames) driver devices (ap (λ parts. parts.flights) more.rest) shows.ledger;
          walks =
              shown_still (length old.memory) (length new.memory) old.devices new.devices (with_row rows (row_going_on is.row is.under_way is.walk)) new_rows (with_walk state.walks id (Some now))
              (ap (λ m. length m) memory) devices is.after
              (replaced_shown (length old.memory) old.devices rows state.walks shows.walks id is.row (row_going_on is.row is.under_way is.walk) (Some now) is.was_there refl
              (now, refl, record { asks = request.asks; access = request.access; left = after.left; ends = after.ends; few = after.few }));
        },
      )

  -- IT ENDS
  ends_so : (reply : Reply) → EndsAtLoad old.memory old.iommu rows id reply new.memory new.iommu new_rows → IsStep (machine.Answer (outcome_of_reply reply))
  ends_so reply call = by reply call
    where
      access_at : (loads_row : WalkRow) → Request → ℕ → Access
      access_at row request len = requests.access_of request.asked.address len request.asked.kind row.bytes

      -- what is left, once the machine may answer so
      ended : (reply : Reply) → (call : EndsAtLoad old.memory old.iommu rows id reply new.memory new.iommu new_rows)
          → (walk : Walk) × (state.walks id ≡ Some walk) × (next : SteppedState) × EndsWalk state id walk (outcome_of_reply reply) next × SteppedShow new new_rows next
      ended reply call =
          let is = call.loads in
          let shown = walk_of_row (length old.memory) old.devices rows state.walks shows.walks id is.row is.under_way is.was_there is.walks in
          let walk : Walk = shown.0 in
          let request = shown.2 in
          let access = access_at is.row call.ended.request call.ended.len in
          let same : access ≡ access_of walk.asking =
          ap (λ (r : Request). access_at is.row r call.ended.len) is.request ∙ ap (λ n. access_at is.row is.under_way.request n) is.len ∙ request.access in
          let within : IsWithinPage access =
          subst (λ (r : Request). FitsInPage r.asked.address call.ended.len) (sym is.request) (subst (λ n. FitsInPage is.under_way.request.asked.address n) (sym is.len) is.within) in
          let some : IsSome (under_way_of rows id) = rw (is.was_there, is.walks) refl in
          let device_found = found old state.ledger shows.ledger id walk.asking request.asks in
          let answers =
          replied old new events id access invariants own reported driver devices fabric state.ledger shows.ledger device_found within
          (has_room old state.ledger shows.ledger id walk.asking request.asks (room some).1)
          (translation_by old.memory call.ended.request.asked.address call.ended.request.asked.kind call.ended.answer) reply call.replied
          (ended_answer laws old new events id rows new_rows invariants own stays_ready reported recorded_leaves driver devices fabric below stand mine reply call) in
          let so = subst (λ a. AnswersSo state.ledger (device old state.ledger shows.ledger id walk.asking request.asks) a reply new (length old.memory)) same answers in
          let next : SteppedState = record { ledger = so.next; walks = with_walk state.walks id None } in (
            walk,
            shown.1,
            next,
            ((access_chosen (access_of walk.asking) so.frame, refl, answer_step old state.ledger shows.ledger id walk.asking request.asks reply so.frame so.next so.may so.after), refl),
            record {
              ledger = so.shows;
              walks =
                  shown_still (length old.memory) (length new.memory) old.devices new.devices (with_row rows (idle_row is.row)) new_rows (with_walk state.walks id None) so.size devices is.after
                  (replaced_shown (length old.memory) old.devices rows state.walks shows.walks id is.row (idle_row is.row) None is.was_there refl refl);
            },
          )

      by : (reply : Reply) → EndsAtLoad old.memory old.iommu rows id reply new.memory new.iommu new_rows → IsStep (machine.Answer (outcome_of_reply reply))
      by (Accepted number) call =
          let so = ended (Accepted number) call in
          (so.2, subst (λ w. IsSomeAnd w (λ walk. EndsWalk state id walk (outcome_of_reply (Accepted number)) so.2)) (sym so.1) so.3, so.4)
      by (Fault cause) call =
          let so = ended (Fault cause) call in
          (so.2, subst (λ w. IsSomeAnd w (λ walk. EndsWalk state id walk (outcome_of_reply (Fault cause)) so.2)) (sym so.1) so.3, so.4)
      by Busy call = absurd call.replied
      by BadSpan call = absurd call.replied

  pub load_step : (answer : iommu.Load) → LoadsNext old.memory old.iommu rows id answer new.memory new.iommu new_rows → IsStep (told_at_load answer)
  load_step Nothing (none, (memory, iommu, rows_stay)) =
      let same : new ≡ old = parts_are new old.memory old.iommu old.driver old.devices old.fabric memory iommu driver devices fabric in
      let is : IsFound old.driver.devices (flights_of old.iommu).rows old.devices id = present_found old.driver.devices (flights_of old.iommu).rows old.devices id (kind_present old.devices id kind there) in
      let plugged : is_some (device_of state.ledger id) ≡ true = ap is_some (plugged_from old state.ledger id shows.ledger.devices is) in (
        state,
        (plugged, none_shown (length old.memory) old.devices rows state.walks shows.walks id none, refl),
        subst (λ parts. SteppedShow parts new_rows state) (sym same) (subst (λ rs. SteppedShow old rs state) (sym rows_stay) shows),
      )
  load_step Loaded (memory, more) = goes_on memory more
  load_step (Ended reply) call = ends_so reply call
