-- An access in flight is made: a lawful step of the ledger machine.
use Rattle.std.proofs.Common.{◌≡◌, ◌+◌, ◌∙◌, ◌∷◌, inl, inr, ℕ, false, List, [], map, drop, Contains, Option, Some, None, IfSome, slice_get, slice_range, refl, sym, ap, subst}
use Rattle.iom_walk_coherence.specs.Walks.{Walk}
use Rattle.iom_base.specs.declared.access.AcceptedAccess.{AcceptedAccess}
use Rattle.iom_base.specs.declared.access.AccessKind.{AccessKind}
use Rattle.iom_base.specs.declared.access.AccessKind.TheVariants as kinds
use Rattle.iom_base.specs.Accesses.{offset_of}
use Rattle.iom_coherence.proofs.ListLemmas.{contains_head}
use Rattle.iom_inflight.specs.declared.made.MadeAt.{MadeAt}
use Rattle.iom_inflight.specs.Calls.{IsMade, Performs}
use Rattle.iom_inflight.specs.Flights.{NumberedAccess, FlightRow, row_of, with_row, made_at}
use Rattle.iom_inflight.proofs.Rows.{row_is_own}
use Rattle.iom_iommu.specs.Parts.{flights_of}
use Rattle.iom_iommu.specs.Requests.{CommitsOldest}
use Rattle.iom_ledger.specs.History.{May}
use Rattle.iom_machine.specs.declared.outcome.Outcome.{Outcome}
use Rattle.iom_machine.specs.declared.outcome.Outcome.TheVariants.{Read, Wrote, NothingInFlight}
use Rattle.iom_machine.specs.declared.state.Device as machine
use Rattle.iom_machine.specs.declared.state.State.{State}
use Rattle.iom_machine.specs.Devices.{replaced_device}
use Rattle.iom_machine.specs.Frames.{stored}
use Rattle.iom_machine.specs.Machine.{Commits, Makes, with_oldest_made}
use Rattle.iom_table_frames.specs.Owners.{has_owner}
use Rattle.iom_world_effects.specs.Commits.{CommitsAccess, TellsMade, TellsKind}
use Rattle.iom_world_effects.specs.Devices.{in_flight_of, shown_device, shown_devices}
use Rattle.iom_world_effects.specs.Frames.{ShowsFrames}
use Rattle.iom_world_effects.specs.Parts.{Parts}
use Rattle.iom_world_effects.specs.Shows.{PartsShow}
use Rattle.iom_world_effects.specs.Invariant.{InvariantWith}
use Rattle.iom_world_invariant.proofs.CommitKeeps.{made_free}
use Rattle.iom_world_refinement.proofs.FlightMay.{row_may}
use Rattle.iom_world_effects.proofs.RowPlaces.{IsFound, present_found, row_shown, accepted_at, in_flight_at, with_own}
use Rattle.iom_world_invariant.proofs.RequestStep.{acts_at, acts_absent, shows_same, shows_flights}
use Rattle.iom_world_refinement.proofs.StoreLemmas.{bytes_shown, frames_stored}
use Rattle.iom_base.specs.DeviceKinds.{is_any_kind}

-- what a commit leads to: the machine may make the access so, and shows the parts then
abbrev pub Steps : State → ℕ → Outcome → Parts → Type 0
Steps state id reply new = (next : State) × Commits state id reply next × PartsShow new next

module _ {walks : List Walk} (old new : Parts) (events id : ℕ) (invariants : InvariantWith walks old events) (driver : new.driver ≡ old.driver) (devices : new.devices ≡ old.devices) (state : State) (shows : PartsShow old state)
    (found : IsFound old.driver.devices (flights_of old.iommu).rows old.devices id) where
  abbrev rows : List FlightRow
  rows = (flights_of old.iommu).rows

  abbrev device : machine.Device
  device = shown_device old.driver.devices (flights_of old.iommu).rows found.device

  module _ (made : MadeAt) (is : IsMade old.memory (flights_of old.iommu) id made new.memory (flights_of new.iommu)) (unreserved : has_owner old.driver.owners made.frame ≡ false) where
    abbrev oldest : AcceptedAccess
    oldest = is.oldest.accepted

    abbrev left : FlightRow
    left = record is.row { waiting = is.later }

    free : slice_get old.driver.owners is.oldest.accepted.frame ≡ Some None
    free = made_free old events id made new.memory (flights_of new.iommu) invariants is unreserved

    row_at : row_of (flights_of old.iommu).rows found.device.id ≡ Some is.row
    row_at = ap (row_of rows) found.own ∙ is.stands

    in_flight : in_flight_of (flights_of old.iommu).rows found.device.id ≡ is.oldest.accepted ∷ map (λ (f : NumberedAccess). f.accepted) is.later
    in_flight = in_flight_at rows found.device.id is.row row_at ∙ ap (λ (l : List NumberedAccess). map (λ (f : NumberedAccess). f.accepted) l) is.waiting

    may_reach : May state.history found.device.id is.oldest.accepted.frame is.oldest.accepted.access.kind
    may_reach =
        subst (λ n. May state.history n is.oldest.accepted.frame is.oldest.accepted.access.kind) (sym found.own)
        (row_may old events invariants state shows id is.row is.stands is.oldest
        (subst (λ (l : List NumberedAccess). Contains l is.oldest) (sym is.waiting) (contains_head is.oldest is.later)))

    -- the device in the machine, once its oldest access is made
    now_shown : with_own (shown_device old.driver.devices (flights_of old.iommu).rows found.device) (record is.row { waiting = is.later })
        ≡ record (shown_device old.driver.devices (flights_of old.iommu).rows found.device) { in_flight = drop 1 (in_flight_of (flights_of old.iommu).rows found.device.id) }
    now_shown =
        ap (λ (n : ℕ). record device { accepted = n; in_flight = map (λ (f : NumberedAccess). f.accepted) is.later }) (sym (accepted_at rows found.device.id is.row row_at))
        ∙ ap (λ (l : List AcceptedAccess). record device { in_flight = drop 1 l }) (sym in_flight)

    devices_shown : (with_oldest_made state (shown_device old.driver.devices (flights_of old.iommu).rows found.device)).devices
        ≡ shown_devices old.driver.devices (with_row (flights_of old.iommu).rows (record is.row { waiting = is.later })) old.devices
    devices_shown =
        ap (λ (ds : List machine.Device). replaced_device ds found.device.id (record device { in_flight = drop 1 device.in_flight })) shows.devices
        ∙ ap (λ (n : ℕ). replaced_device (shown_devices old.driver.devices rows old.devices) n (record device { in_flight = drop 1 device.in_flight })) found.own
        ∙ ap (λ (d : machine.Device). replaced_device (shown_devices old.driver.devices rows old.devices) id d) (sym now_shown)
        ∙ row_shown old.driver.devices rows old.devices id found.device is.row left invariants.known.own_ids found.found found.own is.stands (row_is_own rows id is.row is.stands)

    -- the parts are shown with these frames
    shows_made : (next : State) → next ≡ record (with_oldest_made state (shown_device old.driver.devices (flights_of old.iommu).rows found.device)) { frames = next.frames }
        → ShowsFrames new.memory old.driver.owners next.frames → PartsShow new next
    shows_made next same frames = record {
      ledger = rw (driver, ap (λ (s : State). s.history) same) shows.ledger;
      frames = rw driver frames;
      devices = ap (λ (s : State). s.devices) same ∙ rw (driver, devices, is.after) devices_shown;
      given = rw (driver, ap (λ (s : State). s.last_ticket) same) shows.given;
      confirmed = rw (driver, ap (λ (s : State). s.history) same) shows.confirmed;
      all_earlier = rw (driver, ap (λ (s : State). s.history) same) shows.all_earlier;
      none_later = rw (driver, ap (λ (s : State). s.history) same) shows.none_later;
      levels = rw (driver, ap (λ (s : State). s.levels) same) shows.levels;
      limits = ap (λ (s : State). s.limits) same ∙ shows.limits;
    }

    step_kind : (kind : AccessKind) → is.oldest.accepted.access.kind ≡ kind → (reply : Outcome) → Performs kind old.memory is.oldest.accepted new.memory
        → TellsKind old.memory (made_at id is.oldest.accepted) kind reply → Steps state id reply new
    step_kind kinds.Read reads reply performed gives =
        let next = with_oldest_made state device in
        let held = gives.reply_is.0 in
        let shown = bytes_shown old.memory old.driver.owners state.frames oldest.frame gives.bytes shows.frames free gives.there in (
          next,
          subst (λ t. Commits state id t next) (sym gives.reply_is.1)
              (acts_at is_any_kind (λ (d : machine.Device). Makes state d (Read held) next) old state id (Read held) next shows.devices found refl
              (rw in_flight (
                (
                  reads,
                  subst (λ k. May state.history found.device.id oldest.frame k) reads may_reach,
                  gives.reply_is.2 ∙ ap (λ (b : List ℕ). slice_range b (offset_of oldest.access) (offset_of oldest.access + oldest.access.len)) (sym shown),
                ),
                refl,
              ))),
          shows_made next refl (subst (λ m. ShowsFrames m old.driver.owners state.frames) (sym performed) shows.frames),
        )
    step_kind kinds.Write writes reply (bytes, there, stores) reply_is =
        let next = record (with_oldest_made state device) { frames = stored state.frames oldest.frame (offset_of oldest.access) oldest.access.bytes } in (
          next,
          subst (λ t. Commits state id t next) (sym reply_is)
              (acts_at is_any_kind (λ (d : machine.Device). Makes state d (Wrote oldest.access.len) next) old state id (Wrote oldest.access.len) next shows.devices found refl
              (rw in_flight ((writes, subst (λ k. May state.history found.device.id oldest.frame k) writes may_reach, refl), refl))),
          shows_made next refl
              (subst (λ m. ShowsFrames m old.driver.owners (stored state.frames oldest.frame (offset_of oldest.access) oldest.access.bytes)) (sym stores)
              (frames_stored old.memory old.driver.owners state.frames oldest.frame (offset_of oldest.access) bytes oldest.access.bytes shows.frames free there)),
        )

    step_made : (reply : Outcome) → TellsKind old.memory made made.kind reply → Steps state id reply new
    step_made reply tells =
        step_kind is.oldest.accepted.access.kind refl reply is.performed (subst (λ (m : MadeAt). TellsKind old.memory m m.kind reply) is.reply tells)

  step_oldest : (made : Option MadeAt) (reply : Outcome) → TellsMade old.memory made reply → CommitsOldest old.memory old.iommu id made new.memory new.iommu
      → IfSome made (λ it. has_owner old.driver.owners it.frame ≡ false) → Steps state id reply new
  step_oldest None reply tells call unreserved =
      let idle = call.makes.0 in
      let empty : in_flight_of rows found.device.id ≡ [] =
      in_flight_at rows found.device.id idle.row (ap (row_of rows) found.own ∙ idle.stands) ∙ ap (λ (l : List NumberedAccess). map (λ (f : NumberedAccess). f.accepted) l) idle.idle in (
        state,
        subst (λ t. Commits state id t state) (sym tells)
            (acts_at is_any_kind (λ (d : machine.Device). Makes state d NothingInFlight state) old state id NothingInFlight state shows.devices found refl (empty, refl)),
        shows_flights old new state call.makes.1 driver devices call.makes.2 shows,
      )
  step_oldest (Some made) reply tells call unreserved = step_made made call.makes unreserved reply tells

pub commit_step : {walks : List Walk} (old new : Parts) (events id : ℕ) (reply : Outcome) → InvariantWith walks old events → CommitsAccess old id reply new
    → (state : State) → PartsShow old state → (next : State) × Commits state id reply next × PartsShow new next
commit_step old new events id reply invariants commits state shows = elim commits [
  | inl unknown ↦ (
    state,
    acts_absent is_any_kind (λ device. Makes state device reply state) old state id reply shows.devices unknown.absent unknown.reply_is,
    shows_same old new state unknown.same shows,
  )
  | inr makes ↦ step_oldest old new events id invariants makes.driver makes.devices state shows
      (present_found old.driver.devices (flights_of old.iommu).rows old.devices id makes.present) makes.made reply makes.reply_is makes.call makes.unreserved
]
