-- What a call of a row leaves of all rows, by the place where the row stands.
use Rattle.std.proofs.Common.{◌≡◌, ◌≤◌, ◌+◌, ◌∙◌, ℕ, List, [], ◌∷◌, Option, Some, None, get_or, set, refl, sym, ap, subst}
use Rattle.std.proofs.lemmas.Option.{get_or_from_slice_get}
use Rattle.std.proofs.lemmas.List.{set-get_or}
use Rattle.iom_base.specs.Accesses.{IsWithinPage}
use Rattle.iom_base.specs.declared.access.AcceptedAccess.{AcceptedAccess}
use Rattle.iom_inflight.specs.declared.made.MadeAt.{MadeAt}
use Rattle.iom_inflight.specs.Flights.{NumberedAccess, FlightRow, Flights, row_of, with_row, made_at}
use Rattle.iom_inflight.specs.Calls.{with_access, flights_with_accepted, IsAccepted, Accepts, MakesOldestInFlight, IsFirstIn, IsReadyToCommit}
use Rattle.iom_inflight.specs.Rows.{RowStandsAt, RowAccepts, RowMakes, IsMakeable}
use Rattle.iom_inflight.specs.Invariant.{CarriesBytes, AccessesInvariant, AreFlights}
use Rattle.iom_inflight.proofs.Kept.{sound_row, sound_accepted, sound_made}

-- the flights with a row put at a place
abbrev pub put_at : Flights → ℕ → FlightRow → Flights
put_at flights place row = record flights { rows = set flights.rows place row }

module _ (flights self : Flights) (view : flights ≡ self) (device place : ℕ) (found : FlightRow) (at_place : RowStandsAt self.rows device place) (read : found ≡ get_or flights.rows place found) where
  stands : RowStandsAt flights.rows device place
  stands = subst (λ (f : Flights). RowStandsAt f.rows device place) (sym view) at_place

  is_row : found ≡ stands.row
  is_row = read ∙ get_or_from_slice_get flights.rows place stands.row found stands.there

  found_row : row_of flights.rows device ≡ Some found
  found_row = stands.first ∙ ap Some (sym is_row)

  own : found.device ≡ device
  own = ap (λ (r : FlightRow). r.device) is_row ∙ stands.own

  put_back : (new : FlightRow) → new ≡ found → put_at flights place new ≡ flights
  put_back new same =
      ap (λ (r : FlightRow). put_at flights place r) (same ∙ read)
      ∙ ap (λ (rs : List FlightRow). record flights { rows = rs }) (set-get_or flights.rows place found)

  put_own : (new changed : FlightRow) → new ≡ changed → changed.device ≡ found.device → set flights.rows place new ≡ with_row flights.rows changed
  put_own new changed same kept =
      stands.replaced new (ap (λ (r : FlightRow). r.device) same ∙ kept ∙ own) ∙ ap (λ (r : FlightRow). with_row flights.rows r) same

  -- the device has accepted no more than all
  pub counted : AreFlights flights → found.accepted ≤ self.so_far
  counted invariants = subst (λ (f : Flights). found.accepted ≤ f.so_far) view (sound_row flights.so_far flights.rows device found invariants.rows found_row).counted

  -- an access is accepted
  after_accepts : (accepted : AcceptedAccess) (new : FlightRow) → new ≡ with_access found accepted (flights.so_far + 1)
      → ◌≡◌ {A = Flights} (record { rows = set flights.rows place new; so_far = flights.so_far + 1 }) (flights_with_accepted flights found accepted)
  after_accepts accepted new is =
      ap (λ (rs : List FlightRow). record { rows = rs; so_far = flights.so_far + 1 }) (put_own new (with_access found accepted (flights.so_far + 1)) is refl)

  pub accepts_at : (accepted : AcceptedAccess) (number : ℕ) (new : FlightRow) → RowAccepts found accepted (flights.so_far + 1) (Some number) new
      → IsAccepted self device accepted number (record { rows = set flights.rows place new; so_far = flights.so_far + 1 })
  accepts_at accepted number new is = record {
    row = found;
    stands = subst (λ (f : Flights). row_of f.rows device ≡ Some found) view found_row;
    room = is.0;
    counted = is.1;
    after = after_accepts accepted new is.2 ∙ ap (λ (f : Flights). flights_with_accepted f found accepted) view;
  }

  pub sound_accepts_at : (accepted : AcceptedAccess) (number : ℕ) (new : FlightRow) → RowAccepts found accepted (flights.so_far + 1) (Some number) new → AreFlights flights
      → IsWithinPage accepted.access → CarriesBytes accepted.access.kind accepted.access.len accepted.access.bytes
      → AreFlights (record { rows = set flights.rows place new; so_far = flights.so_far + 1 })
  sound_accepts_at accepted number new is invariants within carries =
      subst AreFlights (sym (after_accepts accepted new is.2)) (sound_accepted flights device found accepted invariants found_row is.0 within carries)

  -- it isn't
  pub refuses_at : (accepted : AcceptedAccess) (new : FlightRow) → RowAccepts found accepted (flights.so_far + 1) None new → Accepts self device accepted None (put_at flights place new)
  refuses_at accepted new is =
      (record { row = found; stands = subst (λ (f : Flights). row_of f.rows device ≡ Some found) view found_row; full = is.0 }, put_back new is.1 ∙ view)

  -- the oldest access is made
  after_makes : (later : List NumberedAccess) (new : FlightRow) → new ≡ record found { waiting = later }
      → ◌≡◌ {A = Flights} (put_at flights place new) (record flights { rows = with_row flights.rows (record found { waiting = later }) })
  after_makes later new is = ap (λ (rs : List FlightRow). record flights { rows = rs }) (put_own new (record found { waiting = later }) is refl)

  pub makes_at : (memory new_memory : List (List ℕ)) (made : Option MadeAt) (new : FlightRow) → RowMakes memory found made new_memory new → MakesOldestInFlight memory self device made new_memory (put_at flights place new)
  makes_at memory new_memory None new is =
      (record { row = found; stands = subst (λ (f : Flights). row_of f.rows device ≡ Some found) view found_row; idle = is.0 }, is.1, put_back new is.2 ∙ view)
  makes_at memory new_memory (Some made) new is = record {
    row = found;
    stands = subst (λ (f : Flights). row_of f.rows device ≡ Some found) view found_row;
    oldest = is.oldest;
    later = is.later;
    waiting = is.waiting;
    inside = is.inside;
    within = is.within;
    reply = is.reply ∙ ap (λ d. made_at d is.oldest.accepted) own;
    performed = is.performed;
    after = after_makes is.later new is.after ∙ ap (λ (f : Flights). record f { rows = with_row f.rows (record found { waiting = is.later }) }) view;
  }

  pub sound_makes_at : (memory new_memory : List (List ℕ)) (made : Option MadeAt) (new : FlightRow) → RowMakes memory found made new_memory new → AreFlights flights → AreFlights (put_at flights place new)
  sound_makes_at memory new_memory None new is invariants = subst AreFlights (sym (put_back new is.2)) invariants
  sound_makes_at memory new_memory (Some made) new is invariants =
      subst AreFlights (sym (after_makes is.later new is.after)) (sound_made flights device found is.oldest is.later invariants found_row is.waiting)

  -- the oldest access can be made
  pub makeable_at : (frames : ℕ) → AreFlights flights → IsReadyToCommit frames (row_of self.rows device) → IsMakeable frames found.waiting
  makeable_at frames invariants ready =
      let own_ready : IsReadyToCommit frames (Some found) = subst (IsReadyToCommit frames) found_row (subst (λ (f : Flights). IsReadyToCommit frames (row_of f.rows device)) (sym view) ready) in
      by found.waiting (sound_row flights.so_far flights.rows device found invariants.rows found_row).accesses own_ready
    where
      by : (waiting : List NumberedAccess) → AccessesInvariant flights.so_far waiting → IsFirstIn frames waiting → IsMakeable frames waiting
      by [] each first = tt
      by (oldest ∷ later) each first = (first, each.0.within, each.0.carries)
