-- That calls keep what holds of all accesses in flight.
use Rattle.std.proofs.Common.{◌≡◌, ◌<◌, ◌≤◌, ◌+◌, ◌∙◌, ◌++◌, ℕ, List, [], ◌∷◌, length, Option, Some, None, refl, inl, inr, arith, subst, length-append}
use Rattle.std.proofs.lemmas.Bool.Decides.{eqb_tells}
use Rattle.iom_base.specs.declared.access.AcceptedAccess.{AcceptedAccess}
use Rattle.iom_base.specs.Accesses.{IsWithinPage}
use Rattle.iom_inflight.specs.Flights.{NumberedAccess, FlightRow, Flights, new_row, row_of, with_row}
use Rattle.iom_inflight.specs.Calls.{with_access, flights_with_accepted}
use Rattle.iom_inflight.specs.Invariant.{CarriesBytes, AccessInvariant, AccessesInvariant, RowInvariant, RowsInvariant, AreDistinct, AreFlights}
use Rattle.iom_inflight.proofs.Rows.{differs, length-with_row, row_of_append_other}

more_accesses : (n m : ℕ) (waiting : List NumberedAccess) → n ≤ m → AccessesInvariant n waiting → AccessesInvariant m waiting
more_accesses n m [] le invariants = tt
more_accesses n m (access ∷ later) le invariants =
    (record { within = invariants.0.within; carries = invariants.0.carries; from_one = invariants.0.from_one; numbered = omega (arith, invariants.0.numbered) }, more_accesses n m later le invariants.1)

more_rows : (n m : ℕ) (rows : List FlightRow) → n ≤ m → RowsInvariant n rows → RowsInvariant m rows
more_rows n m [] le invariants = tt
more_rows n m (row ∷ rows) le invariants =
    (record { few = invariants.0.few; counted = omega (arith, invariants.0.counted); accesses = more_accesses n m row.waiting le invariants.0.accesses }, more_rows n m rows le invariants.1)

-- the row of a device is sound
pub sound_row : (n : ℕ) (rows : List FlightRow) (device : ℕ) (row : FlightRow) → RowsInvariant n rows → row_of rows device ≡ Some row → RowInvariant n row
sound_row n [] device row invariants at = cc
sound_row n (first ∷ others) device row invariants at = elim (eqb_tells first.device device) [
  | inl e ↦ let same : Some first ≡ Some row = rw e.0 at at in let is : first ≡ row = cc in subst (RowInvariant n) is invariants.0
  | inr ne ↦ sound_row n others device row invariants.1 (rw ne.0 at at)
]

-- a sound row may replace another
pub sound_with_row : (n : ℕ) (rows : List FlightRow) (own : FlightRow) → RowsInvariant n rows → RowInvariant n own → RowsInvariant n (with_row rows own)
sound_with_row n [] own invariants is = tt
sound_with_row n (first ∷ others) own invariants is = elim (eqb_tells first.device own.device) [
  | inl e ↦ rw e.0 (is, invariants.1)
  | inr ne ↦ rw ne.0 (invariants.0, sound_with_row n others own invariants.1 is)
]

pub sound_append : (n : ℕ) (rows : List FlightRow) (own : FlightRow) → RowsInvariant n rows → RowInvariant n own → RowsInvariant n (rows ++ own ∷ [])
sound_append n [] own invariants is = (is, tt)
sound_append n (first ∷ others) own invariants is = (invariants.0, sound_append n others own invariants.1 is)

-- a device without a row has none where another's is replaced, or its own isn't there
none_with_row : (rows : List FlightRow) (own : FlightRow) (device : ℕ) → row_of rows device ≡ None → row_of (with_row rows own) device ≡ None
none_with_row [] own device at = refl
none_with_row (first ∷ others) own device at = elim (eqb_tells first.device device) [
  | inl e ↦ let no : ◌≡◌ {A = Option FlightRow} (Some first) None = rw e.0 at at in cc
  | inr apart ↦ let rest : row_of others device ≡ None = rw apart.0 at at in elim (eqb_tells first.device own.device) [
    | inl e ↦ rw (e.0, differs own.device device (λ same. apart.1 (e.1 ∙ same))) rest
    | inr ne ↦ rw (ne.0, apart.0) (none_with_row others own device rest)
  ]
]

distinct_with_row : (rows : List FlightRow) (own : FlightRow) → AreDistinct rows → AreDistinct (with_row rows own)
distinct_with_row [] own distinct = tt
distinct_with_row (first ∷ others) own distinct = elim (eqb_tells first.device own.device) [
  | inl e ↦ rw e.0 (subst (λ d. row_of others d ≡ None) e.1 distinct.0, distinct.1)
  | inr ne ↦ rw ne.0 (none_with_row others own first.device distinct.0, distinct_with_row others own distinct.1)
]

distinct_append : (rows : List FlightRow) (own : FlightRow) → AreDistinct rows → row_of rows own.device ≡ None → AreDistinct (rows ++ own ∷ [])
distinct_append [] own distinct none = (refl, tt)
distinct_append (first ∷ others) own distinct none = elim (eqb_tells first.device own.device) [
  | inl e ↦ let no : ◌≡◌ {A = Option FlightRow} (Some first) None = rw e.0 at none in cc
  | inr ne ↦ let rest : row_of others own.device ≡ None = rw ne.0 at none in (row_of_append_other others own first.device ne.1 ∙ distinct.0, distinct_append others own distinct.1 rest)
]

accesses_append : (n : ℕ) (waiting : List NumberedAccess) (access : NumberedAccess) → AccessesInvariant n waiting → AccessInvariant n access → AccessesInvariant n (waiting ++ access ∷ [])
accesses_append n [] access invariants is = (is, tt)
accesses_append n (first ∷ later) access invariants is = (invariants.0, accesses_append n later access invariants.1 is)

-- NO DEVICE
pub sound_none : AreFlights (record { rows = []; so_far = 0 })
sound_none = record { few = omega arith; distinct = tt; rows = tt }

-- ONE MORE DEVICE
pub sound_added : (flights : Flights) (device : ℕ) → AreFlights flights → row_of flights.rows device ≡ None → length flights.rows < 16
    → AreFlights (record flights { rows = flights.rows ++ new_row device ∷ [] })
sound_added flights device invariants none few = record {
  few = omega (arith, length-append flights.rows (new_row device ∷ []));
  distinct = distinct_append flights.rows (new_row device) invariants.distinct none;
  rows = sound_append flights.so_far flights.rows (new_row device) invariants.rows (record { few = omega arith; counted = omega arith; accesses = tt });
}

-- ONE MORE ACCESS
pub sound_accepted : (flights : Flights) (device : ℕ) (row : FlightRow) (accepted : AcceptedAccess) → AreFlights flights → row_of flights.rows device ≡ Some row → length row.waiting < 8
    → IsWithinPage accepted.access → CarriesBytes accepted.access.kind accepted.access.len accepted.access.bytes → AreFlights (flights_with_accepted flights row accepted)
sound_accepted flights device row accepted invariants at few within carries =
    let n : ℕ = flights.so_far + 1 in
    let own = sound_row flights.so_far flights.rows device row invariants.rows at in
    let le : flights.so_far ≤ n = omega arith in
    let access : NumberedAccess = record { accepted = accepted; number = n } in
    record {
      few = omega (arith, length-with_row flights.rows (with_access row accepted n), invariants.few);
      distinct = distinct_with_row flights.rows (with_access row accepted n) invariants.distinct;
      rows = sound_with_row n flights.rows (with_access row accepted n) (more_rows flights.so_far n flights.rows le invariants.rows) (record {
        few = omega (arith, length-append row.waiting (access ∷ []), few);
        counted = omega (arith, own.counted);
        accesses = accesses_append n row.waiting access (more_accesses flights.so_far n row.waiting le own.accesses)
            (record { within = within; carries = carries; from_one = omega arith; numbered = omega arith });
      });
    }

rest_sound : (n : ℕ) (waiting : List NumberedAccess) (oldest : NumberedAccess) (later : List NumberedAccess) → waiting ≡ oldest ∷ later → AccessesInvariant n waiting → length waiting ≤ 8
    → AccessInvariant n oldest × AccessesInvariant n later × (length later ≤ 8)
rest_sound n [] oldest later is invariants few = cc
rest_sound n (first ∷ others) oldest later is invariants few =
    let one : first ≡ oldest = cc in let all : others ≡ later = cc in
    (subst (AccessInvariant n) one invariants.0, subst (AccessesInvariant n) all invariants.1, subst (λ (xs : List NumberedAccess). length xs ≤ 8) all (omega arith))

-- the oldest access of a device is sound
pub sound_oldest : (flights : Flights) (device : ℕ) (row : FlightRow) (oldest : NumberedAccess) (later : List NumberedAccess) → AreFlights flights → row_of flights.rows device ≡ Some row
    → row.waiting ≡ oldest ∷ later → AccessInvariant flights.so_far oldest
sound_oldest flights device row oldest later invariants at is =
    let own = sound_row flights.so_far flights.rows device row invariants.rows at in (rest_sound flights.so_far row.waiting oldest later is own.accesses own.few).0

-- THE OLDEST ACCESS is made
pub sound_made : (flights : Flights) (device : ℕ) (row : FlightRow) (oldest : NumberedAccess) (later : List NumberedAccess) → AreFlights flights → row_of flights.rows device ≡ Some row
    → row.waiting ≡ oldest ∷ later → AreFlights (record flights { rows = with_row flights.rows (record row { waiting = later }) })
sound_made flights device row oldest later invariants at is =
    let own = sound_row flights.so_far flights.rows device row invariants.rows at in
    let rest = rest_sound flights.so_far row.waiting oldest later is own.accesses own.few in
    record {
      few = omega (arith, length-with_row flights.rows (record row { waiting = later }), invariants.few);
      distinct = distinct_with_row flights.rows (record row { waiting = later }) invariants.distinct;
      rows = sound_with_row flights.so_far flights.rows (record row { waiting = later }) invariants.rows (record { few = rest.2; counted = own.counted; accesses = rest.1 });
    }
