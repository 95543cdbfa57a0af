-- What is in flight becomes less by each access that is made.
use Rattle.std.proofs.Common.{◌≡◌, ◌≢◌, ◌+◌, ◌*◌, ◌≤◌, inl, inr, ℕ, true, List, [], ◌∷◌, ◌++◌, length, map, Option, None, Some, refl, sym, ap, ◌∙◌, arith, if◌then◌else◌}
use Rattle.std.specs.List.{list_all}
use Rattle.std.proofs.lemmas.Bool.Decides.{eqb_tells}
use Rattle.std.proofs.lemmas.List.{length-append, length-map}
use Rattle.iom_base.specs.declared.access.AccessKind.{AccessKind}
use Rattle.iom_inflight.specs.Flights.{NumberedAccess, FlightRow, Flights, row_of, with_row, count_all, has_access, first_busy, is_row_drained, are_drained}
use Rattle.iom_inflight.specs.Invariant.{RowsInvariant, AreDistinct, AreFlights}
use Rattle.iom_settling.specs.Idle.{AreIdle, waiting_by}

-- nobody has something in flight
pub idle_where : (rows : List FlightRow) → first_busy rows ≡ None → AreIdle rows
idle_where [] none = tt
idle_where (row ∷ rows) none = by row.waiting refl (idle_where rows) none
  where
    by : (waiting : List NumberedAccess) → row.waiting ≡ waiting → (first_busy rows ≡ None → AreIdle rows) → (if has_access waiting then Some row.device else first_busy rows) ≡ None
        → (row.waiting ≡ []) × AreIdle rows
    by [] is rest none = (is, rest none)
    by (oldest ∷ later) is rest none = cc

-- a row of a device that has something in flight
pub record IsBusyRow (rows : List FlightRow) (device : ℕ) : Type 0 where
  pub row : FlightRow
  pub stands : row_of rows device ≡ Some row
  pub oldest : NumberedAccess
  pub later : List NumberedAccess
  pub waiting : row.waiting ≡ oldest ∷ later

-- where somebody has something in flight, one access at least is
pub count_some : (rows : List FlightRow) (device : ℕ) → first_busy rows ≡ Some device → 1 ≤ count_all rows
count_some [] device found = cc
count_some (row ∷ rows) device found = by row.waiting (count_some rows device) found
  where
    by : (waiting : List NumberedAccess) → (first_busy rows ≡ Some device → 1 ≤ count_all rows) → (if has_access waiting then Some row.device else first_busy rows) ≡ Some device → 1 ≤ length waiting + count_all rows
    by [] rest found = let more = rest found in omega (arith, more)
    by (oldest ∷ later) rest found = omega arith

-- where rows are of different devices, the first that has something in flight is found
pub busy_where : (rows : List FlightRow) (device : ℕ) → AreDistinct rows → first_busy rows ≡ Some device → IsBusyRow rows device
busy_where [] device distinct found = cc
busy_where (row ∷ rows) device distinct found = by row.waiting refl (busy_where rows device distinct.1) found
  where
    other : IsBusyRow rows device → IsBusyRow (row ∷ rows) device
    other rest = elim (eqb_tells row.device device) [
      | inl e ↦ let none : ◌≡◌ {A = Option FlightRow} None (Some rest.row) = sym distinct.0 ∙ ap (row_of rows) e.1 ∙ rest.stands in cc
      | inr ne ↦ record { row = rest.row; stands = rw ne.0 rest.stands; oldest = rest.oldest; later = rest.later; waiting = rest.waiting }
    ]

    by : (waiting : List NumberedAccess) → row.waiting ≡ waiting → (first_busy rows ≡ Some device → IsBusyRow rows device)
        → (if has_access waiting then Some row.device else first_busy rows) ≡ Some device → IsBusyRow (row ∷ rows) device
    by [] is rest found = other (rest found)
    by (oldest ∷ later) is rest found =
        let same : row.device ≡ device = cc in
        elim (eqb_tells row.device device) [
          | inl e ↦ record { row = row; stands = rw e.0 refl; oldest = oldest; later = later; waiting = is }
          | inr ne ↦ absurd (ne.1 same)
        ]

-- where an access of the first device that has something in flight is made, it was the first in turn, and is in flight no more
pub first_waits : (rows : List FlightRow) (device : ℕ) (row : FlightRow) (oldest : NumberedAccess) (later : List NumberedAccess) → first_busy rows ≡ Some device
    → row_of rows device ≡ Some row → row.waiting ≡ oldest ∷ later → waiting_by rows ≡ device ∷ waiting_by (with_row rows (record row { waiting = later }))
first_waits [] device row oldest later found at waiting = cc
first_waits (first ∷ others) device row oldest later found at waiting = elim (eqb_tells first.device device) [
  | inl e ↦
      let same : Some first ≡ Some row = rw e.0 at at in
      let is : first ≡ row = cc in
      let own : row.device ≡ device = ap (λ (r : FlightRow). r.device) (sym is) ∙ e.1 in
      let waits : first.waiting ≡ oldest ∷ later = ap (λ (r : FlightRow). r.waiting) is ∙ waiting in
      elim (eqb_tells first.device row.device) [
        | inl there ↦
            rw there.0
            (ap (λ (l : List NumberedAccess). map (λ access. first.device) l ++ waiting_by others) waits
            ∙ ap (λ d. d ∷ (map (λ (access : NumberedAccess). d) later ++ waiting_by others)) e.1
            ∙ ap (λ d. device ∷ (map (λ (access : NumberedAccess). d) later ++ waiting_by others)) (sym own))
        | inr other ↦ absurd (other.1 (e.1 ∙ sym own))
      ]
  | inr ne ↦
      let there : row_of others device ≡ Some row = rw ne.0 at at in
      let own : row.device ≡ device = owner others there in
      elim (eqb_tells first.device row.device) [
        | inl e ↦ absurd (ne.1 (e.1 ∙ own))
        | inr other ↦ rw other.0 (behind ne.1 first.waiting found (λ busy. first_waits others device row oldest later busy there waiting))
      ]
]
  where
    owner : (rows : List FlightRow) → row_of rows device ≡ Some row → row.device ≡ device
    owner [] at = cc
    owner (r ∷ rows) at = elim (eqb_tells r.device device) [
      | inl e ↦ let same : Some r ≡ Some row = rw e.0 at at in let is : r ≡ row = cc in ap (λ (x : FlightRow). x.device) (sym is) ∙ e.1
      | inr ne ↦ owner rows (rw ne.0 at at)
    ]

    behind : first.device ≢ device → (waits : List NumberedAccess) → (if has_access waits then Some first.device else first_busy others) ≡ Some device
        → (first_busy others ≡ Some device → waiting_by others ≡ device ∷ waiting_by (with_row others (record row { waiting = later })))
        → map (λ (access : NumberedAccess). first.device) waits ++ waiting_by others
        ≡ device ∷ (map (λ (access : NumberedAccess). first.device) waits ++ waiting_by (with_row others (record row { waiting = later })))
    behind differ [] busy rest = rest busy
    behind differ (one ∷ more) busy rest = let same : first.device ≡ device = cc in absurd (differ same)

-- as many are in flight as are counted
pub count_waiting : (rows : List FlightRow) → count_all rows ≡ length (waiting_by rows)
count_waiting [] = refl
count_waiting (row ∷ rows) =
    let own = length-map row.waiting (λ (access : NumberedAccess). row.device) in
    let both = length-append (map (λ (access : NumberedAccess). row.device) row.waiting) (waiting_by rows) in
    let rest = count_waiting rows in
    omega (arith, own, both, rest)

-- where nothing is in flight, nobody's turn is next
pub none_waits : (rows : List FlightRow) → AreIdle rows → waiting_by rows ≡ []
none_waits [] idle = refl
none_waits (row ∷ rows) idle = rw (idle.0, none_waits rows idle.1) refl

-- of each device eight are in flight at most
count_rows : (so_far : ℕ) (rows : List FlightRow) → RowsInvariant so_far rows → count_all rows ≤ 8 * length rows
count_rows so_far [] invariants = omega arith
count_rows so_far (row ∷ rows) invariants = let few = invariants.0.few in let rest = count_rows so_far rows invariants.1 in omega (arith, few, rest)

-- 128 at most
pub count_few : (flights : Flights) → AreFlights flights → count_all flights.rows ≤ 128
count_few flights are = let few = are.few in let rest = count_rows flights.so_far flights.rows are.rows in omega (arith, few, rest)

-- where nothing is in flight, nothing is waited for
pub idle_drained : (flights : Flights) (before : ℕ) (kind : AccessKind) → AreIdle flights.rows → are_drained flights before kind ≡ true
idle_drained flights before kind idle = by flights.rows idle
  where
    by : (rows : List FlightRow) → AreIdle rows → list_all (is_row_drained before kind) rows ≡ true
    by [] idle = refl
    by (row ∷ rows) idle = rw (idle.0, by rows idle.1) refl
