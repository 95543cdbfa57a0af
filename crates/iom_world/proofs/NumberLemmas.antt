-- Accesses in flight by their numbers: where a row is added, one more is accepted, or the oldest is made, the others keep theirs.
use Rattle.std.proofs.Common.{◌≡◌, ◌≢◌, ◌==◌, ◌+◌, ◌-◌, ◌∙◌, ◌++◌, ℕ, Bool, true, false, List, [], ◌∷◌, length, Option, Some, None, refl, sym, ap, subst, arith, inl, inr, length-append, if◌then◌else◌}
use Rattle.std.proofs.lemmas.Bool.{eq-eqb}
use Rattle.std.proofs.lemmas.Bool.Decides.{eqb_tells}
use Rattle.iom_base.specs.declared.access.AcceptedAccess.{AcceptedAccess}
use Rattle.iom_inflight.specs.Calls.{IsAccepted, with_access, flights_with_accepted}
use Rattle.iom_inflight.specs.Flights.{NumberedAccess, FlightRow, Flights, new_row, row_of, with_row}
use Rattle.iom_inflight.proofs.Rows.{differs, row_is_own, row_of_own, row_of_other}
use Rattle.iom_hardware.specs.Blocks.{oldest_number}
use Rattle.iom_world.specs.Waiting.{access_numbered, in_flight_as}

-- what is in flight in a row keeps its number
abbrev pub KeepsNumbers : Option FlightRow → Option FlightRow → Type 0
KeepsNumbers old new = (number : ℕ) (own : AcceptedAccess) → in_flight_as old number ≡ Some own → in_flight_as new number ≡ Some own

-- and so in each
abbrev pub KeepsAllNumbers : Flights → Flights → Type 0
KeepsAllNumbers old new = (id : ℕ) → KeepsNumbers (row_of old.rows id) (row_of new.rows id)

pub same_numbers : (old new : Flights) → new ≡ old → KeepsAllNumbers old new
same_numbers old new same id number own at = subst (λ (f : Flights). in_flight_as (row_of f.rows id) number ≡ Some own) (sym same) at

-- ONE MORE IS ACCEPTED
numbered_push : (accepted : ℕ) (waiting : List NumberedAccess) (more : NumberedAccess) (number : ℕ) (own : AcceptedAccess)
    → access_numbered accepted waiting number ≡ Some own → access_numbered (accepted + 1) (waiting ++ more ∷ []) number ≡ Some own
numbered_push accepted [] more number own at = cc
numbered_push accepted (oldest ∷ later) more number own at =
    let long : length (later ++ more ∷ []) ≡ length later + 1 = length-append later (more ∷ []) in
    let same : accepted + 1 - length (later ++ more ∷ []) ≡ accepted - length later = omega (arith, long) in
    rw same (by (accepted - length later == number) at (numbered_push accepted later more number own))
  where
    by : (b : Bool) → (if b then Some oldest.accepted else access_numbered accepted later number) ≡ Some own
        → (access_numbered accepted later number ≡ Some own → access_numbered (accepted + 1) (later ++ more ∷ []) number ≡ Some own)
        → (if b then Some oldest.accepted else access_numbered (accepted + 1) (later ++ more ∷ []) number) ≡ Some own
    by true is rest = is
    by false is rest = rest is

numbered_last : (accepted : ℕ) (waiting : List NumberedAccess) (more : NumberedAccess)
    → access_numbered (accepted + 1) (waiting ++ more ∷ []) (accepted + 1) ≡ Some more.accepted
numbered_last accepted [] more = rw (eq-eqb (accepted + 1 - 0) (accepted + 1) (omega arith)) refl
numbered_last accepted (oldest ∷ later) more =
    let long : length (later ++ more ∷ []) ≡ length later + 1 = length-append later (more ∷ []) in
    rw (differs (accepted + 1 - length (later ++ more ∷ [])) (accepted + 1) (λ same. absurd (omega (arith, long, same)))) (numbered_last accepted later more)

-- the row, where one is
of_row : (row : Option FlightRow) (own : FlightRow) (number : ℕ) (found : Option AcceptedAccess) → row ≡ Some own → access_numbered own.accepted own.waiting number ≡ found
    → in_flight_as row number ≡ found
of_row row own number found is at = ap (λ (r : Option FlightRow). in_flight_as r number) is ∙ at

-- a row that is replaced stands there
replaced : (rows : List FlightRow) (id : ℕ) (row own : FlightRow) → row_of rows id ≡ Some row → own.device ≡ row.device → row_of (with_row rows own) id ≡ Some own
replaced rows id row own at same =
    let is : own.device ≡ id = same ∙ row_is_own rows id row at in
    subst (λ (d : ℕ). row_of (with_row rows own) d ≡ Some own) is (row_of_own rows own (rw (is, at) refl))

-- the rows of the others
others_row : (rows : List FlightRow) (id other : ℕ) (row own : FlightRow) → row_of rows id ≡ Some row → own.device ≡ row.device → other ≢ id
    → row_of (with_row rows own) other ≡ row_of rows other
others_row rows id other row own at same ne = row_of_other rows own other (λ is. ne (is ∙ same ∙ row_is_own rows id row at))

pub keeps_accepted : (old new : Flights) (id : ℕ) (accepted : AcceptedAccess) (given : ℕ) → IsAccepted old id accepted given new → KeepsAllNumbers old new
keeps_accepted old new id accepted given is other number own at =
    same_numbers (flights_with_accepted old is.row accepted) new is.after other number own (elim (eqb_tells other id) [
      | inl e ↦
          let there : row_of old.rows other ≡ Some is.row = ap (λ (d : ℕ). row_of old.rows d) e.1 ∙ is.stands in
          of_row _ after number (Some own)
          (replaced old.rows other is.row after there refl)
          (numbered_push is.row.accepted is.row.waiting _ number own (subst (λ (r : Option FlightRow). in_flight_as r number ≡ Some own) there at))
      | inr ne ↦ subst (λ (r : Option FlightRow). in_flight_as r number ≡ Some own) (sym (others_row old.rows id other is.row after is.stands refl ne.1)) at
    ])
  where
    after : FlightRow
    after = with_access is.row accepted (old.so_far + 1)

-- and it has that number
pub numbered_accepted : (old new : Flights) (id : ℕ) (accepted : AcceptedAccess) (given : ℕ) → IsAccepted old id accepted given new
    → in_flight_as (row_of new.rows id) given ≡ Some accepted
numbered_accepted old new id accepted given is =
    subst (λ (f : Flights). in_flight_as (row_of f.rows id) given ≡ Some accepted) (sym is.after)
    (of_row _ after given (Some accepted) (replaced old.rows id is.row after is.stands refl) (rw is.counted (numbered_last is.row.accepted is.row.waiting _)))
  where
    after : FlightRow
    after = with_access is.row accepted (old.so_far + 1)

-- A DEVICE IS ADDED
row_behind : (rows : List FlightRow) (id other : ℕ) (row : FlightRow) → row_of rows other ≡ Some row → row_of (rows ++ new_row id ∷ []) other ≡ Some row
row_behind [] id other row at = cc
row_behind (first ∷ others) id other row at = elim (eqb_tells first.device other) [
  | inl e ↦ rw e.0 (rw e.0 at at)
  | inr ne ↦ rw ne.0 (row_behind others id other row (rw ne.0 at at))
]

keeps_behind : (rows : List FlightRow) (id other : ℕ) (found : Option FlightRow) → row_of rows other ≡ found → KeepsNumbers found (row_of (rows ++ new_row id ∷ []) other)
keeps_behind rows id other None is number own at = cc
keeps_behind rows id other (Some row) is number own at = of_row _ row number (Some own) (row_behind rows id other row is) at

pub keeps_added : (old new : Flights) (id : ℕ) → new ≡ record old { rows = old.rows ++ new_row id ∷ [] } → KeepsAllNumbers old new
keeps_added old new id is other number own at =
    same_numbers (record old { rows = old.rows ++ new_row id ∷ [] }) new is other number own (keeps_behind old.rows id other (row_of old.rows other) refl number own at)

-- THE OLDEST IS MADE: the others keep their numbers
numbered_later : (accepted : ℕ) (oldest : NumberedAccess) (later : List NumberedAccess) (number : ℕ) (own : AcceptedAccess) → accepted - length later ≢ number
    → access_numbered accepted (oldest ∷ later) number ≡ Some own → access_numbered accepted later number ≡ Some own
numbered_later accepted oldest later number own ne at = rw (differs (accepted - length later) number ne) at at

-- and it was the one with its number
pub numbered_oldest : (row : FlightRow) (oldest : NumberedAccess) (later : List NumberedAccess) (number : ℕ) → row.waiting ≡ oldest ∷ later → oldest_number (Some row) ≡ Some number
    → in_flight_as (Some row) number ≡ Some oldest.accepted
numbered_oldest row oldest later number is at =
    let first : Some (row.accepted - length later) ≡ Some number = rw is at at in
    let same : row.accepted - length later ≡ number = cc in
    rw (is, eq-eqb (row.accepted - length later) number same) refl

pub keeps_later : (old new : Flights) (id : ℕ) (row : FlightRow) (oldest : NumberedAccess) (later : List NumberedAccess) → row_of old.rows id ≡ Some row → row.waiting ≡ oldest ∷ later
    → new ≡ record old { rows = with_row old.rows (record row { waiting = later }) } → (other number : ℕ) (own : AcceptedAccess)
    → (other ≡ id → oldest_number (row_of old.rows id) ≢ Some number) → in_flight_as (row_of old.rows other) number ≡ Some own → in_flight_as (row_of new.rows other) number ≡ Some own
keeps_later old new id row oldest later stands waiting is other number own never at =
    same_numbers (record old { rows = with_row old.rows after }) new is other number own (elim (eqb_tells other id) [
      | inl e ↦
          let there : row_of old.rows other ≡ Some row = ap (λ (d : ℕ). row_of old.rows d) e.1 ∙ stands in
          let first : oldest_number (row_of old.rows id) ≡ Some (row.accepted - length later) = rw (stands, waiting) refl in
          of_row _ after number (Some own)
          (replaced old.rows other row after there refl)
          (numbered_later row.accepted oldest later number own (λ same. never e.1 (first ∙ ap (λ (n : ℕ). Some n) same))
          (subst (λ (w : List NumberedAccess). access_numbered row.accepted w number ≡ Some own) waiting (subst (λ (r : Option FlightRow). in_flight_as r number ≡ Some own) there at)))
      | inr ne ↦ subst (λ (r : Option FlightRow). in_flight_as r number ≡ Some own) (sym (others_row old.rows id other row after stands refl ne.1)) at
    ])
  where
    after : FlightRow
    after = record row { waiting = later }
