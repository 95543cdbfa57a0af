-- The rows of accesses in flight, as the facts on copies see them: which accesses there are, and what is left of them when a row is replaced.
use Rattle.std.proofs.Common.{◌&&◌, ◌≡◌, ◌⊎◌, ◌<◌, ◌∙◌, ◌++◌, inl, inr, ℕ, Bool, true, false, not, nat_le, List, [], ◌∷◌, map, Some, Contains, refl, sym, ap, subst}
use Rattle.std.specs.List.{list_all}
use Rattle.std.proofs.lemmas.Bool.{false≢true, and_parts, leb-false}
use Rattle.std.proofs.lemmas.Bool.Decides.{eqb_tells}
use Rattle.std.proofs.lemmas.List.Elements.{Contains-push_cases, Contains-append_cases, Contains-append_left, Contains-append_right}
use Rattle.iom_coherence.specs.Among.{AreAmong, AreAmongWith}
use Rattle.iom_coherence.specs.Scene.{AccessInFlight}
use Rattle.iom_coherence.proofs.ListLemmas.{in_none, cons_cases, contains_tail}
use Rattle.iom_base.specs.declared.access.AcceptedAccess.{AcceptedAccess}
use Rattle.iom_base.specs.declared.access.AccessKind.{AccessKind}
use Rattle.iom_base.specs.declared.access.AccessKind.TheVariants.{Read, Write}
use Rattle.iom_inflight.specs.Calls.{with_access}
use Rattle.iom_inflight.specs.Flights.{NumberedAccess, FlightRow, Flights, row_of, with_row, is_same_kind, is_awaited, is_row_drained, are_drained}
use Rattle.iom_inflight.proofs.Rows.{row_is_own}
use Rattle.iom_world_effects.specs.Read.{access_in_flight, accesses_of}
use Rattle.iom_world_effects.specs.Invariant.{row_ids}

-- the accesses of a row are among those of all
pub row_accesses : (rows : List FlightRow) (id : ℕ) (row : FlightRow) → row_of rows id ≡ Some row
    → AreAmong (map (access_in_flight row.device) row.waiting) (accesses_of rows)
row_accesses [] id row at x there = cc
row_accesses (first ∷ others) id row at x there = elim (eqb_tells first.device id) [
  | inl e ↦
      let same : Some first ≡ Some row = rw e.0 at at in
      let is : first ≡ row = cc in
      Contains-append_left (map (access_in_flight first.device) first.waiting) (accesses_of others) x (subst (λ (r : FlightRow). Contains (map (access_in_flight r.device) r.waiting) x) (sym is) there)
  | inr ne ↦ Contains-append_right (map (access_in_flight first.device) first.waiting) (accesses_of others) x (row_accesses others id row (rw ne.0 at at) x there)
]

-- where a row is replaced each access is one of its, or was there
pub replaced_accesses : (rows : List FlightRow) (own : FlightRow) (x : AccessInFlight) → Contains (accesses_of (with_row rows own)) x
    → Contains (map (access_in_flight own.device) own.waiting) x ⊎ Contains (accesses_of rows) x
replaced_accesses [] own x there = absurd (in_none x there)
replaced_accesses (first ∷ others) own x there = elim (eqb_tells first.device own.device) [
  | inl e ↦
      let here : Contains (map (access_in_flight own.device) own.waiting ++ accesses_of others) x = rw e.0 at there in
      elim (Contains-append_cases (map (access_in_flight own.device) own.waiting) (accesses_of others) x here) [
        | inl mine ↦ inl mine
        | inr other ↦ inr (Contains-append_right (map (access_in_flight first.device) first.waiting) (accesses_of others) x other)
      ]
  | inr ne ↦
      let here : Contains (map (access_in_flight first.device) first.waiting ++ accesses_of (with_row others own)) x = rw ne.0 at there in
      elim (Contains-append_cases (map (access_in_flight first.device) first.waiting) (accesses_of (with_row others own)) x here) [
        | inl mine ↦ inr (Contains-append_left (map (access_in_flight first.device) first.waiting) (accesses_of others) x mine)
        | inr other ↦ elim (replaced_accesses others own x other) [
          | inl mine ↦ inl mine
          | inr before ↦ inr (Contains-append_right (map (access_in_flight first.device) first.waiting) (accesses_of others) x before)
        ]
      ]
]

pub map_push : {X Y : Type 0} (f : X → Y) (xs : List X) (x : X) → map f (xs ++ x ∷ []) ≡ map f xs ++ f x ∷ []
map_push f [] x = refl
map_push f (y ∷ xs) x = ap (λ ys. f y ∷ ys) (map_push f xs x)

-- the oldest access of a row is made: of the others each was there
pub made_among : (rows : List FlightRow) (id : ℕ) (row : FlightRow) (oldest : NumberedAccess) (later : List NumberedAccess) → row_of rows id ≡ Some row → row.waiting ≡ oldest ∷ later
    → AreAmong (accesses_of (with_row rows (record row { waiting = later }))) (accesses_of rows)
made_among rows id row oldest later at waiting x there = elim (replaced_accesses rows (record row { waiting = later }) x there) [
  | inl mine ↦ row_accesses rows id row at x
      (subst (λ (l : List NumberedAccess). Contains (map (access_in_flight row.device) l) x) (sym waiting)
      (contains_tail (access_in_flight row.device oldest) (map (access_in_flight row.device) later) x mine))
  | inr before ↦ before
]

-- one more access of a row is accepted: each other was there
pub accepted_among : (rows : List FlightRow) (id : ℕ) (row : FlightRow) (accepted : AcceptedAccess) (number : ℕ) → row_of rows id ≡ Some row
    → AreAmongWith (accesses_of (with_row rows (with_access row accepted number)))
    (record { device = id; frame = accepted.frame; kind = accepted.access.kind; number = number }) (accesses_of rows)
accepted_among rows id row accepted number at x there =
    let own : row.device ≡ id = row_is_own rows id row at in
    elim (replaced_accesses rows (with_access row accepted number) x there) [
      | inl mine ↦ elim (Contains-push_cases (map (access_in_flight row.device) row.waiting) last x
          (subst (λ (l : List AccessInFlight). Contains l x) (map_push (access_in_flight row.device) row.waiting (record { accepted = accepted; number = number })) mine)) [
            | inl before ↦ inr (row_accesses rows id row at x before)
            | inr same ↦ inl (is_last x same ∙ ap (λ (d : ℕ). record { device = d; frame = accepted.frame; kind = accepted.access.kind; number = number }) own)
          ]
      | inr before ↦ inr before
    ]
  where
    last : AccessInFlight
    last = access_in_flight row.device (record { accepted = accepted; number = number })

    is_last : (y : AccessInFlight) → last ≡ y → y ≡ last
    is_last y same = sym same

-- the rows are of the same devices
pub row_ids_kept : (rows : List FlightRow) (own : FlightRow) → row_ids (with_row rows own) ≡ row_ids rows
row_ids_kept [] own = refl
row_ids_kept (first ∷ others) own = elim (eqb_tells first.device own.device) [
  | inl e ↦ rw e.0 (ap (λ (d : ℕ). d ∷ row_ids others) (sym e.1))
  | inr ne ↦ rw ne.0 (ap (λ (ds : List ℕ). first.device ∷ ds) (row_ids_kept others own))
]

later_than : (before number : ℕ) → not (nat_le number before) ≡ true → before < number
later_than before number none = by (nat_le number before) refl none
  where
    by : (b : Bool) → nat_le number before ≡ b → not b ≡ true → before < number
    by true is none = absurd (false≢true none)
    by false is none = leb-false number before is

-- where no read and no write among the first so many is in flight, each access that is was accepted after them
access_after : (device before : ℕ) (access : NumberedAccess) (kind : AccessKind) → access.accepted.access.kind ≡ kind → not (is_awaited before Read access) ≡ true
    → not (is_awaited before Write access) ≡ true → before < access.number
access_after device before access Read is reads writes = later_than before access.number (ap (λ k. not (is_same_kind k Read && nat_le access.number before)) (sym is) ∙ reads)
access_after device before access Write is reads writes = later_than before access.number (ap (λ k. not (is_same_kind k Write && nat_le access.number before)) (sym is) ∙ writes)

row_after : (device before : ℕ) (waiting : List NumberedAccess) → list_all (λ access. not (is_awaited before Read access)) waiting ≡ true
    → list_all (λ access. not (is_awaited before Write access)) waiting ≡ true → (x : AccessInFlight) → Contains (map (access_in_flight device) waiting) x → before < x.number
row_after device before [] reads writes x there = absurd (in_none x there)
row_after device before (access ∷ later) reads writes x there =
    let read = and_parts (not (is_awaited before Read access)) (list_all (λ access. not (is_awaited before Read access)) later) reads in
    let write = and_parts (not (is_awaited before Write access)) (list_all (λ access. not (is_awaited before Write access)) later) writes in
    elim (cons_cases (access_in_flight device access) (map (access_in_flight device) later) x there) [
      | inl same ↦ subst (λ (y : AccessInFlight). before < y.number) same (access_after device before access access.accepted.access.kind refl read.0 write.0)
      | inr rest ↦ row_after device before later read.1 write.1 x rest
    ]

rows_after : (before : ℕ) (rows : List FlightRow) → list_all (is_row_drained before Read) rows ≡ true → list_all (is_row_drained before Write) rows ≡ true
    → (x : AccessInFlight) → Contains (accesses_of rows) x → before < x.number
rows_after before [] reads writes x there = absurd (in_none x there)
rows_after before (row ∷ rows) reads writes x there =
    let read = and_parts (is_row_drained before Read row) (list_all (is_row_drained before Read) rows) reads in
    let write = and_parts (is_row_drained before Write row) (list_all (is_row_drained before Write) rows) writes in
    elim (Contains-append_cases (map (access_in_flight row.device) row.waiting) (accesses_of rows) x there) [
      | inl mine ↦ row_after row.device before row.waiting read.0 write.0 x mine
      | inr other ↦ rows_after before rows read.1 write.1 x other
    ]

pub drained_after : (flights : Flights) (before : ℕ) → are_drained flights before Read ≡ true → are_drained flights before Write ≡ true
    → (x : AccessInFlight) → Contains (accesses_of flights.rows) x → before < x.number
drained_after flights before reads writes = rows_after before flights.rows reads writes
