-- That calls keep what holds of all requests under way.
use Rattle.std.proofs.Common.{suc, ◌≡◌, ◌<◌, ◌∙◌, ◌++◌, ℕ, List, [], ◌∷◌, length, Option, Some, None, refl, sym, ap, inl, inr, arith, subst, length-append}
use Rattle.std.proofs.lemmas.Bool.Decides.{eqb_tells}
use Rattle.iom_registers.specs.declared.directory.DirectoryPointer.{DirectoryPointer}
use Rattle.iom_walks.specs.Calls.{AllBeginAnew, OneBeginsAnew, WhatBeginsAnew}
use Rattle.iom_walks.specs.Invariant.{AreDistinct, AreWalks, RowInvariant, RowsInvariant, UnderWayInvariant}
use Rattle.iom_walks.specs.Walks.{UnderWay, WalkRow, new_row, row_of, with_row}
use Rattle.iom_walks.proofs.NoFrame.{anew_names_no_frame}
use Rattle.iom_walks.proofs.Rows.{differs, length-with_row, row_of_append_other}

-- the row of a device is sound
pub sound_row : (rows : List WalkRow) (device : ℕ) (row : WalkRow) → RowsInvariant rows → row_of rows device ≡ Some row → RowInvariant row.device row.bytes row.under_way
sound_row [] device row invariants at = cc
sound_row (first ∷ others) device row invariants at = elim (eqb_tells first.device device) [
  | inl e ↦ let same : Some first ≡ Some row = rw e.0 at at in let is : first ≡ row = cc in subst (λ (r : WalkRow). RowInvariant r.device r.bytes r.under_way) is invariants.0
  | inr ne ↦ sound_row others device row invariants.1 (rw ne.0 at at)
]

-- a sound row may replace another
sound_with_row : (rows : List WalkRow) (own : WalkRow) → RowsInvariant rows → RowInvariant own.device own.bytes own.under_way → RowsInvariant (with_row rows own)
sound_with_row [] own invariants is = tt
sound_with_row (first ∷ others) own invariants is = elim (eqb_tells first.device own.device) [
  | inl e ↦ rw e.0 (is, invariants.1)
  | inr ne ↦ rw ne.0 (invariants.0, sound_with_row others own invariants.1 is)
]

sound_append : (rows : List WalkRow) (own : WalkRow) → RowsInvariant rows → RowInvariant own.device own.bytes own.under_way → RowsInvariant (rows ++ own ∷ [])
sound_append [] own invariants is = (is, tt)
sound_append (first ∷ others) own invariants is = (invariants.0, sound_append others own invariants.1 is)

-- a device without a row has none where another's is replaced, or its own isn't there
none_with_row : (rows : List WalkRow) (own : WalkRow) (device : ℕ) → row_of rows device ≡ None → row_of (with_row rows own) device ≡ None
none_with_row [] own device at = refl
none_with_row (first ∷ others) own device at = elim (eqb_tells first.device device) [
  | inl e ↦ let no : ◌≡◌ {A = Option WalkRow} (Some first) None = rw e.0 at at in cc
  | inr apart ↦ let rest : row_of others device ≡ None = rw apart.0 at at in elim (eqb_tells first.device own.device) [
    | inl e ↦ rw (e.0, differs own.device device (λ same. apart.1 (e.1 ∙ same))) rest
    | inr ne ↦ rw (ne.0, apart.0) (none_with_row others own device rest)
  ]
]

distinct_with_row : (rows : List WalkRow) (own : WalkRow) → AreDistinct rows → AreDistinct (with_row rows own)
distinct_with_row [] own distinct = tt
distinct_with_row (first ∷ others) own distinct = elim (eqb_tells first.device own.device) [
  | inl e ↦ rw e.0 (subst (λ d. row_of others d ≡ None) e.1 distinct.0, distinct.1)
  | inr ne ↦ rw ne.0 (none_with_row others own first.device distinct.0, distinct_with_row others own distinct.1)
]

distinct_append : (rows : List WalkRow) (own : WalkRow) → AreDistinct rows → row_of rows own.device ≡ None → AreDistinct (rows ++ own ∷ [])
distinct_append [] own distinct none = (refl, tt)
distinct_append (first ∷ others) own distinct none = elim (eqb_tells first.device own.device) [
  | inl e ↦ let no : ◌≡◌ {A = Option WalkRow} (Some first) None = rw e.0 at none in cc
  | inr ne ↦ let rest : row_of others own.device ≡ None = rw ne.0 at none in (row_of_append_other others own first.device ne.1 ∙ distinct.0, distinct_append others own distinct.1 rest)
]

-- NO DEVICE
pub sound_none : AreWalks []
sound_none = record { few = omega arith; distinct = tt; rows_are = tt }

-- ONE MORE DEVICE
pub sound_added : (rows : List WalkRow) (device : ℕ) → AreWalks rows → row_of rows device ≡ None → length rows < 16 → AreWalks (rows ++ new_row device ∷ [])
sound_added rows device invariants none few = record {
  few = omega (arith, length-append rows (new_row device ∷ []));
  distinct = distinct_append rows (new_row device) invariants.distinct none;
  rows_are = sound_append rows (new_row device) invariants.rows_are tt;
}

-- A ROW IS REPLACED by a sound one
pub sound_replaced : (rows : List WalkRow) (own : WalkRow) → AreWalks rows → RowInvariant own.device own.bytes own.under_way → AreWalks (with_row rows own)
sound_replaced rows own invariants is = record {
  few = omega (arith, length-with_row rows own, invariants.few);
  distinct = distinct_with_row rows own invariants.distinct;
  rows_are = sound_with_row rows own invariants.rows_are is;
}

-- ALL BEGIN ANEW

pub same_length : (ddtp : DirectoryPointer) (old new : List WalkRow) → AllBeginAnew ddtp old new → length new ≡ length old
same_length ddtp [] [] anew = refl
same_length ddtp [] (new ∷ news) anew = absurd anew
same_length ddtp (old ∷ olds) [] anew = absurd anew
same_length ddtp (old ∷ olds) (new ∷ news) anew = ap suc (same_length ddtp olds news anew.1)

none_anew : (ddtp : DirectoryPointer) (old new : List WalkRow) (device : ℕ) → AllBeginAnew ddtp old new → row_of old device ≡ None → row_of new device ≡ None
none_anew ddtp [] [] device anew at = refl
none_anew ddtp [] (new ∷ news) device anew at = absurd anew
none_anew ddtp (old ∷ olds) [] device anew at = absurd anew
none_anew ddtp (old ∷ olds) (new ∷ news) device anew at = elim (eqb_tells old.device device) [
  | inl e ↦ let no : ◌≡◌ {A = Option WalkRow} (Some old) None = rw e.0 at at in cc
  | inr ne ↦ rw (differs new.device device (λ same. ne.1 (sym anew.0.device ∙ same))) (none_anew ddtp olds news device anew.1 (rw ne.0 at at))
]

distinct_anew : (ddtp : DirectoryPointer) (old new : List WalkRow) → AllBeginAnew ddtp old new → AreDistinct old → AreDistinct new
distinct_anew ddtp [] [] anew distinct = tt
distinct_anew ddtp [] (new ∷ news) anew distinct = absurd anew
distinct_anew ddtp (old ∷ olds) [] anew distinct = absurd anew
distinct_anew ddtp (old ∷ olds) (new ∷ news) anew distinct =
    (none_anew ddtp olds news new.device anew.1 (subst (λ d. row_of olds d ≡ None) (sym anew.0.device) distinct.0), distinct_anew ddtp olds news anew.1 distinct.1)

one_anew : (ddtp : DirectoryPointer) (device : ℕ) (bytes : List ℕ) (old new : UnderWay) → OneBeginsAnew ddtp old new → UnderWayInvariant device bytes old → UnderWayInvariant device bytes new
one_anew ddtp device bytes old new anew is = record {
  own = rw anew.request is.own;
  of_request = anew.of_request;
  served = anew_names_no_frame ddtp old.request new.serving anew.begun;
  within = rw (anew.request, anew.len) is.within;
  carries = rw (anew.request, anew.len) is.carries;
}

what_anew : (ddtp : DirectoryPointer) (device : ℕ) (bytes : List ℕ) (old new : Option UnderWay) → WhatBeginsAnew ddtp old new → RowInvariant device bytes old → RowInvariant device bytes new
what_anew ddtp device bytes None None anew is = tt
what_anew ddtp device bytes None (Some new) anew is = absurd anew
what_anew ddtp device bytes (Some old) None anew is = absurd anew
what_anew ddtp device bytes (Some old) (Some new) anew is = one_anew ddtp device bytes old new anew is

rows_anew : (ddtp : DirectoryPointer) (old new : List WalkRow) → AllBeginAnew ddtp old new → RowsInvariant old → RowsInvariant new
rows_anew ddtp [] [] anew invariants = tt
rows_anew ddtp [] (new ∷ news) anew invariants = absurd anew
rows_anew ddtp (old ∷ olds) [] anew invariants = absurd anew
rows_anew ddtp (old ∷ olds) (new ∷ news) anew invariants =
    let of_old : RowInvariant old.device old.bytes new.under_way = what_anew ddtp old.device old.bytes old.under_way new.under_way anew.0.under_way invariants.0 in
    (rw (anew.0.device, anew.0.bytes) of_old, rows_anew ddtp olds news anew.1 invariants.1)

pub sound_anew : (ddtp : DirectoryPointer) (old new : List WalkRow) → AllBeginAnew ddtp old new → AreWalks old → AreWalks new
sound_anew ddtp old new anew invariants = record {
  few = omega (arith, same_length ddtp old new anew, invariants.few);
  distinct = distinct_anew ddtp old new anew invariants.distinct;
  rows_are = rows_anew ddtp old new anew invariants.rows_are;
}
