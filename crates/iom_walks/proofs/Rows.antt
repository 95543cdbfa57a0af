-- Looking a row up by its device, and what rows are where one is replaced or one more is there.
use Rattle.std.proofs.Common.{suc, zero, ◌≡◌, ◌≢◌, ◌==◌, ◌<◌, ◌∙◌, ◌++◌, ℕ, Bool, true, false, List, [], ◌∷◌, length, Option, Some, None, IsSome, slice_get, refl, sym, ap, inl, inr, arith, if◌then◌else◌}
use Rattle.std.proofs.lemmas.Bool.Decides.{eqb_tells}
use Rattle.std.proofs.lemmas.Bool.{eq-eqb, false≢true}
use Rattle.iom_walks.specs.Walks.{WalkRow, row_of, with_row}
use Rattle.iom_walks.specs.Rows.{RowStandsAt}

-- two different numbers don't compare equal
pub differs : (a b : ℕ) → a ≢ b → (a == b) ≡ false
differs a b ne = elim (eqb_tells a b) [ inl e ↦ absurd (ne e.1) | inr n ↦ n.0 ]

-- a device that has no row
pub absent : (rows : List WalkRow) (device : ℕ) → ((k : ℕ) (other : WalkRow) → k < length rows → slice_get rows k ≡ Some other → other.device ≢ device) → row_of rows device ≡ None
absent [] device none = refl
absent (row ∷ rows) device none =
    rw (differs row.device device (none 0 row (omega arith) refl)) (absent rows device (λ k other lt at. none (suc k) other (omega arith) at))

-- the first row of a device
pub stands_at : (rows : List WalkRow) (device place : ℕ) (row : WalkRow) → slice_get rows place ≡ Some row → row.device ≡ device
    → ((k : ℕ) (other : WalkRow) → k < place → slice_get rows k ≡ Some other → other.device ≢ device) → RowStandsAt rows device place
stands_at [] device place row at own none = cc
stands_at (first ∷ others) device zero row at own none =
    let same : first ≡ row = cc in
    let own_first : first.device ≡ device = ap (λ (r : WalkRow). r.device) same ∙ own in
    record {
      row = first;
      own = own_first;
      there = refl;
      first = rw (eq-eqb first.device device own_first) refl;
      replaced = λ other is. rw (eq-eqb first.device other.device (own_first ∙ sym is)) refl;
    }
stands_at (first ∷ others) device (suc place) row at own none =
    let ne : first.device ≢ device = none 0 first (omega arith) refl in
    let rest = stands_at others device place row at own (λ k r lt there. none (suc k) r (omega arith) there) in
    record {
      row = rest.row;
      own = rest.own;
      there = rest.there;
      first = rw (differs first.device device ne) rest.first;
      replaced = λ other is. rw (differs first.device other.device (λ e. ne (e ∙ is))) (ap (λ rs. first ∷ rs) (rest.replaced other is));
    }

-- the row of a device is the device's
pub row_is_own : (rows : List WalkRow) (device : ℕ) (row : WalkRow) → row_of rows device ≡ Some row → row.device ≡ device
row_is_own [] device row at = cc
row_is_own (first ∷ others) device row at = elim (eqb_tells first.device device) [
  | inl e ↦ let same : Some first ≡ Some row = rw e.0 at at in let is : first ≡ row = cc in ap (λ (r : WalkRow). r.device) (sym is) ∙ e.1
  | inr ne ↦ row_is_own others device row (rw ne.0 at at)
]

-- A ROW IS REPLACED: it is its device's then, and the rows of the others are as they were
pub row_of_own : (rows : List WalkRow) (own : WalkRow) → IsSome (row_of rows own.device) → row_of (with_row rows own) own.device ≡ Some own
row_of_own [] own there = absurd (false≢true there)
row_of_own (first ∷ others) own there = elim (eqb_tells first.device own.device) [
  | inl e ↦ rw (e.0, eq-eqb own.device own.device refl) refl
  | inr ne ↦ rw (ne.0, ne.0) (row_of_own others own (rw ne.0 at there))
]

pub row_of_other : (rows : List WalkRow) (own : WalkRow) (device : ℕ) → device ≢ own.device → row_of (with_row rows own) device ≡ row_of rows device
row_of_other [] own device ne = refl
row_of_other (first ∷ others) own device ne = elim (eqb_tells first.device own.device) [
  | inl e ↦ let apart : first.device ≢ device = λ same. ne (sym same ∙ e.1) in
      rw (e.0, differs own.device device (λ same. ne (sym same)), differs first.device device apart) refl
  | inr apart ↦ rw apart.0 (by (first.device == device) (row_of_other others own device ne))
]
  where
    by : (b : Bool) → row_of (with_row others own) device ≡ row_of others device
        → ◌≡◌ {A = Option WalkRow} (if b then Some first else row_of (with_row others own) device) (if b then Some first else row_of others device)
    by true rest = refl
    by false rest = rest

pub length-with_row : (rows : List WalkRow) (own : WalkRow) → length (with_row rows own) ≡ length rows
length-with_row [] own = refl
length-with_row (first ∷ others) own = elim (eqb_tells first.device own.device) [ inl e ↦ rw e.0 refl | inr ne ↦ rw ne.0 (ap suc (length-with_row others own)) ]

-- ONE MORE ROW: a row that was there stays its device's
pub row_of_append : (rows : List WalkRow) (own : WalkRow) (device : ℕ) (row : WalkRow) → row_of rows device ≡ Some row → row_of (rows ++ own ∷ []) device ≡ Some row
row_of_append [] own device row at = cc
row_of_append (first ∷ others) own device row at = elim (eqb_tells first.device device) [
  | inl e ↦ rw e.0 (rw e.0 at at)
  | inr ne ↦ rw ne.0 (row_of_append others own device row (rw ne.0 at at))
]

-- the new one is its device's, and no other's
pub row_of_new : (rows : List WalkRow) (own : WalkRow) → row_of rows own.device ≡ None → row_of (rows ++ own ∷ []) own.device ≡ Some own
row_of_new [] own at = rw (eq-eqb own.device own.device refl) refl
row_of_new (first ∷ others) own at = elim (eqb_tells first.device own.device) [
  | inl e ↦ let no : ◌≡◌ {A = Option WalkRow} (Some first) None = rw e.0 at at in cc
  | inr ne ↦ rw ne.0 (row_of_new others own (rw ne.0 at at))
]

pub row_of_append_other : (rows : List WalkRow) (own : WalkRow) (device : ℕ) → device ≢ own.device → row_of (rows ++ own ∷ []) device ≡ row_of rows device
row_of_append_other [] own device ne = rw (differs own.device device (λ same. ne (sym same))) refl
row_of_append_other (first ∷ others) own device ne = by (first.device == device) (row_of_append_other others own device ne)
  where
    by : (b : Bool) → row_of (others ++ own ∷ []) device ≡ row_of others device
        → ◌≡◌ {A = Option WalkRow} (if b then Some first else row_of (others ++ own ∷ []) device) (if b then Some first else row_of others device)
    by true rest = refl
    by false rest = rest

-- a row below the length is there
pub get_there : (rows : List WalkRow) (k : ℕ) → k < length rows → (row : WalkRow) × (slice_get rows k ≡ Some row)
get_there [] k lt = absurd (omega arith)
get_there (row ∷ rows) zero lt = (row, refl)
get_there (row ∷ rows) (suc k) lt = get_there rows k (omega arith)
