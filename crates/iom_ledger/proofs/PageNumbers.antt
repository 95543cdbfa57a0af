-- How many pages all devices have at most: a page of a device is a number of 96 bits.
use Rattle.std.proofs.Common.{◌≡◌, ◌⊎◌, inl, inr, ℕ, ◌+◌, ◌*◌, ◌^◌, ◌<◌, ◌≤◌, Bool, true, false, ◌==◌, ◌&&◌, ◌||◌, List, [], ◌∷◌, length, map, refl, sym, ◌∙◌, arith}
use Rattle.std.proofs.Math.Logic.{∥∥₁_elim}
use Rattle.std.proofs.Math.Dec.{eqb}
use Rattle.std.specs.List.{list_any, IsDistinct, AllByRecursion}
use Rattle.std.proofs.lemmas.Bool.{cases_lt, eqb-true, eq-eqb, ne_eqb, and_from, or_parts, false≢true}
use Rattle.std.proofs.lemmas.List.{length-map}
use Rattle.std.proofs.lemmas.Map.Steps.{length-le_from_distinct_below}
use Rattle.iom_ledger.specs.declared.row.Row.{Row}
use Rattle.iom_ledger.specs.Rows.{Devices, row_at}
use Rattle.iom_ledger.specs.Counts.{holds_frame, lingers_on, has_page, AreOnceEach, AreNumbered, IsCountOf, row_of_frame, AreCounted}

-- the number of a page of a device
abbrev number_of : ℕ × ℕ → ℕ
number_of p = p.0 * 2 ^ 64 + p.1

-- two pages with the same number are the same
same_device : (d a e b : ℕ) → a < 2 ^ 64 → b < 2 ^ 64 → d * 2 ^ 64 + a ≡ e * 2 ^ 64 + b → d ≡ e
same_device d a e b small few same = omega arith

-- a page that isn't among these has none of their numbers
none_of_number : (d a : ℕ) (pages : List (ℕ × ℕ)) → a < 2 ^ 64 → AreNumbered pages → has_page pages d a ≡ false
    → AllByRecursion (λ n. eqb (d * 2 ^ 64 + a) n ≡ false) (map number_of pages)
none_of_number d a [] small numbered none = tt
none_of_number d a (p ∷ pages) small numbered none =
    let parts = or_parts ((p.0 == d) && (p.1 == a)) (has_page pages d a) none in (
      ne_eqb (d * 2 ^ 64 + a) (number_of p)
          (λ same.
          let device : d ≡ p.0 = same_device d a p.0 p.1 small numbered.1 same in
          let page : a ≡ p.1 = omega (arith, same, device) in
          false≢true (sym parts.0 ∙ and_from (p.0 == d) (p.1 == a) (eq-eqb p.0 d (sym device)) (eq-eqb p.1 a (sym page)))),
      none_of_number d a pages small numbered.2 parts.1,
    )

-- so pages of which none stands there twice have numbers that differ
are_distinct : (pages : List (ℕ × ℕ)) → AreNumbered pages → AreOnceEach pages → IsDistinct eqb (map number_of pages)
unfolding IsDistinct
are_distinct [] numbered once = tt
are_distinct (p ∷ pages) numbered once = (none_of_number p.0 p.1 pages numbered.1 numbered.2 once.0, are_distinct pages numbered.2 once.1)

-- each of them below 2 ^ 96
are_below : (pages : List (ℕ × ℕ)) → AreNumbered pages → (q : ℕ) → list_any (eqb q) (map number_of pages) ≡ true → q < 2 ^ 96
are_below [] numbered q among = absurd (false≢true among)
are_below (p ∷ pages) numbered q among = by (eqb q (number_of p)) refl among (are_below pages numbered.2 q)
  where
    by : (b : Bool) → eqb q (number_of p) ≡ b → (b || list_any (eqb q) (map number_of pages)) ≡ true → (list_any (eqb q) (map number_of pages) ≡ true → q < 2 ^ 96) → q < 2 ^ 96
    by true same among rest = let is : q ≡ number_of p = eqb-true q (number_of p) same in let device = numbered.0 in let page = numbered.1 in omega arith
    by false other among rest = rest among

-- so there are no more
few_pages : (pages : List (ℕ × ℕ)) → AreNumbered pages → AreOnceEach pages → length pages ≤ 2 ^ 96
few_pages pages numbered once =
    let few = length-le_from_distinct_below (map number_of pages) (2 ^ 96) (are_distinct pages numbered once) (are_below pages numbered) in
    omega (arith, few, length-map pages number_of)

count_few : (test : ℕ → ℕ → Bool) (n : ℕ) → IsCountOf test n → n ≤ 2 ^ 96
count_few test n count = by (cases_lt (2 ^ 96) n)
  where
    by : (2 ^ 96 < n) ⊎ (n ≤ 2 ^ 96) → n ≤ 2 ^ 96
    by (inl more) =
        absurd (∥∥₁_elim count (λ x y. absurd x) (λ (pages, are, long). let few = few_pages pages are.numbered are.once in absurd (omega arith)))
    by (inr few) = few

-- and no count is higher
pub grants_fit : (devices : Devices) (rows : List Row) (frame : ℕ) → AreCounted devices rows → (row_of_frame rows frame).grants ≤ 2 ^ 96
grants_fit devices rows frame counted = count_few (λ d a. holds_frame (row_at devices d a) frame) (row_of_frame rows frame).grants (counted.grants frame)

pub pending_fits : (devices : Devices) (rows : List Row) (frame : ℕ) → AreCounted devices rows → (row_of_frame rows frame).pending ≤ 2 ^ 96
pending_fits devices rows frame counted = count_few (λ d a. lingers_on (row_at devices d a) frame) (row_of_frame rows frame).pending (counted.pending frame)
