-- The entries of a cache when some go out and when one is kept: what is true of each stays true of each, at most 32 stay, and no page gets two.
use Rattle.std.proofs.Common.{◌≡◌, ◌≢◌, ◌≤◌, ◌<◌, ◌∙◌, ℕ, zero, suc, Bool, true, false, not, nat_eq, nat_lt, List, [], ◌∷◌, Some, None, refl, sym, ap, length, get_or, drop, length-append, length-drop, arith, if◌then◌else◌}
use Rattle.std.specs.List.{All, position, position_or_len, remove}
use Rattle.std.proofs.lemmas.List.Elements.{All-drop, All-filter, All-push, All-head, All-tail, filter_passes}
use Rattle.std.proofs.lemmas.List.Filters.{length-filter_both}
use Rattle.std.proofs.lemmas.List.Kept.{AllPairs-filter}
use Rattle.std.proofs.lemmas.List.Quantifiers.{all_pairs_push, all_pairs_remove, position-Some}
use Rattle.std.proofs.lemmas.List.Sums.{fails_before_first}
use Rattle.std.proofs.lemmas.Bool.{eq-eqb, eqb-true}
use Rattle.std.proofs.lemmas.Grind.{common_steps}
use Rattle.iom_fabric.specs.declared.message.Range.{Range}
use Rattle.iom_fabric.specs.declared.message.Range.TheVariants as range
use Rattle.iom_ats_cache.specs.declared.entry.Entry.{Entry}
use Rattle.iom_ats_cache.specs.Cache.{range_covers, outside, with_room, with_entry, entry_for_page, AreOfDistinctPages, AreEntries}

not_true : (b : Bool) → not b ≡ true → b ≡ false
not_true true e = absurd cc
not_true false e = refl

-- what is left outside of a range was there, and isn't covered
pub all_outside : (P : Entry → Type 0) (dropped : Range) (entries : List Entry) → All P entries
    → All (λ entry. (range_covers dropped entry.page ≡ false) × P entry) (outside dropped entries)
all_outside P dropped entries all k d below = (
  not_true _ (filter_passes (λ entry. not (range_covers dropped entry.page)) entries k d below),
  All-filter (λ entry. not (range_covers dropped entry.page)) P entries all k d below,
)

all_with_room : (P : Entry → Type 0) (entries : List Entry) → All P entries → All P (with_room entries)
all_with_room P entries all =
    elim (nat_lt (length entries) 32) as (λ b. All P (if b then entries else drop 1 entries)) [
      | true ↦ all
      | false ↦ All-drop P 1 entries all
    ]

another_page : (page other : ℕ) → nat_eq page other ≡ false → page ≢ other
another_page page other unequal same = absurd (let e : nat_eq page other ≡ true = eq-eqb page other same in cc)

-- when one is kept, what it is true of, and true of each of another page that was there, is true of each
pub all_with_entry : (P Q : Entry → Type 0) (entries : List Entry) (entry : Entry) → ((other : Entry) → entry.page ≢ other.page → P other → Q other) → Q entry
    → All P entries → All Q (with_entry entries entry)
all_with_entry P Q entries entry others own all =
    let left : List Entry = outside (range.Page entry.page) entries in
    All-push Q (with_room left) entry
    (all_with_room Q left (λ k d below.
    let was = all_outside P (range.Page entry.page) entries all k d below in
    others _ (another_page entry.page _ was.0) was.1))
    own

abbrev AreTwo : Entry → Entry → Type 0
AreTwo entry later = entry.page ≢ later.page

pub distinct_outside : (dropped : Range) (entries : List Entry) → AreOfDistinctPages entries → AreOfDistinctPages (outside dropped entries)
distinct_outside dropped entries distinct = AllPairs-filter AreTwo (λ entry. not (range_covers dropped entry.page)) entries distinct

distinct_without_first : (entries : List Entry) → AreOfDistinctPages entries → AreOfDistinctPages (drop 1 entries)
distinct_without_first [] distinct = distinct
distinct_without_first (entry ∷ entries) distinct = all_pairs_remove AreTwo (entry ∷ entries) 0 (omega arith) distinct

distinct_with_room : (entries : List Entry) → AreOfDistinctPages entries → AreOfDistinctPages (with_room entries)
distinct_with_room entries distinct =
    elim (nat_lt (length entries) 32) as (λ b. AreOfDistinctPages (if b then entries else drop 1 entries)) [
      | true ↦ distinct
      | false ↦ distinct_without_first entries distinct
    ]

pub distinct_with_entry : (entries : List Entry) (entry : Entry) → AreOfDistinctPages entries → AreOfDistinctPages (with_entry entries entry)
distinct_with_entry entries entry distinct =
    let left : List Entry = outside (range.Page entry.page) entries in
    all_pairs_push AreTwo (with_room left) entry
    (distinct_with_room left (distinct_outside (range.Page entry.page) entries distinct))
    (all_with_room (λ other. other.page ≢ entry.page) left (λ k d below same.
    another_page entry.page _ (all_outside (λ other. Unit {0}) (range.Page entry.page) entries (λ j o low. tt) k d below).0 (sym same)))

-- where no entry is of the page, nothing goes out with it
none_goes_out : (page : ℕ) (entries : List Entry) → All (λ entry. nat_eq page entry.page ≡ false) entries → outside (range.Page page) entries ≡ entries
none_goes_out page [] others = refl
none_goes_out page (entry ∷ entries) others =
    let other : nat_eq page entry.page ≡ false = All-head (λ e. nat_eq page e.page ≡ false) entry entries others in
    rw other (ap (λ rest. entry ∷ rest) (none_goes_out page entries (All-tail (λ e. nat_eq page e.page ≡ false) entry entries others)))

-- numbers that differ are told apart
apart : (m n : ℕ) → (m ≡ n → ⊥) → nat_eq m n ≡ false
apart m n differ = by (nat_eq m n) refl
  where
    by : (b : Bool) → nat_eq m n ≡ b → b ≡ false
    by true same = absurd (differ (eqb-true m n same))
    by false other = refl

-- where two entries aren't of one page, at most one is of this page
of_another : (page : ℕ) (one other : Entry) → nat_eq page one.page ≡ true → one.page ≢ other.page → nat_eq page other.page ≡ false
of_another page one other own two = by (nat_eq page other.page) refl
  where
    by : (b : Bool) → nat_eq page other.page ≡ b → b ≡ false
    by true same = absurd (two (sym (eqb-true page one.page own) ∙ eqb-true page other.page same))
    by false apart = refl

-- where no page has two entries, and one of the page stands at this place, it goes out alone
one_goes_out : (page : ℕ) (entries : List Entry) (place : ℕ) (d : Entry) → AreOfDistinctPages entries → place < length entries
    → nat_eq page (get_or entries place d).page ≡ true → outside (range.Page page) entries ≡ remove entries place
one_goes_out page [] place d distinct inside own = absurd (omega arith)
one_goes_out page (entry ∷ entries) zero d distinct inside own =
    rw own (none_goes_out page entries (λ k e below. of_another page entry (get_or entries k e) own (distinct 0 (suc k) e (omega arith) (omega arith))))
one_goes_out page (entry ∷ entries) (suc place) d distinct inside own =
    let two : (get_or entries place d).page ≢ entry.page = λ same. distinct 0 (suc place) d (omega arith) inside (sym same) in
    let other : nat_eq page entry.page ≡ false = of_another page (get_or entries place d) entry own two in
    let rest : AreOfDistinctPages entries = λ i j e before below. distinct (suc i) (suc j) e (omega arith) (omega arith) in
    rw other (ap (λ left. entry ∷ left) (one_goes_out page entries place d rest (omega arith) own))

-- whether an entry is of the page
abbrev pub IsOf : ℕ → Entry → Bool
IsOf page entry = range_covers (range.Page page) entry.page

-- where no place is found, nothing goes out
pub outside_without_place : (page : ℕ) (entries : List Entry) → position (IsOf page) entries ≡ None → outside (range.Page page) entries ≡ entries
outside_without_place page entries none =
    let behind : length entries ≤ position_or_len (IsOf page) entries = grind (arith, common_steps) in
    none_goes_out page entries (λ k d below. fails_before_first (IsOf page) entries k d (omega arith))

-- where a place is found, the entry there goes out alone
pub outside_at_place : (page : ℕ) (entries : List Entry) (place : ℕ) (d : Entry) → AreOfDistinctPages entries → position (IsOf page) entries ≡ Some place
    → outside (range.Page page) entries ≡ remove entries place
outside_at_place page entries place d distinct found =
    let at = position-Some (IsOf page) entries place d found in
    one_goes_out page entries place d distinct at.0 at.1

-- nothing is outside of everything
pub outside_everything : (entries : List Entry) → outside range.Everything entries ≡ []
outside_everything [] = refl
outside_everything (entry ∷ entries) = outside_everything entries

few_with_room : (entries : List Entry) → length entries ≤ 32 → length (with_room entries) ≤ 31
few_with_room entries few = by (nat_lt (length entries) 32) refl
  where
    by : (b : Bool) → nat_lt (length entries) 32 ≡ b → length (if b then entries else drop 1 entries) ≤ 31
    by true room = grind (arith, room)
    by false full = grind (arith, length-drop, few)

pub entries_outside : (dropped : Range) (entries : List Entry) → AreEntries entries → AreEntries (outside dropped entries)
entries_outside dropped entries are = record {
  few =
      let both = length-filter_both (λ entry. not (range_covers dropped entry.page)) (λ entry. not (not (range_covers dropped entry.page))) (λ entry. refl) entries in
      omega (arith, both, are.few);
  distinct = distinct_outside dropped entries are.distinct;
}

pub entries_with_entry : (entries : List Entry) (entry : Entry) → AreEntries entries → AreEntries (with_entry entries entry)
entries_with_entry entries entry are =
    let left : List Entry = outside (range.Page entry.page) entries in
    let room = few_with_room left (entries_outside (range.Page entry.page) entries are).few in
    let push = length-append (with_room left) (entry ∷ []) in
    record { few = omega (arith, room, push); distinct = distinct_with_entry entries entry are.distinct }

pub no_entries : AreEntries []
no_entries = record { few = omega arith; distinct = λ i j d before below. absurd (omega arith) }

-- where no entry is of the page, none is found
pub finds_none : (page : ℕ) (entries : List Entry) → ((k : ℕ) (d : Entry) → k < length entries → nat_eq (get_or entries k d).page page ≡ false) → entry_for_page entries page ≡ None
finds_none page [] others = refl
finds_none page (entry ∷ entries) others =
    let other : nat_eq entry.page page ≡ false = others 0 entry (omega arith) in
    rw other (finds_none page entries (λ k d below. others (suc k) d (omega arith)))

-- where no page has two entries, the one that is of the page is found
pub finds_one : (page : ℕ) (entries : List Entry) (place : ℕ) (d : Entry) → AreOfDistinctPages entries → place < length entries
    → nat_eq (get_or entries place d).page page ≡ true → entry_for_page entries page ≡ Some (get_or entries place d)
finds_one page [] place d distinct inside own = absurd (omega arith)
finds_one page (entry ∷ entries) zero d distinct inside own = rw own refl
finds_one page (entry ∷ entries) (suc place) d distinct inside own =
    let own_page : page ≡ (get_or entries place d).page = sym (eqb-true (get_or entries place d).page page own) in
    let other : nat_eq entry.page page ≡ false = apart entry.page page (λ same. distinct 0 (suc place) d (omega arith) inside (same ∙ own_page)) in
    let rest : AreOfDistinctPages entries = λ i j e before below. distinct (suc i) (suc j) e (omega arith) (omega arith) in
    rw other (finds_one page entries place d rest (omega arith) own)
