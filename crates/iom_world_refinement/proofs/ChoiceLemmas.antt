-- Where so many different frames are free, so many can be taken, each the highest below the one before.
use Rattle.std.proofs.Common.{◌≡◌, ◌≢◌, ◌<◌, ◌≤◌, ◌⊎◌, inl, inr, ◌∙◌, ℕ, zero, suc, false, List, [], ◌∷◌, length, All, nat_eq, Option, refl, sym, ap, arith}
use Rattle.std.specs.List.{AllByRecursion, IsDistinct}
use Rattle.std.proofs.lemmas.Bool.{false≢true, eq-eqb}
use Rattle.std.proofs.lemmas.Bool.Decides.{leb_tells}
use Rattle.iom_base.specs.declared.owner.Owner.{Owner}
use Rattle.iom_driver.proofs.Lists.{differs}
use Rattle.iom_driver.proofs.Owners.{all_head, all_tail}
use Rattle.iom_ledger.specs.declared.ledger.Ledger.{Ledger}
use Rattle.iom_table_frames.specs.Owners.{IsFreeForTable, HasFree}

-- of two different numbers one is the larger
pub apart : (a b : ℕ) → a ≢ b → (a < b) ⊎ (b < a)
apart zero zero differ = absurd (differ refl)
apart zero (suc b) differ = inl (omega arith)
apart (suc a) zero differ = inr (omega arith)
apart (suc a) (suc b) differ = elim (apart a b (λ same. differ (ap suc same))) [ inl below ↦ inl (omega arith) | inr over ↦ inr (omega arith) ]

-- what holds of each of the one list holds of each of the other
abbrev Passes : List ℕ → List ℕ → Type 1
Passes all some = (P : ℕ → Type 0) → AllByRecursion P all → AllByRecursion P some

map_all : (P Q : ℕ → Type 0) (xs : List ℕ) → ((x : ℕ) → P x → Q x) → AllByRecursion P xs → AllByRecursion Q xs
map_all P Q [] change all = tt
map_all P Q (x ∷ xs) change all = (change x all.0, map_all P Q xs change all.1)

below_differs : (m : ℕ) (xs : List ℕ) → AllByRecursion (λ r. r < m) xs → AllByRecursion (λ r. nat_eq m r ≡ false) xs
below_differs m [] all = tt
below_differs m (x ∷ xs) all = (differs m x (λ same. absurd (omega (arith, all.0, same))), below_differs m xs all.1)

-- the largest of different numbers, and the others
record LargestOf (x : ℕ) (xs : List ℕ) : Type 1 where
  largest : ℕ
  rest : List ℕ
  as_many : length rest ≡ length xs
  distinct : IsDistinct nat_eq rest
  one : (P : ℕ → Type 0) → AllByRecursion P (x ∷ xs) → P largest
  others : Passes (x ∷ xs) rest
  below : AllByRecursion (λ r. r < largest) rest

largest_of : (x : ℕ) (xs : List ℕ) → IsDistinct nat_eq (x ∷ xs) → LargestOf x xs
unfolding IsDistinct
largest_of x [] distinct = record { largest = x; rest = []; as_many = refl; distinct = tt; one = λ P all. all.0; others = λ P all. tt; below = tt }
largest_of x (y ∷ ys) distinct =
    let tail = largest_of y ys distinct.1 in
    let differ : x ≢ tail.largest = λ same. false≢true (sym (tail.one (λ r. nat_eq x r ≡ false) distinct.0) ∙ eq-eqb x tail.largest same) in
    elim (apart x tail.largest differ) [
      | inl under ↦ record {
        largest = tail.largest;
        rest = x ∷ tail.rest;
        as_many = ap suc tail.as_many;
        distinct = (tail.others (λ r. nat_eq x r ≡ false) distinct.0, tail.distinct);
        one = λ P all. tail.one P all.1;
        others = λ P all. (all.0, tail.others P all.1);
        below = (under, tail.below);
      }
      | inr over ↦ record {
        largest = x;
        rest = tail.largest ∷ tail.rest;
        as_many = ap suc tail.as_many;
        distinct = (below_differs tail.largest tail.rest tail.below, tail.distinct);
        one = λ P all. all.0;
        others = λ P all. (tail.one P all.1, tail.others P all.1);
        below = (over, map_all (λ r. r < tail.largest) (λ r. r < x) tail.rest (λ r lt. omega (arith, lt, over)) tail.below);
      }
    ]

both : (P Q : ℕ → Type 0) (xs : List ℕ) → AllByRecursion P xs → AllByRecursion Q xs → AllByRecursion (λ x. P x × Q x) xs
both P Q [] one other = tt
both P Q (x ∷ xs) one other = ((one.0, other.0), both P Q xs one.1 other.1)

module _ (owners : List (Option Owner)) (ledger : Ledger) (named : Option ℕ) where
  has_free : (count limit : ℕ) (numbers : List ℕ) → IsDistinct nat_eq numbers → count ≤ length numbers
      → AllByRecursion (λ n. (n < limit) × IsFreeForTable owners ledger named n) numbers → HasFree owners ledger named count limit
  has_free zero limit numbers distinct many free = tt
  has_free (suc count) limit [] distinct many free = absurd (omega (arith, many))
  has_free (suc count) limit (x ∷ xs) distinct many free =
      let top = largest_of x xs distinct in
      let here = top.one (λ n. (n < limit) × IsFreeForTable owners ledger named n) free in
      let rest = top.others (λ n. (n < limit) × IsFreeForTable owners ledger named n) free in
      let long = top.as_many in (
        top.largest,
        here.0,
        here.1,
        has_free count top.largest top.rest top.distinct (omega (arith, many, long))
            (map_all (λ n. (n < top.largest) × ((n < limit) × IsFreeForTable owners ledger named n)) (λ n. (n < top.largest) × IsFreeForTable owners ledger named n) top.rest (λ n it. (it.0, it.1.1))
            (both (λ n. n < top.largest) (λ n. (n < limit) × IsFreeForTable owners ledger named n) top.rest top.below rest)),
      )

  all_by : (P : ℕ → Type 0) (numbers : List ℕ) → All P numbers → AllByRecursion P numbers
  all_by P [] all = tt
  all_by P (x ∷ xs) all = (all_head P x xs all, all_by P xs (all_tail P x xs all))

  -- where not so many are free, fewer different ones are
  pub fewer_free : (count limit : ℕ) (numbers : List ℕ) → ¬ HasFree owners ledger named count limit → IsDistinct nat_eq numbers
      → All (λ n. (n < limit) × IsFreeForTable owners ledger named n) numbers → length numbers < count
  fewer_free count limit numbers lacks distinct free = elim (leb_tells count (length numbers)) [ inl many ↦ by (inl many.1) | inr few ↦ by (inr few.1) ]
    where
      by : (count ≤ length numbers) ⊎ (length numbers < count) → length numbers < count
      by (inl many) = absurd (lacks (has_free count limit numbers distinct many (all_by (λ n. (n < limit) × IsFreeForTable owners ledger named n) numbers free)))
      by (inr few) = few
