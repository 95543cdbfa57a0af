-- The list between head and tail, under what is done to memory and registers.
use Rattle.std.proofs.Common.{suc, zero, ◌≡◌, ◌≢◌, ◌+◌, ◌-◌, ◌*◌, ◌/◌, ◌%◌, ◌<◌, ◌≤◌, ◌==◌, ◌++◌, ◌∙◌, inl, inr, ℕ, true, false, List, [], ◌∷◌, length, slice_get, refl, sym, ap, arith}
use Rattle.std.proofs.lemmas.Bool.{eq-eqb, ne_eqb}
use Rattle.std.proofs.lemmas.Bool.Decides.{eqb_tells, leb_tells}
use Rattle.std.proofs.Math.Nat.{mod-eq_of_lt, mod-lt}
use Rattle.iom_registers.proofs.Sizes.{some}
use Rattle.iom_registers.specs.Fields.{entry_count}
use Rattle.iom_registers.specs.Queues.{fault_base, fault_entries, fault_head, fault_tail, next_index, with_record_written}
use Rattle.iom_registers.specs.Table.{written}
use Rattle.iom_registers.specs.declared.registers.Registers.{Registers}
use Rattle.iom_registers.specs.declared.register.Register.TheVariants.{Fqh}
use Rattle.iom_fault_queue.specs.declared.entry.Entry.TheVariants as entry
use Rattle.iom_fault_queue.specs.Fields.{Fields}
use Rattle.iom_fault_queue.specs.Ring.{record_at, records_from, records_in, record_place, waiting, StoresRecord, is_full}
use Rattle.iom_fault_queue.proofs.Entries.{of_same_frame, stored_here, stored_elsewhere}

-- a queue has places, and an index that is taken modulo their number is one of them
pub some_entries : (r : Registers) → 2 ≤ fault_entries r
unfolding entry_count
some_entries r = some r.fqb.log2sz_less_1

pub below : (n : ℕ) (r : Registers) → n % fault_entries r < fault_entries r
below n r = mod-lt n (omega (arith, some_entries r))

next_below : (s i : ℕ) → i < s → next_index s i < s
next_below s i lt = elim (eqb_tells (i + 1) s) [ inl e ↦ rw e.0 (omega (arith, lt)) | inr e ↦ let ne = e.1 in rw e.0 (omega arith) ]

next_last : (s i : ℕ) → i + 1 ≡ s → next_index s i ≡ 0
next_last s i e = elim (eqb_tells (i + 1) s) [ inl h ↦ rw h.0 refl | inr h ↦ absurd (h.1 e) ]

next_inner : (s i : ℕ) → i + 1 < s → next_index s i ≡ i + 1
next_inner s i lt = elim (eqb_tells (i + 1) s) [ inl h ↦ let e = h.1 in absurd (omega arith) | inr h ↦ rw h.0 refl ]

waiting_le : (s i t : ℕ) → i ≤ t → waiting s i t ≡ t - i
waiting_le s i t le = elim (leb_tells i t) [ inl h ↦ rw h.0 refl | inr h ↦ let lt = h.1 in absurd (omega arith) ]

waiting_gt : (s i t : ℕ) → t < i → waiting s i t ≡ t + s - i
waiting_gt s i t gt = elim (leb_tells i t) [ inl h ↦ let le = h.1 in absurd (omega arith) | inr h ↦ rw h.0 refl ]

-- from the next index on one less waits
waiting_next : (s i t n : ℕ) → i < s → t < s → suc n ≡ waiting s i t → n ≡ waiting s (next_index s i) t
waiting_next s i t n li lt e =
    elim (leb_tells i t) [
      | inl h ↦
          let le = h.1 in let w : suc n ≡ t - i = e ∙ waiting_le s i t le in
          rw (next_inner s i (omega arith), waiting_le s (i + 1) t (omega arith)) (omega arith)
      | inr h ↦
          let gt = h.1 in let w : suc n ≡ t + s - i = e ∙ waiting_gt s i t gt in
          elim (eqb_tells (i + 1) s) [
            | inl f ↦ let last = f.1 in rw (next_last s i last, waiting_le s 0 t (omega arith)) (omega arith)
            | inr f ↦ let ne = f.1 in rw (next_inner s i (omega arith), waiting_gt s (i + 1) t (omega arith)) (omega arith)
          ]
    ]

waiting_none : (s i t : ℕ) → i < s → t < s → 0 ≡ waiting s i t → i ≡ t
waiting_none s i t li lt e =
    elim (leb_tells i t) [
      | inl h ↦ let le = h.1 in let w : 0 ≡ t - i = e ∙ waiting_le s i t le in omega arith
      | inr h ↦ let gt = h.1 in let w : 0 ≡ t + s - i = e ∙ waiting_gt s i t gt in absurd (omega arith)
    ]

waiting_apart : (s i t n : ℕ) → suc n ≡ waiting s i t → i ≢ t
waiting_apart s i t n e same = let w : suc n ≡ t - i = e ∙ waiting_le s i t (omega (arith, same)) in absurd (omega (arith, same))

-- a tail whose next index isn't the head has room: up to the next tail one more waits
waiting_more : (s i t : ℕ) → i < s → t < s → next_index s t ≢ i → waiting s i (next_index s t) ≡ suc (waiting s i t)
waiting_more s i t li lt room =
    elim (leb_tells i t) [
      | inl h ↦
          let le = h.1 in let w = waiting_le s i t le in
          elim (eqb_tells (t + 1) s) [
            | inl f ↦
                let last = f.1 in
                let pos : 0 < i = zero_or i (λ none. room (next_last s t last ∙ sym none)) in
                rw (next_last s t last, waiting_gt s i 0 pos, w) (omega arith)
            | inr f ↦ let ne = f.1 in rw (next_inner s t (omega arith), waiting_le s i (t + 1) (omega arith), w) (omega arith)
          ]
      | inr h ↦
          let gt = h.1 in let w = waiting_gt s i t gt in
          let is_next : next_index s t ≡ t + 1 = next_inner s t (omega arith) in
          let apart : t + 1 ≢ i = λ e. room (is_next ∙ e) in
          let inner : t + 1 < i = omega arith in
          rw (is_next, waiting_gt s i (t + 1) inner, w) (omega arith)
    ]
  where
    zero_or : (n : ℕ) → n ≢ 0 → 0 < n
    zero_or n ne = omega arith

-- two memories that are alike at all places but the tail's have the same entries before it
from_alike : (old new : List (List ℕ)) (base s t : ℕ) → t < s → ((j : ℕ) → j < s → j ≢ t → record_at new (base + 32 * j) ≡ record_at old (base + 32 * j))
    → (i n : ℕ) → i < s → n ≡ waiting s i t → records_from new base s i n ≡ records_from old base s i n
from_alike old new base s t lt alike i zero li e = refl
from_alike old new base s t lt alike i (suc n) li e =
    ap (λ c. c ∷ records_from new base s (next_index s i) n) (alike i li (waiting_apart s i t n e))
    ∙ ap (λ cs. record_at old (base + 32 * i) ∷ cs) (from_alike old new base s t lt alike (next_index s i) n (next_below s i li) (waiting_next s i t n li lt e))

-- one more entry is the one at the tail
from_more : (m : List (List ℕ)) (base s t : ℕ) → t < s → (i n : ℕ) → i < s → n ≡ waiting s i t
    → records_from m base s i (suc n) ≡ records_from m base s i n ++ record_at m (base + 32 * t) ∷ []
from_more m base s t lt i zero li e = ap (λ j. record_at m (base + 32 * j) ∷ []) (waiting_none s i t li lt e)
from_more m base s t lt i (suc n) li e =
    ap (λ cs. record_at m (base + 32 * i) ∷ cs) (from_more m base s t lt (next_index s i) n (next_below s i li) (waiting_next s i t n li lt e))

from_first : (m : List (List ℕ)) (base s i t n : ℕ) → i < s → t < s → n ≡ waiting s i t → i ≢ t
    → records_from m base s i n ≡ record_at m (base + 32 * i) ∷ records_from m base s (next_index s i) (waiting s (next_index s i) t)
from_first m base s i t zero li lt e ne = absurd (ne (waiting_none s i t li lt e))
from_first m base s i t (suc n) li lt e ne = ap (λ k. record_at m (base + 32 * i) ∷ records_from m base s (next_index s i) k) (waiting_next s i t n li lt e)

aligned : (r : Registers) (j : ℕ) → record_place r j % 32 ≡ 0
aligned r j = omega arith

-- the list where head and tail, base and size are these
list_at : (m : List (List ℕ)) (r s : Registers) (h t : ℕ) → s.fqb ≡ r.fqb → fault_head s ≡ h → fault_tail s ≡ t
    → records_in m s ≡ records_from m (fault_base r) (fault_entries r) h (waiting (fault_entries r) h t)
unfolding records_in
list_at m r s h t base head tail = rw (head, tail, base) refl

pub differ : (a b : ℕ) → (a == b) ≡ false → a ≢ b
differ a b test same = elim (eqb_tells a b) [ inl h ↦ let bad : true ≡ false = sym h.0 ∙ test in cc | inr h ↦ h.1 same ]

elsewhere : (old new : List (List ℕ)) (r : Registers) (t : ℕ) (f : Fields) → StoresRecord old (record_place r t) f new
    → (j : ℕ) → j < fault_entries r → j ≢ t → record_at new (record_place r j) ≡ record_at old (record_place r j)
elsewhere old new r t f stores j lt ne =
    stored_elsewhere old new (record_place r t) (record_place r j) f (aligned r t) (aligned r j) (λ e. ne (omega (arith, e))) stores

-- PUT: a record that is stored at the tail, and the tail moved on
pub appends : (old new : List (List ℕ)) (r : Registers) (f : Fields) → is_full r ≡ false → StoresRecord old (record_place r (fault_tail r)) f new
    → records_in new (with_record_written r) ≡ records_in old r ++ entry.Record f ∷ []
appends old new r f room stores =
    let s = fault_entries r in let h = fault_head r in let t = fault_tail r in
    let lh : h < s = below r.fqh r in
    let lt : t < s = below r.fqt r in
    let small : next_index s t < s = next_below s t lt in
    let ne : next_index s t ≢ h = differ (next_index s t) h room in
    let at : next_index s t % s ≡ next_index s t = mod-eq_of_lt small in
    list_at new r (with_record_written r) h (next_index s t) refl refl at
    ∙ ap (λ n. records_from new (fault_base r) s h n) (waiting_more s h t lh lt ne)
    ∙ from_more new (fault_base r) s t lt h (waiting s h t) lh refl
    ∙ ap (λ x. records_from new (fault_base r) s h (waiting s h t) ++ x ∷ []) (stored_here old new (record_place r t) f (aligned r t) stores)
    ∙ ap (λ cs. cs ++ entry.Record f ∷ [])
    (from_alike old new (fault_base r) s t lt (elsewhere old new r t f stores) h (waiting s h t) lh refl ∙ sym (list_at old r r h t refl refl refl))

-- BESIDE: two memories that are alike at all places of the ring, and registers with the same ring, head and tail
pub unchanged : (old new : List (List ℕ)) (r s : Registers) → s.fqb ≡ r.fqb → fault_head s ≡ fault_head r → fault_tail s ≡ fault_tail r
    → ((j : ℕ) → j < fault_entries r → slice_get new (record_place r j / 4096) ≡ slice_get old (record_place r j / 4096))
    → records_in new s ≡ records_in old r
unchanged old new r s base head tail same =
    list_at new r s (fault_head r) (fault_tail r) base head tail
    ∙ from_alike old new (fault_base r) (fault_entries r) (fault_tail r) (below r.fqt r) (λ j lt n. of_same_frame old new (record_place r j) (same j lt))
    (fault_head r) (waiting (fault_entries r) (fault_head r) (fault_tail r)) (below r.fqh r) refl
    ∙ sym (list_at old r r (fault_head r) (fault_tail r) refl refl refl)

-- TAKE: the head moved on
pub drops : (m : List (List ℕ)) (r : Registers) → fault_head r ≢ fault_tail r
    → records_in m r ≡ record_at m (record_place r (fault_head r)) ∷ records_in m (written r Fqh (next_index (fault_entries r) (fault_head r)))
drops m r ne =
    let s = fault_entries r in let h = fault_head r in let t = fault_tail r in
    let lh : h < s = below r.fqh r in
    let lt : t < s = below r.fqt r in
    let small : next_index s h < s = next_below s h lh in
    let at : next_index s h % s % s ≡ next_index s h = ap (λ v. v % s) (mod-eq_of_lt small) ∙ mod-eq_of_lt small in
    list_at m r r h t refl refl refl
    ∙ from_first m (fault_base r) s h t (waiting s h t) lh lt refl ne
    ∙ ap (λ cs. record_at m (record_place r h) ∷ cs) (sym (list_at m r (written r Fqh (next_index s h)) (next_index s h) t refl at refl))

-- EMPTY: head and tail meet
pub empty : (m : List (List ℕ)) (r : Registers) → fault_head r ≡ fault_tail r → records_in m r ≡ []
empty m r e =
    let none : waiting (fault_entries r) (fault_head r) (fault_tail r) ≡ 0 = waiting_le (fault_entries r) (fault_head r) (fault_tail r) (omega (arith, e)) ∙ omega (arith, e) in
    list_at m r r (fault_head r) (fault_tail r) refl refl refl ∙ ap (records_from m (fault_base r) (fault_entries r) (fault_head r)) none

-- registers with the same queue show the same list
pub same_queue : (m : List (List ℕ)) (r s : Registers) → s.fqb ≡ r.fqb → fault_head s ≡ fault_head r → fault_tail s ≡ fault_tail r → records_in m s ≡ records_in m r
same_queue m r s base head tail = unchanged m m r s base head tail (λ j lt. refl)

length-records_from : (m : List (List ℕ)) (base s i n : ℕ) → length (records_from m base s i n) ≡ n
length-records_from m base s i zero = refl
length-records_from m base s i (suc n) = ap suc (length-records_from m base s (next_index s i) n)

-- the next of the tail is the head exactly where all places but one are taken
full_count : (s h t : ℕ) → h < s → t < s → (next_index s t == h) ≡ (waiting s h t + 1 == s)
full_count s h t lh lt =
    elim (eqb_tells (next_index s t) h) [
      | inl e ↦ e.0 ∙ sym (eq-eqb (waiting s h t + 1) s (counts e.1))
      | inr n ↦ n.0 ∙ sym (ne_eqb (waiting s h t + 1) s (λ all. n.1 (meets all)))
    ]
  where
    counts : next_index s t ≡ h → waiting s h t + 1 ≡ s
    counts e =
        elim (eqb_tells (t + 1) s) [
          | inl f ↦
              let last = f.1 in let none : h ≡ 0 = sym e ∙ next_last s t last in
              omega (arith, waiting_le s h t (omega arith))
          | inr f ↦
              let ne = f.1 in let more : t + 1 ≡ h = sym (next_inner s t (omega arith)) ∙ e in
              omega (arith, waiting_gt s h t (omega arith))
        ]

    meets : waiting s h t + 1 ≡ s → next_index s t ≡ h
    meets all =
        elim (leb_tells h t) [
          | inl f ↦ let le = f.1 in let w = waiting_le s h t le in let none : h ≡ 0 = omega arith in next_last s t (omega arith) ∙ sym none
          | inr f ↦ let gt = f.1 in let w = waiting_gt s h t gt in let more : t + 1 ≡ h = omega arith in next_inner s t (omega arith) ∙ more
        ]

-- FULL: one entry less than there are places
pub full_is : (m : List (List ℕ)) (r : Registers) → is_full r ≡ (length (records_in m r) + 1 == fault_entries r)
full_is m r =
    full_count (fault_entries r) (fault_head r) (fault_tail r) (below r.fqh r) (below r.fqt r)
    ∙ ap (λ n. n + 1 == fault_entries r)
    (sym (ap length (list_at m r r (fault_head r) (fault_tail r) refl refl refl)
    ∙ length-records_from m (fault_base r) (fault_entries r) (fault_head r) (waiting (fault_entries r) (fault_head r) (fault_tail r))))
