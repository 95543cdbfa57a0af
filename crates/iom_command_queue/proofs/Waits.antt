-- The list of commands that wait, under what is done to memory and registers.
use Rattle.std.proofs.Common.{suc, zero, ◌≡◌, ◌≢◌, ◌+◌, ◌-◌, ◌*◌, ◌/◌, ◌%◌, ◌<◌, ◌≤◌, ◌++◌, ◌∙◌, inl, inr, ℕ, List, [], ◌∷◌, length, slice_get, Some, None, refl, sym, ap, arith}
use Rattle.std.specs.Prelude.{◌↔◌}
use Rattle.std.proofs.lemmas.Bool.Decides.{eqb_tells, leb_tells}
use Rattle.std.proofs.Math.Nat.{mod-eq_of_lt, mod-lt}
use Rattle.std.proofs.lemmas.Nat.{pow_pos}
use Rattle.iom_registers.specs.declared.registers.Registers.{Registers}
use Rattle.iom_registers.specs.declared.register.Register.TheVariants.{Cqt}
use Rattle.iom_registers.specs.declared.queue_base.QueueBase.{QueueBase}
use Rattle.iom_registers.specs.Fields.{entry_count}
use Rattle.iom_registers.specs.Table.{written}
use Rattle.iom_registers.specs.Queues.{command_base, command_entries, command_head, command_tail, next_index, with_command_done}
use Rattle.iom_command_queue.specs.declared.command.Command.{Command}
use Rattle.iom_command_queue.specs.declared.entry.QueueEntry.{QueueEntry}
use Rattle.iom_command_queue.specs.declared.entry.QueueEntry.TheVariants as stands
use Rattle.iom_command_queue.specs.Waiting.{entry_at, place_of, distance, how_many, entries_from, commands_in, first_entry, WritesCommand}
use Rattle.iom_command_queue.proofs.Puts.{of_same_frame}

entries_pos : (base : QueueBase) → 0 < entry_count base
unfolding entry_count
entries_pos base = pow_pos (base.log2sz_less_1 + 1)

pub head_below : (r : Registers) → command_head r < command_entries r
head_below r = mod-lt r.cqh (entries_pos r.cqb)

pub tail_below : (r : Registers) → command_tail r < command_entries r
tail_below r = mod-lt r.cqt (entries_pos r.cqb)

pub next_below : (size i : ℕ) → i < size → next_index size i < size
next_below size i lt = elim (eqb_tells (i + 1) size) [ inl e ↦ rw e.0 (omega (arith, lt)) | inr e ↦ let ne = e.1 in rw e.0 (omega arith) ]

next_last : (size i : ℕ) → i + 1 ≡ size → next_index size i ≡ 0
next_last size i e = elim (eqb_tells (i + 1) size) [ inl h ↦ rw h.0 refl | inr h ↦ absurd (h.1 e) ]

next_inner : (size i : ℕ) → i + 1 < size → next_index size i ≡ i + 1
next_inner size i lt = elim (eqb_tells (i + 1) size) [ inl h ↦ let e = h.1 in absurd (omega arith) | inr h ↦ rw h.0 refl ]

distance_up : (size i t : ℕ) → i ≤ t → distance size i t ≡ t - i
distance_up size i t le = elim (leb_tells i t) [ inl h ↦ rw h.0 refl | inr h ↦ let lt = h.1 in absurd (omega arith) ]

distance_over : (size i t : ℕ) → t < i → distance size i t ≡ t + size - i
distance_over size i t gt = elim (leb_tells i t) [ inl h ↦ let le = h.1 in absurd (omega arith) | inr h ↦ rw h.0 refl ]

-- from the next index on there is one less
distance_next : (size i t n : ℕ) → i < size → t < size → suc n ≡ distance size i t → n ≡ distance size (next_index size i) t
distance_next size i t n li lt e =
    elim (leb_tells i t) [
      | inl h ↦
          let le = h.1 in let w : suc n ≡ t - i = e ∙ distance_up size i t le in
          rw (next_inner size i (omega arith), distance_up size (i + 1) t (omega arith)) (omega arith)
      | inr h ↦
          let gt = h.1 in let w : suc n ≡ t + size - i = e ∙ distance_over size i t gt in
          elim (eqb_tells (i + 1) size) [
            | inl f ↦ let last = f.1 in rw (next_last size i last, distance_up size 0 t (omega arith)) (omega arith)
            | inr f ↦ let ne = f.1 in rw (next_inner size i (omega arith), distance_over size (i + 1) t (omega arith)) (omega arith)
          ]
    ]

pub distance_none : (size i t : ℕ) → i < size → t < size → 0 ≡ distance size i t → i ≡ t
distance_none size i t li lt e =
    elim (leb_tells i t) [
      | inl h ↦ let le = h.1 in let w : 0 ≡ t - i = e ∙ distance_up size i t le in omega arith
      | inr h ↦ let gt = h.1 in let w : 0 ≡ t + size - i = e ∙ distance_over size i t gt in absurd (omega arith)
    ]

distance_apart : (size i t n : ℕ) → suc n ≡ distance size i t → i ≢ t
distance_apart size i t n e same = let w : suc n ≡ t - i = e ∙ distance_up size i t (omega (arith, same)) in absurd (omega (arith, same))

-- up to the next tail there is one more
distance_more : (size i t : ℕ) → i < size → t < size → distance size i t + 1 < size → distance size i (next_index size t) ≡ suc (distance size i t)
distance_more size i t li lt room =
    elim (leb_tells i t) [
      | inl h ↦
          let le = h.1 in let w = distance_up size i t le in
          elim (eqb_tells (t + 1) size) [
            | inl f ↦ let last = f.1 in
                let pos : 0 < i = omega (arith, w, room) in
                rw (next_last size t last, distance_over size i 0 pos, w) (omega (arith, room, w))
            | inr f ↦ let ne = f.1 in rw (next_inner size t (omega arith), distance_up size i (t + 1) (omega arith), w) (omega arith)
          ]
      | inr h ↦
          let gt = h.1 in let w = distance_over size i t gt in
          let inner : t + 1 < i = omega (arith, w, room) in
          rw (next_inner size t (omega arith), distance_over size i (t + 1) inner, w) (omega arith)
    ]

-- the ring is full where the index after the tail is the head
pub full_next : (size i t : ℕ) → i < size → t < size → (next_index size t ≡ i) → distance size i t + 1 ≡ size
full_next size i t li lt e =
    elim (eqb_tells (t + 1) size) [
      | inl f ↦ let last = f.1 in let zero_is : 0 ≡ i = sym (next_last size t last) ∙ e in rw (distance_up size i t (omega arith)) (omega arith)
      | inr f ↦ let ne = f.1 in let one : t + 1 ≡ i = sym (next_inner size t (omega arith)) ∙ e in rw (distance_over size i t (omega arith)) (omega arith)
    ]

pub full_back : (size i t : ℕ) → i < size → t < size → distance size i t + 1 ≡ size → next_index size t ≡ i
full_back size i t li lt e =
    elim (leb_tells i t) [
      | inl h ↦ let le = h.1 in let w = distance_up size i t le in rw (next_last size t (omega (arith, w, e))) (omega (arith, w, e))
      | inr h ↦ let gt = h.1 in let w = distance_over size i t gt in rw (next_inner size t (omega (arith, w, e))) (omega (arith, w, e))
    ]

pub distance_below : (size i t : ℕ) → i < size → t < size → distance size i t < size
distance_below size i t li lt =
    elim (leb_tells i t) [
      | inl h ↦ let le = h.1 in rw (distance_up size i t le) (omega arith)
      | inr h ↦ let gt = h.1 in rw (distance_over size i t gt) (omega arith)
    ]

length_from : (m : List (List ℕ)) (base size i n : ℕ) → length (entries_from m base size i n) ≡ n
length_from m base size i zero = refl
length_from m base size i (suc n) = ap suc (length_from m base size (next_index size i) n)

-- two memories that are alike at all places but the tail's have the same commands before it
from_alike : (old new : List (List ℕ)) (base size t : ℕ) → t < size
    → ((j : ℕ) → j < size → j ≢ t → entry_at new (base + 16 * j) ≡ entry_at old (base + 16 * j))
    → (i n : ℕ) → i < size → n ≡ distance size i t → entries_from new base size i n ≡ entries_from old base size i n
from_alike old new base size t lt alike i zero li e = refl
from_alike old new base size t lt alike i (suc n) li e =
    ap (λ c. c ∷ entries_from new base size (next_index size i) n) (alike i li (distance_apart size i t n e))
    ∙ ap (λ cs. entry_at old (base + 16 * i) ∷ cs)
    (from_alike old new base size t lt alike (next_index size i) n (next_below size i li) (distance_next size i t n li lt e))

-- one more command is the one at the tail
from_more : (m : List (List ℕ)) (base size t : ℕ) → t < size → (i n : ℕ) → i < size → n ≡ distance size i t
    → entries_from m base size i (suc n) ≡ entries_from m base size i n ++ entry_at m (base + 16 * t) ∷ []
from_more m base size t lt i zero li e = ap (λ j. entry_at m (base + 16 * j) ∷ []) (distance_none size i t li lt e)
from_more m base size t lt i (suc n) li e =
    ap (λ cs. entry_at m (base + 16 * i) ∷ cs) (from_more m base size t lt (next_index size i) n (next_below size i li) (distance_next size i t n li lt e))

from_first : (m : List (List ℕ)) (base size i t n : ℕ) → i < size → t < size → n ≡ distance size i t → i ≢ t
    → entries_from m base size i n ≡ entry_at m (base + 16 * i) ∷ entries_from m base size (next_index size i) (distance size (next_index size i) t)
from_first m base size i t zero li lt e ne = absurd (ne (distance_none size i t li lt e))
from_first m base size i t (suc n) li lt e ne =
    ap (λ k. entry_at m (base + 16 * i) ∷ entries_from m base size (next_index size i) k) (distance_next size i t n li lt e)

-- THE COUNT
pub count : (m : List (List ℕ)) (r : Registers) → length (commands_in m r) ≡ how_many r
unfolding commands_in
count m r = length_from m (command_base r) (command_entries r) (command_head r) (how_many r)

-- APPENDS: a command that is written at the tail, and the tail moved on
pub appends : (old new : List (List ℕ)) (r : Registers) (c : QueueEntry) → how_many r + 1 < command_entries r
    → ((j : ℕ) → j < command_entries r → j ≢ command_tail r → entry_at new (place_of r j) ≡ entry_at old (place_of r j))
    → entry_at new (place_of r (command_tail r)) ≡ c
    → commands_in new (written r Cqt (next_index (command_entries r) (command_tail r))) ≡ commands_in old r ++ c ∷ []
unfolding commands_in
appends old new r c room alike there =
    let s = command_entries r in let h = command_head r in let t = command_tail r in let base = command_base r in
    let lh : h < s = head_below r in
    let lt : t < s = tail_below r in
    let small : next_index s t < s = next_below s t lt in
    let at : next_index s t % s % s ≡ next_index s t = ap (λ v. v % s) (mod-eq_of_lt small) ∙ mod-eq_of_lt small in
    ap (λ v. entries_from new base s h (distance s h v)) at
    ∙ ap (λ n. entries_from new base s h n) (distance_more s h t lh lt room)
    ∙ from_more new base s t lt h (distance s h t) lh refl
    ∙ ap (λ x. entries_from new base s h (distance s h t) ++ x ∷ []) there
    ∙ ap (λ cs. cs ++ c ∷ []) (from_alike old new base s t lt alike h (distance s h t) lh refl)

-- STAYS: two memories that are alike at all places
pub unchanged : (old new : List (List ℕ)) (r : Registers)
    → ((j : ℕ) → j < command_entries r → entry_at new (place_of r j) ≡ entry_at old (place_of r j))
    → commands_in new r ≡ commands_in old r
unfolding commands_in
unchanged old new r alike =
    from_alike old new (command_base r) (command_entries r) (command_tail r) (tail_below r) (λ j lt n. alike j lt) (command_head r) (how_many r) (head_below r) refl

-- DROPS: the head moved on
pub drops : (m : List (List ℕ)) (r : Registers) → command_head r ≢ command_tail r
    → commands_in m r ≡ first_entry m r ∷ commands_in m (with_command_done r)
unfolding commands_in
drops m r ne =
    let s = command_entries r in let h = command_head r in let t = command_tail r in
    let at : next_index s h % s ≡ next_index s h = mod-eq_of_lt (next_below s h (head_below r)) in
    from_first m (command_base r) s h t (distance s h t) (head_below r) (tail_below r) refl ne
    ∙ ap (λ i. entry_at m (command_base r + 16 * h) ∷ entries_from m (command_base r) s i (distance s i t)) (sym at)

-- the list is empty exactly where head and tail meet
pub empty : (m : List (List ℕ)) (r : Registers) → command_head r ≡ command_tail r → commands_in m r ≡ []
unfolding commands_in
empty m r e =
    let none : how_many r ≡ 0 = distance_up (command_entries r) (command_head r) (command_tail r) (omega (arith, e)) ∙ omega (arith, e) in
    rw none refl

pub apart : (m : List (List ℕ)) (r : Registers) → command_head r ≢ command_tail r → commands_in m r ≢ []
apart m r ne none = let e = sym (drops m r ne) ∙ none in cc

-- what stands at the head is the first of the list
pub first_is : (m : List (List ℕ)) (r : Registers) → command_head r ≢ command_tail r → slice_get (commands_in m r) 0 ≡ Some (first_entry m r)
first_is m r ne = ap (λ cs. slice_get cs 0) (drops m r ne)

pub none_is : (m : List (List ℕ)) (r : Registers) → command_head r ≡ command_tail r → slice_get (commands_in m r) 0 ≡ None
none_is m r e = ap (λ cs. slice_get cs 0) (empty m r e)

-- the list goes by where the ring lies, and where head and tail are
pub same_ring : (m : List (List ℕ)) (one other : Registers) → command_base one ≡ command_base other → command_entries one ≡ command_entries other
    → command_head one ≡ command_head other → command_tail one ≡ command_tail other → commands_in m one ≡ commands_in m other
unfolding commands_in
same_ring m one other base size head tail =
    ap (λ b. entries_from m b (command_entries one) (command_head one) (how_many one)) base
    ∙ ap (λ s. entries_from m (command_base other) s (command_head one) (distance s (command_head one) (command_tail one))) size
    ∙ ap (λ h. entries_from m (command_base other) (command_entries other) h (distance (command_entries other) h (command_tail one))) head
    ∙ ap (λ t. entries_from m (command_base other) (command_entries other) (command_head other) (distance (command_entries other) (command_head other) t)) tail

aligned : (r : Registers) (j : ℕ) → place_of r j % 16 ≡ 0
aligned r j = omega arith

-- the same of a command whose bytes were written at the tail
pub appended : (old new : List (List ℕ)) (r : Registers) (command : Command) → how_many r + 1 < command_entries r
    → WritesCommand old (place_of r (command_tail r)) command new
    → commands_in new (written r Cqt (next_index (command_entries r) (command_tail r))) ≡ commands_in old r ++ stands.Command command ∷ []
appended old new r command room put =
    appends old new r (stands.Command command) room
    (λ j lt ne. put.other_entries (place_of r j) (aligned r j) (λ e. ne (omega (arith, e)))) put.there

pub stays_by_frames : (old new : List (List ℕ)) (r : Registers)
    → ((j : ℕ) → j < command_entries r → slice_get new (place_of r j / 4096) ≡ slice_get old (place_of r j / 4096))
    → commands_in new r ≡ commands_in old r
stays_by_frames old new r same = unchanged old new r (λ j lt. of_same_frame old new (place_of r j) (aligned r j) (same j lt))

pub empty_iff : (m : List (List ℕ)) (r : Registers) → (commands_in m r ≡ []) ↔ (command_head r ≡ command_tail r)
empty_iff m r = (
  (λ none. elim (eqb_tells (command_head r) (command_tail r)) [ inl h ↦ h.1 | inr h ↦ absurd (apart m r h.1 none) ]),
  (λ e. empty m r e),
)
