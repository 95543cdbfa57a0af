-- What stands at a place of the commands that wait.
use Rattle.std.proofs.Common.{suc, zero, ◌≡◌, ◌≢◌, ◌+◌, ◌-◌, ◌*◌, ◌<◌, ◌≤◌, ◌⊎◌, ◌∙◌, inl, inr, ℕ, List, [], ◌∷◌, length, slice_get, Some, None, refl, sym, ap, arith}
use Rattle.std.proofs.lemmas.Bool.Decides.{eqb_tells}
use Rattle.iom_registers.specs.declared.registers.Registers.{Registers}
use Rattle.iom_registers.specs.Queues.{command_base, command_entries, command_head, next_index}
use Rattle.iom_command_queue.specs.Waiting.{entry_at, place_of, how_many, entries_from, commands_in, IsIndexOf}
use Rattle.iom_command_queue.proofs.Waits.{head_below}

-- the entry at a place of a ring, over its end
entry_from : (memory : List (List ℕ)) (base size i n k j : ℕ) → k < n → i < size → j < size → (i + k ≡ j) ⊎ (i + k ≡ j + size)
    → slice_get (entries_from memory base size i n) k ≡ Some (entry_at memory (base + 16 * j))
entry_from memory base size i zero k j lt li lj is = absurd (omega (arith, lt))
entry_from memory base size i (suc n) zero j lt li lj (inl is) = let same : i ≡ j = omega (arith, is) in ap (λ x. Some (entry_at memory (base + 16 * x))) same
entry_from memory base size i (suc n) zero j lt li lj (inr is) = absurd (omega (arith, is, li))
entry_from memory base size i (suc n) (suc k) j lt li lj is = elim (eqb_tells (i + 1) size) [
  | inl h ↦ rw h.0 (entry_from memory base size 0 n k j (omega (arith, lt)) (omega (arith, li)) lj (over is h.1))
  | inr h ↦ rw h.0 (entry_from memory base size (i + 1) n k j (omega (arith, lt)) (let ne = h.1 in omega (arith, li)) lj (on is))
]
  where
    over : (i + suc k ≡ j) ⊎ (i + suc k ≡ j + size) → i + 1 ≡ size → (0 + k ≡ j) ⊎ (0 + k ≡ j + size)
    over (inl e) last = absurd (omega (arith, e, last, lj))
    over (inr e) last = inl (omega (arith, e, last))

    on : (i + suc k ≡ j) ⊎ (i + suc k ≡ j + size) → (i + 1 + k ≡ j) ⊎ (i + 1 + k ≡ j + size)
    on (inl e) = inl (omega (arith, e))
    on (inr e) = inr (omega (arith, e))

pub at_place : (memory : List (List ℕ)) (r : Registers) (place index : ℕ) → place < how_many r → IsIndexOf r place index
    → slice_get (commands_in memory r) place ≡ Some (entry_at memory (place_of r index))
unfolding commands_in
at_place memory r place index lt is = entry_from memory (command_base r) (command_entries r) (command_head r) (how_many r) place index lt (head_below r) is.within is.there

none_from : (memory : List (List ℕ)) (base size i n k : ℕ) → n ≤ k → slice_get (entries_from memory base size i n) k ≡ None
none_from memory base size i zero k le = refl
none_from memory base size i (suc n) zero le = absurd (omega (arith, le))
none_from memory base size i (suc n) (suc k) le = none_from memory base size (next_index size i) n k (omega (arith, le))

pub none_at : (memory : List (List ℕ)) (r : Registers) (place : ℕ) → how_many r ≤ place → slice_get (commands_in memory r) place ≡ None
unfolding commands_in
none_at memory r place le = none_from memory (command_base r) (command_entries r) (command_head r) (how_many r) place le
