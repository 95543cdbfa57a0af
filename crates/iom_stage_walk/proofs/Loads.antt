-- A load of an entry, by its address.
use Rattle.std.proofs.Common.{◌≡◌, ◌≢◌, ℕ, ◌+◌, ◌*◌, ◌/◌, ◌%◌, ◌<◌, ◌≤◌, inl, inr, Bool, true, false, List, length, slice_get, Option, Some, None, if◌then◌else◌, refl, ap, arith}
use Rattle.std.proofs.lemmas.Option.{slice_get_past, slice_get_cases}
use Rattle.iom_base.specs.declared.rights.Rights.{Rights}
use Rattle.iom_stage_walk.specs.declared.entry.Entry.TheVariants.{Outside, Invalid, Pointer, Leaf}
use Rattle.iom_phys_mem.specs.Words.{word_at}
use Rattle.iom_stage_walk.specs.Entries.{entries, entry_read, is_invalid, is_pointer, is_clean_pointer, is_user_leaf, leaf_rights, slot}
use Rattle.iom_stage_walk.specs.Fields.{pte_of, ppn_of}

-- the entry at an index of a table is what the eight bytes at its address say
pub entries_at : (frames : List (List ℕ)) (table index : ℕ) → entries frames (slot table index) ≡ entry_read (word_at 8 frames (4096 * table + 8 * index))
unfolding entries
entries_at frames table index =
    let e : 8 * (512 * table + index) ≡ 4096 * table + 8 * index = omega arith in
    ap (λ a. entry_read (word_at 8 frames a)) e

-- the entries of a table outside memory are outside
pub entries_outside : (frames : List (List ℕ)) (table index : ℕ) → length frames ≤ table → entries frames (slot table index) ≡ Outside
unfolding entries
entries_outside frames table index le =
    let none : slice_get frames (8 * slot table index / 4096) ≡ None = slice_get_past frames (8 * slot table index / 4096) (omega arith) in
    let aligned : 8 * slot table index % 8 ≡ 0 = omega arith in
    rw (aligned, none) refl

-- what a word means isn't that its load is outside
means_something : (a b c d : Bool) (p q : ℕ) (r : Rights) → (if a then Invalid else (if b then (if c then Pointer p else Invalid) else (if d then Leaf q r else Invalid))) ≢ Outside
means_something true b c d p q r h = cc
means_something false true true d p q r h = cc
means_something false true false d p q r h = cc
means_something false false c true p q r h = cc
means_something false false c false p q r h = cc

not_outside : (o : Option ℕ) → (o ≡ None → ⊥) → entry_read o ≢ Outside
not_outside None some h = some refl
not_outside (Some word) some h =
    let pte = pte_of word in
    means_something (is_invalid pte) (is_pointer pte) (is_clean_pointer pte) (is_user_leaf pte) (ppn_of pte) (ppn_of pte) (leaf_rights pte) h

-- an entry whose frame is in memory isn't outside
pub entry_inside : (frames : List (List ℕ)) (frame index : ℕ) → frame < length frames → index < 512 → entries frames (slot frame index) ≢ Outside
unfolding entries
entry_inside frames frame index lt small =
    let at : 8 * (512 * frame + index) / 4096 ≡ frame = omega arith in
    let aligned : 8 * (512 * frame + index) % 8 ≡ 0 = omega arith in
    not_outside (word_at 8 frames (8 * slot frame index))
    (λ none. elim ((slice_get_cases frames frame).1) [
      | inl x ↦
          let some : slice_get frames (8 * (512 * frame + index) / 4096) ≡ Some x.0 = rw at x.2 in
          let no = rw (aligned, some) at none in
          cc
      | inr y ↦ absurd (omega (arith, y.0))
    ])
