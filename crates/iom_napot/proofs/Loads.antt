-- A load of an entry of a table of pages, by its address.
use Rattle.std.proofs.Common.{◌≡◌, ◌∙◌, ℕ, ◌+◌, ◌-◌, ◌*◌, ◌/◌, ◌%◌, ◌≤◌, List, length, slice_get, Option, Some, None, if◌then◌else◌, refl, ap, arith}
use Rattle.std.proofs.lemmas.Option.{slice_get_past}
use Rattle.iom_napot.specs.Entries.{is_napot_leaf, napot_entries, napot_order, napot_read, order_read}
use Rattle.iom_phys_mem.specs.Words.{word_at}
use Rattle.iom_stage_walk.specs.Entries.{entry_of, leaf_rights, slot}
use Rattle.iom_stage_walk.specs.Fields.{pte_of, ppn_of}
use Rattle.iom_stage_walk.specs.declared.entry.Entry.TheVariants.{Outside, Leaf}

-- of the number of an entry only its place among sixteen counts
read_alike : (word : Option ℕ) (s t : ℕ) → s % 16 ≡ t % 16 → napot_read word s ≡ napot_read word t
read_alike None s t same = refl
read_alike (Some word) s t same =
    ap (λ k. if is_napot_leaf (pte_of word) then Leaf (ppn_of (pte_of word) - 8 + k) (leaf_rights (pte_of word)) else entry_of (pte_of word)) same

-- the entry at an index of a table is what the eight bytes at its address say
pub entries_at : (frames : List (List ℕ)) (table index at : ℕ) → at ≡ index
    → napot_entries frames (slot table index) ≡ napot_read (word_at 8 frames (4096 * table + 8 * at)) index
unfolding napot_entries
entries_at frames table index at same =
    let e : 8 * (512 * table + index) ≡ 4096 * table + 8 * at = omega (arith, same) in
    ap (λ a. napot_read (word_at 8 frames a) (slot table index)) e
    ∙ read_alike (word_at 8 frames (4096 * table + 8 * at)) (slot table index) index (omega arith)

pub order_at : (frames : List (List ℕ)) (table index at : ℕ) → at ≡ index
    → napot_order frames (slot table index) ≡ order_read (word_at 8 frames (4096 * table + 8 * at))
unfolding napot_order
order_at frames table index at same =
    let e : 8 * (512 * table + index) ≡ 4096 * table + 8 * at = omega (arith, same) in
    ap (λ a. order_read (word_at 8 frames a)) e

-- the entries of a table outside memory are outside
pub entries_outside : (frames : List (List ℕ)) (table index : ℕ) → length frames ≤ table → napot_entries frames (slot table index) ≡ Outside
unfolding napot_entries
entries_outside frames table index le =
    let none : slice_get frames (8 * slot table index / 4096) ≡ None = slice_get_past frames (8 * slot table index / 4096) (omega arith) in
    let aligned : 8 * slot table index % 8 ≡ 0 = omega arith in
    rw (aligned, none) refl

pub order_outside : (frames : List (List ℕ)) (table index : ℕ) → length frames ≤ table → napot_order frames (slot table index) ≡ 0
unfolding napot_order
order_outside frames table index le =
    let none : slice_get frames (8 * slot table index / 4096) ≡ None = slice_get_past frames (8 * slot table index / 4096) (omega arith) in
    let aligned : 8 * slot table index % 8 ≡ 0 = omega arith in
    rw (aligned, none) refl
