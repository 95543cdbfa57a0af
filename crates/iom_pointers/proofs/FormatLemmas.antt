-- An entry of a page table, as walks of a format find it.
use Rattle.std.proofs.Common.{zero, suc, ◌≡◌, ◌∙◌, ℕ, ◌+◌, ◌-◌, ◌*◌, ◌/◌, ◌%◌, Bool, true, false, List, [], ◌∷◌, length, Option, Some, None, slice_get, if◌then◌else◌, refl, sym, ap, arith}
use Rattle.iom_hardware_ways.proofs.FormatLemmas.{entry_there, word_there}
use Rattle.iom_hardware_ways.specs.Formats.{word_in, entry_format, format_of, found_entry}
use Rattle.iom_napot.specs.Entries.{entries_in, is_napot_leaf, napot_entries, napot_read}
use Rattle.iom_reach.specs.Memory.{WalkStep}
use Rattle.iom_stage_walk.specs.Entries.{entries, entry_of, leaf_rights, slot}
use Rattle.iom_stage_walk.specs.Fields.{pte_of, ppn_of}
use Rattle.iom_stage_walk.specs.declared.entry.Entry.TheVariants.{Leaf}

-- of the number of an entry only its place among sixteen counts
read_alike : (word : Option ℕ) (s t : ℕ) → s % 16 ≡ t % 16 → napot_read word s ≡ napot_read word t
read_alike None s t same = refl
read_alike (Some word) s t same =
    ap (λ k. if is_napot_leaf (pte_of word) then Leaf (ppn_of (pte_of word) - 8 + k) (leaf_rights (pte_of word)) else entry_of (pte_of word)) same

-- the entry of a table of pages: of its frame the one at that place
pub napot_there : (memory : List (List ℕ)) (table index : ℕ)
    → napot_entries memory (slot table index) ≡ napot_read (word_in (slice_get memory (table + index / 512)) (8 * (index % 512))) (index % 512)
unfolding napot_entries
napot_there memory table index =
    ap (λ w. napot_read w (slot table index))
    (word_there memory (8 * (512 * table + index)) (table + index / 512) (8 * (index % 512)) (omega arith) (omega arith) (omega arith))
    ∙ read_alike (word_in (slice_get memory (table + index / 512)) (8 * (index % 512))) (slot table index) (index % 512) (omega arith)

plain_found : (memory : List (List ℕ)) (table index : ℕ) (left : List WalkStep)
    → entry_format (slice_get memory (table + index / 512)) (index % 512) left ≡ found_entry (entries memory (slot table index)) left
plain_found memory table index left = ap (λ e. found_entry e left) (sym (entry_there memory table index))

-- what a format finds in a table with so many levels below it
pub format_finds : (napot : Bool) (memory : List (List ℕ)) (table index level : ℕ) (left : List WalkStep) → length left ≡ level
    → format_of napot (slice_get memory (table + index / 512)) (index % 512) left ≡ found_entry (entries_in napot memory level (slot table index)) left
format_finds false memory table index level left long = plain_found memory table index left
format_finds true memory table index zero [] long = ap (λ e. found_entry e []) (sym (napot_there memory table index))
format_finds true memory table index (suc level) [] long = absurd (omega (arith, long))
format_finds true memory table index zero (step ∷ left) long = absurd (omega (arith, long))
format_finds true memory table index (suc level) (step ∷ left) long = plain_found memory table index (step ∷ left)
