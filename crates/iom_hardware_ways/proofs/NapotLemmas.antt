-- Walks that know leaves of 64 KiB find all that walks find which don't, and such a leaf where those find nothing.
use Rattle.std.proofs.Common.{◌≡◌, inl, inr, ℕ, ◌+◌, ◌-◌, ◌*◌, ◌%◌, ◌^◌, ◌==◌, Bool, true, false, ◌&&◌, ◌||◌, not, List, [], ◌∷◌, Option, Some, None, if◌then◌else◌, refl, ap, arith}
use Rattle.std.proofs.lemmas.Bool.{eq-eqb, eqb-true}
use Rattle.iom_base.specs.declared.rights.Rights.{Rights}
use Rattle.iom_napot.specs.Entries.{is_napot_leaf, napot_entry, napot_read}
use Rattle.iom_reach.proofs.WiderLemmas.{reads_no_more, reads_wider}
use Rattle.iom_reach.specs.Laws.{FindsMore}
use Rattle.iom_reach.specs.Memory.{Memory, Found, Nothing, Leaf, ReadsFrame, WalkStep}
use Rattle.iom_reach.specs.Scene.{Mapping}
use Rattle.iom_stage_walk.specs.Entries.{entry_of, entry_read, has_flag, is_clean_pointer, is_invalid, is_pointer, is_user_leaf, leaf_rights}
use Rattle.iom_stage_walk.specs.Fields.{ppn_of, pte_of, reserved_of}
use Rattle.iom_stage_walk.specs.declared.entry.Entry.TheVariants as entry
use Rattle.iom_stage_walk.specs.declared.pte.Pte.{Pte}
use Rattle.iom_stage_walk.specs.declared.pte.TheConstants.PteFlags.{V, R, W}
use Rattle.iom_hardware_ways.specs.Formats.{entry_format, format_of, found_entry, found_leaf, word_in}
use Rattle.iom_hardware_ways.specs.Laws.{NapotReadsMore}

left_of : (a b : Bool) → a && b ≡ true → a ≡ true
left_of true b is = refl
left_of false b is = is

last_of : (a b c : Bool) → c ≡ true → a || (b || c) ≡ true
last_of true b c is = refl
last_of false true c is = refl
last_of false false c is = is

-- its bit N is reserved to a walk that doesn't know it
invalid_without : (pte : Pte) → is_napot_leaf pte ≡ true → entry_of pte ≡ entry.Invalid
invalid_without pte is =
    let set : reserved_of pte ≡ 2 ^ 9 = eqb-true (reserved_of pte) (2 ^ 9)
    (left_of (reserved_of pte == 2 ^ 9) ((has_flag pte V && is_user_leaf pte) && (ppn_of pte % 16 == 8)) is) in
    let known : (reserved_of pte == 0) ≡ false = ap (λ n. n == 0) set in
    let invalid : is_invalid pte ≡ true =
    last_of (not (has_flag pte V)) (has_flag pte W && not (has_flag pte R)) (not (reserved_of pte == 0)) (ap not known) in
    ap (λ (b : Bool). if b then entry.Invalid
    else (if is_pointer pte
    then (if is_clean_pointer pte then entry.Pointer (ppn_of pte) else entry.Invalid)
    else (if is_user_leaf pte then entry.Leaf (ppn_of pte) (leaf_rights pte) else entry.Invalid))) invalid

abbrev as_leaf : Mapping → Found Mapping
as_leaf mapping = Leaf mapping

-- a leaf of one page is aligned
page_found : (base : ℕ) (rights : Rights) → found_leaf base rights [] ≡ as_leaf (record { frame = base + 0; rights = rights })
page_found base rights = ap (λ (b : Bool). if b then as_leaf (record { frame = base + 0; rights = rights }) else Nothing) (eq-eqb (base % 1) 0 (omega arith))

entry_more : (pte : Pte) (place : ℕ) → FindsMore (found_entry (entry_of pte) []) (found_entry (napot_entry pte place) [])
entry_more pte place = by (is_napot_leaf pte) refl
  where
    by : (b : Bool) → is_napot_leaf pte ≡ b
        → FindsMore (found_entry (entry_of pte) []) (found_entry (if b then entry.Leaf (ppn_of pte - 8 + place % 16) (leaf_rights pte) else entry_of pte) [])
    by true is = inr (
      ap (λ e. found_entry e []) (invalid_without pte is),
      (record { frame = ppn_of pte - 8 + place % 16 + 0; rights = leaf_rights pte }, page_found (ppn_of pte - 8 + place % 16) (leaf_rights pte)),
    )
    by false is = inl refl

word_more : (word : Option ℕ) (place : ℕ) → FindsMore (found_entry (entry_read word) []) (found_entry (napot_read word place) [])
word_more None place = inl refl
word_more (Some word) place = entry_more (pte_of word) place

pub reads_more : NapotReadsMore
reads_more false frame place left = inl refl
reads_more true frame place [] = word_more (word_in frame (8 * place)) place
reads_more true frame place (step ∷ left) = inl refl

-- and they read the same frames
pub napot_reads_alike : (napot : Bool) (memory : Memory) (table : ℕ) (steps : List WalkStep) (frame : ℕ)
    → (ReadsFrame entry_format memory table steps frame → ReadsFrame (format_of napot) memory table steps frame)
    × (ReadsFrame (format_of napot) memory table steps frame → ReadsFrame entry_format memory table steps frame)
napot_reads_alike napot memory table steps frame = (
  reads_wider entry_format (format_of napot) (reads_more napot) memory table steps frame,
  reads_no_more entry_format (format_of napot) (reads_more napot) memory table steps frame,
)
