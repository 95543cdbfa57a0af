-- What stands at a place, and what storing a record does to it.
use Rattle.std.proofs.Common.{◌≡◌, ◌≢◌, ◌+◌, ◌-◌, ◌/◌, ◌%◌, ◌<◌, ◌≤◌, ◌⊎◌, ◌++◌, inl, inr, ℕ, List, length, take, drop, set, slice_get, Some, None, refl, sym, ap, ◌∙◌, arith, length-drop, length-append, length-take-le, append_assoc}
use Rattle.std.specs.Option.{option_map_or}
use Rattle.std.proofs.Math.Seq.{drop-append_seam}
use Rattle.std.proofs.lemmas.List.{ext_get_or, get_or-take, get_or-drop, take-append-le, take_all, drop-append-le, drop-drop}
use Rattle.std.proofs.lemmas.Option.{slice_get_cases}
use Rattle.std.proofs.lemmas.Bool.Decides.{eqb_tells, leb_tells}
use borrow.Rule.Slice.PartMut.{put_mid}
use Rattle.iom_base.specs.Bytes.{with_bytes}
use Rattle.iom_phys_mem.proofs.Stores.{byte_apart, length-with_bytes, frame_here, frame_elsewhere}
use Rattle.iom_fault_queue.specs.declared.entry.Entry.TheVariants as entry
use Rattle.iom_fault_queue.specs.Fields.{Fields}
use Rattle.iom_fault_queue.specs.Grammar.{decoded_record, encoded_record}
use Rattle.iom_fault_queue.specs.Ring.{record_at, meaning_of, StoresRecord}

-- what stands in a frame
pub in_frame : (memory : List (List ℕ)) (address : ℕ) (frame : List ℕ) → slice_get memory (address / 4096) ≡ Some frame
    → record_at memory address ≡ meaning_of (decoded_record (take 32 (drop (address % 4096) frame)))
unfolding record_at
in_frame memory address frame found = rw found refl

pub in_none : (memory : List (List ℕ)) (address : ℕ) → slice_get memory (address / 4096) ≡ None → record_at memory address ≡ entry.Outside
unfolding record_at
in_none memory address none = rw none refl

-- it depends on its frame alone
pub of_same_frame : (old new : List (List ℕ)) (address : ℕ) → slice_get new (address / 4096) ≡ slice_get old (address / 4096) → record_at new address ≡ record_at old address
unfolding record_at
of_same_frame old new address same =
    ap (λ found. option_map_or (λ frame. meaning_of (decoded_record (take 32 (drop (address % 4096) frame)))) found entry.Outside) same

-- bytes that lie apart from those that are replaced are as they were
part_apart : (n at offset : ℕ) (frame bytes : List ℕ) → offset + length bytes ≤ length frame → at + n ≤ length frame
    → (at + n ≤ offset) ⊎ (offset + length bytes ≤ at) → take n (drop at (with_bytes frame offset bytes)) ≡ take n (drop at frame)
part_apart n at offset frame bytes fits within apart =
    let new : List ℕ = with_bytes frame offset bytes in
    let long : length new ≡ length frame = length-with_bytes frame bytes offset fits in
    let length_new : length (take n (drop at new)) ≡ n = length-take-le n (drop at new) (omega (arith, length-drop at new, long)) in
    let length_old : length (take n (drop at frame)) ≡ n = length-take-le n (drop at frame) (omega (arith, length-drop at frame)) in
    ext_get_or 0 (take n (drop at new)) (take n (drop at frame)) (length_new ∙ sym length_old)
    (λ i lt.
    let below : i < n = omega (arith, length_new) in
    let side : (at + i < offset) ⊎ (offset + length bytes ≤ at + i) = elim apart [ inl h ↦ inl (omega arith) | inr h ↦ inr (omega arith) ] in
    get_or-take n (drop at new) i 0 below ∙ get_or-drop at new i 0
    ∙ byte_apart frame bytes offset (at + i) (omega arith) side
    ∙ sym (get_or-drop at frame i 0) ∙ sym (get_or-take n (drop at frame) i 0 below))

-- the bytes that are put are there
part_here : (n offset : ℕ) (frame bytes : List ℕ) → length bytes ≡ n → offset + n ≤ length frame → take n (drop offset (with_bytes frame offset bytes)) ≡ bytes
part_here n offset frame bytes long fits =
    let front : length (take offset frame) ≡ offset = length-take-le offset frame (omega arith) in
    let rest : List ℕ = drop (offset + length bytes) frame in
    let seam : drop offset (take offset frame ++ bytes ++ rest) ≡ bytes ++ rest =
    drop-append-le offset (take offset frame ++ bytes) rest (omega (arith, length-append (take offset frame) bytes, front))
    ∙ ap (λ xs. xs ++ rest) (ap (λ m. drop m (take offset frame ++ bytes)) (sym front) ∙ drop-append_seam (take offset frame) bytes) in
    ap (take n) seam ∙ take-append-le n bytes rest (omega arith) ∙ take_all n bytes (omega arith)

-- a frame that is found is inside
found_inside : (memory : List (List ℕ)) (i : ℕ) (frame : List ℕ) → slice_get memory i ≡ Some frame → i < length memory
found_inside memory i frame found =
    elim ((slice_get_cases memory i).1) [
      | inl x ↦ x.1
      | inr y ↦ let bad : Some frame ≡ None = sym found ∙ y.1 in cc
    ]

length-encoded_record : (f : Fields) → length (encoded_record f) ≡ 32
unfolding encoded_record
length-encoded_record f = refl

-- the record stands where it was stored
pub stored_here : (memory new : List (List ℕ)) (address : ℕ) (f : Fields) → address % 32 ≡ 0 → StoresRecord memory address f new → record_at new address ≡ entry.Record f
stored_here memory new address f aligned stores =
    let inside : address / 4096 < length memory = found_inside memory (address / 4096) stores.frame stores.found in
    let fits : address % 4096 + 32 ≤ length stores.frame = omega (arith, stores.whole) in
    let found : slice_get new (address / 4096) ≡ Some (with_bytes stores.frame (address % 4096) (encoded_record f)) =
    ap (λ m. slice_get m (address / 4096)) stores.stored ∙ frame_here memory (address / 4096) (with_bytes stores.frame (address % 4096) (encoded_record f)) inside in
    in_frame new address (with_bytes stores.frame (address % 4096) (encoded_record f)) found
    ∙ ap (λ bytes. meaning_of (decoded_record bytes)) (part_here 32 (address % 4096) stores.frame (encoded_record f) (length-encoded_record f) fits)
    ∙ ap meaning_of stores.meant

-- what stands elsewhere stays
pub stored_elsewhere : (memory new : List (List ℕ)) (address other : ℕ) (f : Fields) → address % 32 ≡ 0 → other % 32 ≡ 0 → other ≢ address
    → StoresRecord memory address f new → record_at new other ≡ record_at memory other
stored_elsewhere memory new address other f aligned other_aligned ne stores =
    elim (eqb_tells (other / 4096) (address / 4096)) [
      | inl e ↦
          let same : other / 4096 ≡ address / 4096 = e.1 in
          let inside : address / 4096 < length memory = found_inside memory (address / 4096) stores.frame stores.found in
          let written : List ℕ = with_bytes stores.frame (address % 4096) (encoded_record f) in
          let found : slice_get new (other / 4096) ≡ Some written =
          ap (λ m. slice_get m (other / 4096)) stores.stored ∙ ap (λ i. slice_get (set memory (address / 4096) written) i) same ∙ frame_here memory (address / 4096) written inside in
          let was : slice_get memory (other / 4096) ≡ Some stores.frame = ap (slice_get memory) same ∙ stores.found in
          let long = length-encoded_record f in
          let apart : (other % 4096 + 32 ≤ address % 4096) ⊎ (address % 4096 + length (encoded_record f) ≤ other % 4096) =
          elim (leb_tells (other % 4096) (address % 4096)) [ inl h ↦ let le = h.1 in inl (omega arith) | inr h ↦ let gt = h.1 in inr (omega arith) ] in
          in_frame new other written found
          ∙ ap (λ bytes. meaning_of (decoded_record bytes)) (part_apart 32 (other % 4096) (address % 4096) stores.frame (encoded_record f) (omega (arith, stores.whole, long)) (omega (arith, stores.whole)) apart)
          ∙ sym (in_frame memory other stores.frame was)
      | inr n ↦
          of_same_frame memory new other
          (ap (λ m. slice_get m (other / 4096)) stores.stored ∙ frame_elsewhere memory (address / 4096) (other / 4096) (with_bytes stores.frame (address % 4096) (encoded_record f)) n.1)
    ]

-- a write of all of a part replaces it
pub put_part : (frame bytes : List ℕ) (offset n : ℕ) → length bytes ≡ n → put_mid offset (offset + n - offset) frame bytes ≡ with_bytes frame offset bytes
put_part frame bytes offset n long =
    let k : offset + n - offset ≡ n = omega arith in
    rw (k, drop-drop n offset frame, long) (sym (append_assoc (take offset frame) bytes (drop (offset + n) frame)))
