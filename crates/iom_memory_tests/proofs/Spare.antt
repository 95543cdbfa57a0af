-- Frames that the tests keep spare: those below a number are zeroed, and none of them is the root's.
use Rattle.std.specs.Prelude.{◌↔◌}
use Rattle.std.specs.List.{Contains}
use Rattle.std.proofs.Common.{zero, suc, ◌≡◌, ◌-◌, ◌<◌, ◌≤◌, ◌∙◌, ◌⊎◌, inl, inr, ℕ, List, [], ◌∷◌, length, take, get_or, slice_get, Some, subst, sym, ap, arith, replicate}
use Rattle.std.proofs.lemmas.List.Elements.{All-from_get_or}
use Rattle.std.proofs.lemmas.List.{get_or-replicate, get_or-take, length-replicate, length-take-le}
use Rattle.std.proofs.lemmas.Option.{slice_get-get_or}
use Rattle.iom_base.specs.declared.size.Size.{Size}
use Rattle.iom_phys_mem.specs.Words.{zeroed}
use Rattle.iom_stage_walk.specs.Entries.{entries}
use Rattle.iom_page_table.specs.Trees.{shape_of, IsFrameOf, AreFresh}

abbrev pub Spare : Size → List (List ℕ) → ℕ → Type 0
Spare size frames top = (f : ℕ) → f < top → (slice_get frames f ≡ Some zeroed) × (IsFrameOf (shape_of size) (entries frames) 59 f → ⊥)

-- the highest of them, so many of three
abbrev pub highest : ℕ → ℕ → List ℕ
highest top n = take n ((top - 1) ∷ (top - 2) ∷ (top - 3) ∷ [])

three_at : (top k d : ℕ) → k < 3 → get_or ((top - 1) ∷ (top - 2) ∷ (top - 3) ∷ []) k d ≡ top - 1 - k
three_at top zero d lt = omega arith
three_at top (suc zero) d lt = omega arith
three_at top (suc (suc zero)) d lt = omega arith
three_at top (suc (suc (suc k))) d lt = absurd (omega (arith, lt))

pub highest_long : (top n : ℕ) → n ≤ 3 → length (highest top n) ≡ n
highest_long top n le = length-take-le n ((top - 1) ∷ (top - 2) ∷ (top - 3) ∷ []) le

highest_at : (top n k d : ℕ) → n ≤ 3 → k < n → get_or (highest top n) k d ≡ top - 1 - k
highest_at top n k d le lt = get_or-take n ((top - 1) ∷ (top - 2) ∷ (top - 3) ∷ []) k d lt ∙ three_at top k d (omega arith)

module _ (size : Size) (frames : List (List ℕ)) (top n : ℕ) (spare : Spare size frames top) (high : 3 ≤ top) (le : n ≤ 3) where
  -- what is said of a spare frame is said of each
  of_each : (P : ℕ → Type 0) → ((f : ℕ) → f < top → P f) → (k : ℕ) → k < length (highest top n) → P (get_or (highest top n) k 0)
  of_each P each k lt =
      let long = highest_long top n le in
      subst P (sym (highest_at top n k 0 le (omega (arith, long, lt)))) (each (top - 1 - k) (omega arith))

  pub highest_fresh : AreFresh (shape_of size) frames 59 (highest top n)
  highest_fresh =
      let long = highest_long top n le in
      record {
        zero = All-from_get_or (λ f. slice_get frames f ≡ Some zeroed) (highest top n) 0 (of_each (λ f. slice_get frames f ≡ Some zeroed) (λ f lt. (spare f lt).0));
        outside = All-from_get_or (λ f. IsFrameOf (shape_of size) (entries frames) 59 f → ⊥) (highest top n) 0
            (of_each (λ f. IsFrameOf (shape_of size) (entries frames) 59 f → ⊥) (λ f lt. (spare f lt).1));
        distinct = λ i j d lt small e.
            let one = highest_at top n i d le (omega (arith, long, lt, small)) in
            let two = highest_at top n j d le (omega (arith, long, small)) in
            omega (arith, long, lt, small, e, one, two);
      }

-- those below the ones that are used aren't among them
pub below_highest : (top n f : ℕ) → n ≤ 3 → 3 ≤ top → f < top - n → Contains (highest top n) f → ⊥
below_highest top n f le high lt h =
    let long = highest_long top n le in
    let inside = h.1 in
    let is = h.2 in
    let at = highest_at top n h.0 f le (omega (arith, long, inside)) in
    omega (arith, long, inside, is, at)

-- what a map leaves spare
pub spare_stays : (size : Size) (old new : List (List ℕ)) (top rest : ℕ) (xs : List ℕ) → Spare size old top → rest ≤ top
    → ((f : ℕ) → IsFrameOf (shape_of size) (entries new) 59 f ↔ (IsFrameOf (shape_of size) (entries old) 59 f ⊎ Contains xs f))
    → ((f : ℕ) → (IsFrameOf (shape_of size) (entries new) 59 f → ⊥) → slice_get new f ≡ slice_get old f)
    → ((f : ℕ) → f < rest → Contains xs f → ⊥) → Spare size new rest
spare_stays size old new top rest xs spare le tables others apart f lt =
    let was = spare f (omega arith) in
    let out : IsFrameOf (shape_of size) (entries new) 59 f → ⊥ = λ h. elim ((tables f).0 h) [ inl x ↦ was.1 x | inr x ↦ apart f lt x ] in
    (others f out ∙ was.0, out)

-- a frame of a memory of zeros
pub zero_frame : (n f : ℕ) → f < n → slice_get (replicate n zeroed) f ≡ Some zeroed
zero_frame n f lt =
    let long : length (replicate n zeroed) ≡ n = length-replicate n zeroed in
    slice_get-get_or (replicate n zeroed) f zeroed (omega (arith, long)) ∙ ap Some (get_or-replicate n f zeroed zeroed lt)
