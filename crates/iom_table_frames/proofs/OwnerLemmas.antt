-- Owners, and the set of the frames that have none.
use Rattle.std.proofs.Common.{◌≡◌, ℕ, suc, zero, ◌+◌, ◌-◌, ◌<◌, ◌≤◌, ◌⊎◌, inl, inr, true, false, ◌==◌, List, [], ◌∷◌, ◌++◌, length, nat_lt, replicate, slice_set, Option, None, Some, is_none, if◌then◌else◌, refl, sym, ap, ◌∙◌, arith}
use Rattle.std.proofs.lemmas.Bool.{cases_eq, cases_lt, eq-eqb, ne_eqb, lt-ltb, le-ltb, false≢true}
use Rattle.std.proofs.lemmas.List.{length-append, length-replicate, length-set}
use Rattle.iom_frame_set.specs.Sets.{Words, has, room, RemovesFrame}
use Rattle.iom_base.specs.declared.owner.Owner.{Owner}
use Rattle.iom_base.specs.declared.owner.Owner.TheVariants.{System}
use Rattle.iom_table_frames.specs.Owners.{has_owner}
use Rattle.iom_table_frames.specs.Unreserved.{is_unreserved, IsUnreservedSet}

-- numbers that are one higher are equal alike
next_same : (n f : ℕ) → (suc n == suc f) ≡ (n == f)
next_same n f = by (cases_eq n f)
  where
    by : (n ≡ f) ⊎ (n ≡ f → ⊥) → (suc n == suc f) ≡ (n == f)
    by (inl same) = eq-eqb (suc n) (suc f) (ap suc same) ∙ sym (eq-eqb n f same)
    by (inr other) = ne_eqb (suc n) (suc f) (λ same. other (omega arith)) ∙ sym (ne_eqb n f other)

zero_other : (f : ℕ) → (0 == suc f) ≡ false
zero_other f = ne_eqb 0 (suc f) (λ same. omega arith)

other_zero : (n : ℕ) → (suc n == 0) ≡ false
other_zero n = ne_eqb (suc n) 0 (λ same. omega arith)

-- a frame with an owner
unreserved-set : (owners : List (Option Owner)) (frame : ℕ) (owner : Owner) (f : ℕ) → frame < length owners
    → is_unreserved (slice_set owners frame (Some owner)) f ≡ (if frame == f then false else is_unreserved owners f)
unreserved-set [] frame owner f within = absurd (omega arith)
unreserved-set (m ∷ owners) zero owner zero within = refl
unreserved-set (m ∷ owners) zero owner (suc f) within = ap (λ b. if b then false else is_unreserved owners f) (sym (zero_other f))
unreserved-set (m ∷ owners) (suc n) owner zero within = ap (λ b. if b then false else is_none m) (sym (other_zero n))
unreserved-set (m ∷ owners) (suc n) owner (suc f) within =
    unreserved-set owners n owner f (omega arith) ∙ ap (λ b. if b then false else is_unreserved owners f) (sym (next_same n f))

-- where a frame gets an owner and leaves the set, the set is still right
pub IsUnreservedSet-reserved : (owners : List (Option Owner)) (old new : Words) (frame : ℕ) (owner : Owner) → frame < length owners → RemovesFrame old new frame → room new ≡ room old → IsUnreservedSet owners old
    → IsUnreservedSet (slice_set owners frame (Some owner)) new
IsUnreservedSet-reserved owners old new frame owner within removed same_room is = record {
  has_unreserved = λ f. removed f ∙ ap (λ b. if frame == f then false else b) (is.has_unreserved f) ∙ sym (unreserved-set owners frame owner f within);
  roomy = let roomy = is.roomy in let long = length-set owners frame (Some owner) in omega arith;
}

-- the owners of frames without one, and then of frames of the system's
below_next : (f n : ℕ) → nat_lt (suc f) (suc n) ≡ nat_lt f n
below_next f n = by (cases_lt f n)
  where
    by : (f < n) ⊎ (n ≤ f) → nat_lt (suc f) (suc n) ≡ nat_lt f n
    by (inl below) = lt-ltb (suc f) (suc n) (omega arith) ∙ sym (lt-ltb f n below)
    by (inr above) = le-ltb (suc f) (suc n) (omega arith) ∙ sym (le-ltb f n above)

none_unreserved : (fixed f : ℕ) → is_unreserved (replicate fixed (Some System)) f ≡ false
none_unreserved zero f = refl
none_unreserved (suc fixed) zero = refl
none_unreserved (suc fixed) (suc f) = none_unreserved fixed f

unreserved-opening : (n fixed f : ℕ) → nat_lt f n ≡ is_unreserved (replicate n None ++ replicate fixed (Some System)) f
unreserved-opening zero fixed f = le-ltb f 0 (omega arith) ∙ sym (none_unreserved fixed f)
unreserved-opening (suc n) fixed zero = lt-ltb 0 (suc n) (omega arith)
unreserved-opening (suc n) fixed (suc f) = below_next f n ∙ unreserved-opening n fixed f

pub IsUnreservedSet-opening : (owners : List (Option Owner)) (unreserved : Words) (n fixed : ℕ) → owners ≡ replicate n None ++ replicate fixed (Some System) → n + fixed ≤ room unreserved
    → ((f : ℕ) → has unreserved f ≡ nat_lt f n) → IsUnreservedSet owners unreserved
IsUnreservedSet-opening owners unreserved n fixed is roomy below = record {
  has_unreserved = λ f. below f ∙ unreserved-opening n fixed f ∙ ap (λ ms. is_unreserved ms f) (sym is);
  roomy =
      let long : length owners ≡ n + fixed = ap length is ∙ length-append (replicate {A = Option Owner} n None) (replicate fixed (Some System)) ∙ ap (λ k. k + length (replicate {A = Option Owner} fixed (Some System))) (length-replicate {A = Option Owner} n None)
      ∙ ap (λ k. n + k) (length-replicate {A = Option Owner} fixed (Some System)) in
      omega arith;
}

-- a frame of memory isn't reserved exactly where it is unreserved
pub unreserved_from_mark : (owners : List (Option Owner)) (f : ℕ) → f < length owners → has_owner owners f ≡ false → is_unreserved owners f ≡ true
unreserved_from_mark [] f within unmarked = absurd (omega arith)
unreserved_from_mark (None ∷ owners) zero within unmarked = refl
unreserved_from_mark (Some owner ∷ owners) zero within unmarked = absurd (false≢true (sym unmarked))
unreserved_from_mark (m ∷ owners) (suc f) within unmarked = unreserved_from_mark owners f (omega arith) unmarked

pub mark_from_unreserved : (owners : List (Option Owner)) (f : ℕ) → is_unreserved owners f ≡ true → has_owner owners f ≡ false
mark_from_unreserved [] f unreserved = refl
mark_from_unreserved (None ∷ owners) zero unreserved = refl
mark_from_unreserved (Some owner ∷ owners) zero unreserved = absurd (false≢true unreserved)
mark_from_unreserved (m ∷ owners) (suc f) unreserved = mark_from_unreserved owners f unreserved
