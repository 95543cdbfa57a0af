-- The frames of an owner are given back, one after the other.
use Rattle.std.proofs.Common.{◌≡◌, ◌≢◌, ◌⊎◌, inl, inr, ℕ, zero, suc, ◌+◌, ◌<◌, ◌≤◌, true, false, List, [], ◌∷◌, length, slice_get, slice_set, Option, None, Some, refl, sym, ap, ◌∙◌, arith}
use Rattle.std.proofs.lemmas.Bool.{cases_eq, cases_lt}
use Rattle.std.proofs.lemmas.List.{length-set}
use Rattle.iom_phys_mem.specs.Words.{zeroed}
use Rattle.iom_base.specs.declared.owner.Owner.{Owner}
use Rattle.iom_table_frames.specs.Owners.{GivesBack}

-- of the frames below the number those of the owner's are given back
pub record GivesBackBelow (n : ℕ) (owner : Owner) (old new : List (Option Owner)) (before after : List (List ℕ)) : Type 0 where
  pub size : length new ≡ length old
  pub memory_size : length after ≡ length before
  pub own : (frame : ℕ) → frame < n → slice_get old frame ≡ Some (Some owner) → (slice_get new frame ≡ Some None) × (slice_get after frame ≡ Some zeroed)
  pub others : (frame : ℕ) → slice_get old frame ≢ Some (Some owner) → (slice_get new frame ≡ slice_get old frame) × (slice_get after frame ≡ slice_get before frame)
  pub above : (frame : ℕ) → n ≤ frame → (slice_get new frame ≡ slice_get old frame) × (slice_get after frame ≡ slice_get before frame)

pub GivesBackBelow-none : (owner : Owner) (owners : List (Option Owner)) (memory : List (List ℕ)) → GivesBackBelow 0 owner owners owners memory memory
GivesBackBelow-none owner owners memory = record {
  size = refl;
  memory_size = refl;
  own = λ frame below. absurd (omega arith);
  others = λ frame other. (refl, refl);
  above = λ frame over. (refl, refl);
}

-- one item is set
get_set_same : {X : Type 0} (xs : List X) (i : ℕ) (x : X) → i < length xs → slice_get (slice_set xs i x) i ≡ Some x
get_set_same [] i x within = absurd (omega arith)
get_set_same (y ∷ xs) zero x within = refl
get_set_same (y ∷ xs) (suc i) x within = get_set_same xs i x (omega arith)

get_set_other : {X : Type 0} (xs : List X) (i k : ℕ) (x : X) → k ≢ i → slice_get (slice_set xs i x) k ≡ slice_get xs k
get_set_other [] i k x other = refl
get_set_other (y ∷ xs) zero zero x other = absurd (other refl)
get_set_other (y ∷ xs) zero (suc k) x other = refl
get_set_other (y ∷ xs) (suc i) zero x other = refl
get_set_other (y ∷ xs) (suc i) (suc k) x other = get_set_other xs i k x (λ same. other (ap suc same))

module _ (n : ℕ) (owner : Owner) (old now : List (Option Owner)) (before during : List (List ℕ)) (was : GivesBackBelow n owner old now before during) where
  -- the next frame is the owner's
  pub GivesBackBelow-own : n < length old → n < length before → slice_get now n ≡ Some (Some owner)
      → GivesBackBelow (n + 1) owner old (slice_set now n None) before (slice_set during n zeroed)
  GivesBackBelow-own within inside is = record {
    size = length-set now n None ∙ was.size;
    memory_size = length-set during n zeroed ∙ was.memory_size;
    own = λ frame below at. by frame below at (cases_eq frame n);
    others = λ frame other.
        let apart : frame ≢ n = λ same. other (ap (slice_get old) same ∙ sym (was.above n (omega arith)).0 ∙ is) in
        (get_set_other now n frame None apart ∙ (was.others frame other).0, get_set_other during n frame zeroed apart ∙ (was.others frame other).1);
    above = λ frame over.
        let apart : frame ≢ n = λ same. absurd (omega arith) in
        (get_set_other now n frame None apart ∙ (was.above frame (omega arith)).0, get_set_other during n frame zeroed apart ∙ (was.above frame (omega arith)).1);
  }
    where
      by : (frame : ℕ) → frame < n + 1 → slice_get old frame ≡ Some (Some owner) → (frame ≡ n) ⊎ (frame ≢ n)
          → (slice_get (slice_set now n None) frame ≡ Some None) × (slice_get (slice_set during n zeroed) frame ≡ Some zeroed)
      by frame below at (inl same) =
          let size = was.size in
          let memory_size = was.memory_size in
          (ap (slice_get (slice_set now n None)) same ∙ get_set_same now n None (omega arith), ap (slice_get (slice_set during n zeroed)) same ∙ get_set_same during n zeroed (omega arith))
      by frame below at (inr apart) =
          let own = was.own frame (omega (arith, apart)) at in
          (get_set_other now n frame None apart ∙ own.0, get_set_other during n frame zeroed apart ∙ own.1)

  -- the next frame isn't
  pub GivesBackBelow-other : (slice_get now n ≡ Some (Some owner) → ⊥) → GivesBackBelow (n + 1) owner old now before during
  GivesBackBelow-other other = record {
    size = was.size;
    memory_size = was.memory_size;
    own = λ frame below at. by frame below at (cases_eq frame n);
    others = was.others;
    above = λ frame over. was.above frame (omega arith);
  }
    where
      by : (frame : ℕ) → frame < n + 1 → slice_get old frame ≡ Some (Some owner) → (frame ≡ n) ⊎ (frame ≢ n)
          → (slice_get now frame ≡ Some None) × (slice_get during frame ≡ Some zeroed)
      by frame below at (inl same) = absurd (other ((was.above n (omega arith)).0 ∙ ap (slice_get old) (sym same) ∙ at))
      by frame below at (inr apart) = was.own frame (omega (arith, apart)) at

-- once each was looked at, all are given back
pub GivesBack-all : (n : ℕ) (owner : Owner) (old new : List (Option Owner)) (before after : List (List ℕ)) → length old ≤ n → GivesBackBelow n owner old new before after → GivesBack owner old new before after
GivesBack-all n owner old new before after all is = record {
  size = is.size;
  memory_size = is.memory_size;
  own = λ frame at. is.own frame (within frame at) at;
  others = is.others;
}
  where
    there : {X : Type 0} (xs : List X) (k : ℕ) (x : X) → slice_get xs k ≡ Some x → k < length xs
    there [] k x at = cc
    there (y ∷ xs) zero x at = omega arith
    there (y ∷ xs) (suc k) x at = omega (arith, there xs k x at)

    within : (frame : ℕ) → slice_get old frame ≡ Some (Some owner) → frame < n
    within frame at = omega (arith, there old frame (Some owner) at)
