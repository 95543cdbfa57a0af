-- Frames that were taken, one after another.
use Rattle.std.proofs.Common.{◌≡◌, ◌+◌, ◌<◌, ℕ, zero, suc, Bool, true, false, List, [], ◌∷◌, ◌++◌, codes, length, if◌then◌else◌, refl, sym, ap, ◌∙◌, append-nil, arith, add-one, length-append}
use Rattle.std.specs.Fmt.{decimal}
use Rattle.std.proofs.lemmas.List.{flat_map_more}
use Rattle.iom_trace_lines.specs.TraceLines.{frames_text}
use Rattle.iom_tell.specs.Told.{taken_below}

-- none is below 0
pub taken_none : (f : ℕ → Bool) → taken_below f 0 ≡ []
unfolding taken_below
taken_none f = refl

-- the next frame, by the test
pub taken_next : (f : ℕ → Bool) (frame : ℕ) → taken_below f (suc frame) ≡ taken_below f frame ++ (if f frame then frame ∷ [] else [])
unfolding taken_below
taken_next f frame = refl

-- one that is taken stands behind the others
pub taken_yes : (f : ℕ → Bool) (frame : ℕ) → f frame ≡ true → taken_below f (frame + 1) ≡ taken_below f frame ++ frame ∷ []
taken_yes f frame test =
    ap (taken_below f) (add-one frame) ∙ taken_next f frame ∙ ap (λ (b : Bool). taken_below f frame ++ (if b then frame ∷ [] else [])) test

-- one that isn't changes nothing
pub taken_no : (f : ℕ → Bool) (frame : ℕ) → f frame ≡ false → taken_below f (frame + 1) ≡ taken_below f frame
taken_no f frame test =
    ap (taken_below f) (add-one frame) ∙ taken_next f frame ∙ ap (λ (b : Bool). taken_below f frame ++ (if b then frame ∷ [] else [])) test ∙ append-nil (taken_below f frame)

-- tests that agree on each frame below the limit take the same
pub same_taken : (f g : ℕ → Bool) (limit : ℕ) → ((frame : ℕ) → frame < limit → f frame ≡ g frame) → taken_below f limit ≡ taken_below g limit
same_taken f g zero same = taken_none f ∙ sym (taken_none g)
same_taken f g (suc frame) same =
    taken_next f frame
    ∙ ap (λ (b : Bool). taken_below f frame ++ (if b then frame ∷ [] else [])) (same frame (omega arith))
    ∙ ap (λ (l : List ℕ). l ++ (if g frame then frame ∷ [] else [])) (same_taken f g frame (λ k lt. same k (omega (arith, lt))))
    ∙ sym (taken_next g frame)

-- one more is counted
pub count_more : (f : ℕ → Bool) (frame count next : ℕ) → count ≡ length (taken_below f frame) → f frame ≡ true → next ≡ count + 1 → next ≡ length (taken_below f (frame + 1))
count_more f frame count next is test more =
    more ∙ ap (λ k. k + 1) is ∙ sym (ap length (taken_yes f frame test) ∙ length-append (taken_below f frame) (frame ∷ []))

pub count_same : (f : ℕ → Bool) (frame count next : ℕ) → count ≡ length (taken_below f frame) → f frame ≡ false → next ≡ count → next ≡ length (taken_below f (frame + 1))
count_same f frame count next is test same = same ∙ is ∙ sym (ap length (taken_no f frame test))

-- one more is written
pub frames_more : (f : ℕ → Bool) (frame number : ℕ) (start now new : List ℕ) → now ≡ start ++ frames_text (taken_below f frame) → f frame ≡ true → number ≡ frame
    → new ≡ now ++ (codes " " ++ decimal number) → new ≡ start ++ frames_text (taken_below f (frame + 1))
frames_more f frame number start now new is test same wrote =
    wrote ∙ ap (λ n. now ++ (codes " " ++ decimal n)) same ∙ ap (λ l. l ++ (codes " " ++ decimal frame)) is ∙ flat_map_more (λ k. codes " " ++ decimal k) start (taken_below f frame) frame
    ∙ ap (λ l. start ++ frames_text l) (sym (taken_yes f frame test))

pub frames_same : (f : ℕ → Bool) (frame : ℕ) (start now new : List ℕ) → now ≡ start ++ frames_text (taken_below f frame) → f frame ≡ false → new ≡ now
    → new ≡ start ++ frames_text (taken_below f (frame + 1))
frames_same f frame start now new is test same = same ∙ is ∙ ap (λ l. start ++ frames_text l) (sym (taken_no f frame test))
