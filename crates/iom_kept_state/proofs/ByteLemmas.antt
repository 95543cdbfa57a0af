-- Bytes of frames: what is written.
use Rattle.std.proofs.Common.{◌≡◌, ◌∙◌, ℕ, ◌+◌, ◌<◌, ◌≤◌, List, [], ◌∷◌, ◌++◌, length, take, drop, refl, sym, ap, subst, length-append, arith}
use Rattle.std.specs.Prelude.{replicate}
use Rattle.std.proofs.lemmas.List.{length-replicate, length-take, length-drop}
use Rattle.iom_base.specs.Bytes.{with_bytes}
use Rattle.iom_base.specs.Sizes.{page_size}
use Rattle.iom_kept_state.specs.Frames.{bytes_kept}

-- bytes stand for themselves, where there are some
pub some_kept : (bytes : List ℕ) → 0 < length bytes → bytes_kept bytes ≡ bytes
some_kept [] none = absurd (omega (arith, none))
some_kept (first ∷ rest) some = refl

kept_is_some : (bytes : List ℕ) → 0 < length (bytes_kept bytes)
kept_is_some [] =
    let some : 0 < page_size = omega arith in
    subst (λ (n : ℕ). 0 < n) (sym (length-replicate {A = ℕ} page_size 0)) some
kept_is_some (first ∷ rest) = omega arith

as_many : (bytes : List ℕ) (offset : ℕ) (replacement : List ℕ) → length bytes ≤ length (with_bytes bytes offset replacement)
as_many bytes offset replacement =
    let later = drop (offset + length replacement) bytes in
    omega (
      arith,
      length-append (take offset bytes ++ replacement) later,
      length-append (take offset bytes) replacement,
      length-take offset bytes,
      length-drop (offset + length replacement) bytes,
    )

-- the bytes of a frame, once some are replaced
pub replaced_kept : (old filled new replacement : List ℕ) (offset : ℕ) → filled ≡ bytes_kept old → new ≡ with_bytes filled offset replacement
    → bytes_kept new ≡ with_bytes (bytes_kept old) offset replacement
replaced_kept old filled new replacement offset fills is =
    let whole : new ≡ with_bytes (bytes_kept old) offset replacement = is ∙ ap (λ (l : List ℕ). with_bytes l offset replacement) fills in
    let size : length new ≡ length (with_bytes (bytes_kept old) offset replacement) = ap (λ (l : List ℕ). length l) whole in
    some_kept new (omega (arith, size, as_many (bytes_kept old) offset replacement, kept_is_some old)) ∙ whole
