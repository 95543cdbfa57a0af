-- Places that are filled from the first on tell what fills them.
use Rattle.std.proofs.Common.{◌≡◌, ◌+◌, ◌-◌, ◌<◌, ℕ, zero, suc, List, [], ◌∷◌, ◌++◌, length, replicate, Option, None, Some, slice_set, refl, sym, ap, ◌∙◌, arith, length-append}
use Rattle.iom_stage_walk.specs.Both.{padded}
use Rattle.iom_stage_walk.proofs.Padded.{padded_next}
use Rattle.iom_stepped_walk.specs.Filled.{filled_places}

none_told : (n : ℕ) → filled_places (replicate n None) ≡ []
none_told zero = refl
none_told (suc n) = none_told n

pub told_padded : (n : ℕ) (frames : List ℕ) → filled_places (padded n frames) ≡ frames
told_padded n [] = none_told n
told_padded n (frame ∷ frames) = ap (λ fs. frame ∷ fs) (told_padded (n - 1) frames)

-- one more
module _ (places : List (Option ℕ)) (k frame : ℕ) (counted : length (filled_places places) ≡ k) (filled : places ≡ padded 4 (filled_places places)) (small : k < 4) where
  next_filled : slice_set places k (Some frame) ≡ padded 4 (filled_places places ++ frame ∷ [])
  next_filled = padded_next 4 k (filled_places places) frame places counted small filled

  pub next_told : filled_places (slice_set places k (Some frame)) ≡ filled_places places ++ frame ∷ []
  next_told = ap filled_places next_filled ∙ told_padded 4 (filled_places places ++ frame ∷ [])

  pub next_counted : length (filled_places (slice_set places k (Some frame))) ≡ k + 1
  next_counted = omega (arith, ap length next_told, length-append (filled_places places) (frame ∷ []), counted)

  pub next_is_padded : slice_set places k (Some frame) ≡ padded 4 (filled_places (slice_set places k (Some frame)))
  next_is_padded = next_filled ∙ ap (padded 4) (sym next_told)
