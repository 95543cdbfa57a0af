-- What is left where a spare row becomes that of a device.
use Rattle.std.proofs.Common.{◌≡◌, ◌+◌, ◌∙◌, ◌++◌, ℕ, false, List, [], ◌∷◌, length, Option, Some, None, is_some, MatchOption, Result, Ok, Err, is_ok, sym, ap, arith, subst, length-append, if◌then◌else◌}
use Rattle.iom_walks.specs.Invariant.{AreWalks}
use Rattle.iom_walks.specs.Rows.{RowStandsAt}
use Rattle.iom_walks.specs.Walks.{WalkRow, new_row, row_of}
use Rattle.iom_walks.proofs.Kept.{sound_added}

pub none_found : (rows : List WalkRow) (device : ℕ) (found : Option ℕ) → false ≡ is_some found → MatchOption found (row_of rows device ≡ None) (RowStandsAt rows device) → row_of rows device ≡ None
none_found rows device None is found = found
none_found rows device (Some place) is found = cc

pub pushed_items : {U E : Type 0} (xs ys new : List WalkRow) (r : Result U E) (u : U) → r ≡ Ok u → new ≡ (if is_ok r then xs else ys) → new ≡ xs
pushed_items xs ys new (Ok v) u e is = is
pushed_items xs ys new (Err x) u e is = cc

pub added : (rows new spare popped : List WalkRow) (device : ℕ) (own last : WalkRow) → new ≡ rows ++ own ∷ [] → own ≡ new_row device → spare ≡ popped ++ last ∷ []
    → length rows + length spare ≡ 16 → row_of rows device ≡ None → AreWalks rows → (length new + length popped ≡ 16) × AreWalks new
added rows new spare popped device own last pushed is popped_is all none invariants =
    let long : length spare ≡ length popped + 1 = ap (λ (xs : List WalkRow). length xs) popped_is ∙ length-append popped (last ∷ []) in
    let more : length new ≡ length rows + 1 = ap (λ (xs : List WalkRow). length xs) pushed ∙ length-append rows (own ∷ []) in
    let now : rows ++ new_row device ∷ [] ≡ new = sym (pushed ∙ ap (λ (r : WalkRow). rows ++ r ∷ []) is) in
    (omega (arith, long, more, all), subst AreWalks now (sound_added rows device invariants none (omega (arith, long, all))))
