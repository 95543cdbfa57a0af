-- Walks load by load.
use Rattle.std.proofs.Common.{◌≡◌, ℕ, zero, suc, ◌≤◌, List, [], ◌∷◌, length, refl, ap, ◌∙◌, arith}
use Rattle.iom_walk_loads.specs.Laws.{BoundedWalksEnd, EnoughLoadsAreTheWhole, LoadsAreOfTheWhole}
use Rattle.iom_walk_loads.specs.Loads.{Ends, EndsWithin, ReadsContext, ReadsEntry, Walk, after_load, made_from}

-- it makes no more loads than a higher number
pub within_le : {A : Type 0} (n m : ℕ) (walk : Walk A) → n ≤ m → EndsWithin n walk → EndsWithin m walk
within_le n m (Ends answer) le within = tt
within_le zero m (ReadsEntry address rest) le within = absurd within
within_le zero m (ReadsContext address rest) le within = absurd within
within_le (suc n) zero (ReadsEntry address rest) le within = absurd (omega (arith, le))
within_le (suc n) zero (ReadsContext address rest) le within = absurd (omega (arith, le))
within_le (suc n) (suc m) (ReadsEntry address rest) le within = λ given. within_le n m (rest given) (omega (arith, le)) (within given)
within_le (suc n) (suc m) (ReadsContext address rest) le within = λ given. within_le n m (rest given) (omega (arith, le)) (within given)

pub made_load : {A : Type 0} (memory : List (List ℕ)) (walk : Walk A) → made_from memory (after_load memory walk) ≡ made_from memory walk
made_load memory (Ends answer) = refl
made_load memory (ReadsEntry address rest) = refl
made_load memory (ReadsContext address rest) = refl

pub loads_are_of_the_whole : {A : Type 0} → LoadsAreOfTheWhole A
loads_are_of_the_whole memory zero walk = refl
loads_are_of_the_whole memory (suc made) walk = loads_are_of_the_whole memory made (after_load memory walk) ∙ made_load memory walk

pub after_within : {A : Type 0} (n : ℕ) (memory : List (List ℕ)) (walk : Walk A) → EndsWithin (suc n) walk → EndsWithin n (after_load memory walk)
after_within n memory (Ends answer) within = tt
after_within n memory (ReadsEntry address rest) within = within _
after_within n memory (ReadsContext address rest) within = within _

none_left : {A : Type 0} (walk : Walk A) → EndsWithin 0 walk → (answer : A) × (walk ≡ Ends answer)
none_left (Ends answer) within = (answer, refl)
none_left (ReadsEntry address rest) within = absurd within
none_left (ReadsContext address rest) within = absurd within

pub bounded_walks_end : {A : Type 0} → BoundedWalksEnd A
bounded_walks_end [] walk within = none_left walk within
bounded_walks_end (memory ∷ later) walk within = bounded_walks_end later (after_load memory walk) (after_within (length later) memory walk within)

ended_is_made : {A : Type 0} (memory : List (List ℕ)) (walk : Walk A) → EndsWithin 0 walk → walk ≡ Ends (made_from memory walk)
ended_is_made memory (Ends answer) within = refl
ended_is_made memory (ReadsEntry address rest) within = absurd within
ended_is_made memory (ReadsContext address rest) within = absurd within

pub enough_loads_are_the_whole : {A : Type 0} → EnoughLoadsAreTheWhole A
enough_loads_are_the_whole memory zero walk within = ended_is_made memory walk within
enough_loads_are_the_whole memory (suc made) walk within =
    enough_loads_are_the_whole memory made (after_load memory walk) (after_within made memory walk within) ∙ ap Ends (made_load memory walk)
