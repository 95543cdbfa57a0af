-- The last load of a walk.
use Rattle.std.proofs.Common.{◌≡◌, ℕ, zero, suc, ◌+◌, List, replicate, Some, refl, sym, ap, ◌∙◌, arith}
use Rattle.iom_walk_loads.proofs.LoadLemmas.{loads_are_of_the_whole, made_load}
use Rattle.iom_walk_loads.specs.Loads.{Ends, ReadsContext, ReadsEntry, Walk, after_load, after_loads, made_from}
use Rattle.iom_stepped_walk.specs.NextLoads.{next_address}
use Rattle.iom_walk_stops.specs.Loads.{last_load, later_or}

-- one load more
pub load_more : {A : Type 0} (memory : List (List ℕ)) (made : ℕ) (whole : Walk A)
    → after_loads (replicate (suc made) memory) whole ≡ after_load memory (after_loads (replicate made memory) whole)
load_more memory zero whole = refl
load_more memory (suc made) whole = load_more memory made (after_load memory whole)

-- the load that ends a walk is its last
last_ends : {A : Type 0} (memory : List (List ℕ)) (whole : Walk A) (address : ℕ) (answer : A) → next_address whole ≡ Some address → after_load memory whole ≡ Ends answer
    → last_load memory whole ≡ Some address
last_ends memory (Ends answer') address answer next ends = next
last_ends memory (ReadsEntry a rest) address answer next ends = ap (λ w. later_or a (last_load memory w)) ends ∙ next
last_ends memory (ReadsContext a rest) address answer next ends = ap (λ w. later_or a (last_load memory w)) ends ∙ next

-- and that of the whole, whatever loads were made before it
last_goes : {A : Type 0} (memory : List (List ℕ)) (whole : Walk A) (address : ℕ) → last_load memory (after_load memory whole) ≡ Some address
    → last_load memory whole ≡ Some address
last_goes memory (Ends answer) address last = last
last_goes memory (ReadsEntry a rest) address last = ap (later_or a) last
last_goes memory (ReadsContext a rest) address last = ap (later_or a) last

pub last_is : {A : Type 0} (memory : List (List ℕ)) (made : ℕ) (whole rest : Walk A) (address : ℕ) (answer : A) → rest ≡ after_loads (replicate made memory) whole
    → next_address rest ≡ Some address → after_load memory rest ≡ Ends answer → last_load memory whole ≡ Some address
last_is memory zero whole rest address answer is next ends =
    last_ends memory whole address answer (ap next_address (sym is) ∙ next) (ap (after_load memory) (sym is) ∙ ends)
last_is memory (suc made) whole rest address answer is next ends =
    last_goes memory whole address (last_is memory made (after_load memory whole) rest address answer is next ends)

-- and its answer is the whole walk's
pub made_is : {A : Type 0} (memory : List (List ℕ)) (made : ℕ) (whole rest : Walk A) (answer : A) → rest ≡ after_loads (replicate made memory) whole
    → after_load memory rest ≡ Ends answer → made_from memory whole ≡ answer
made_is memory made whole rest answer is ends =
    sym (loads_are_of_the_whole memory made whole) ∙ ap (made_from memory) (sym is) ∙ sym (made_load memory rest) ∙ ap (made_from memory) ends

-- what one load more leaves
pub stands_next : {A : Type 0} (memory : List (List ℕ)) (made : ℕ) (whole rest next : Walk A) → rest ≡ after_loads (replicate made memory) whole
    → next ≡ after_load memory rest → next ≡ after_loads (replicate (made + 1) memory) whole
stands_next memory made whole rest next stands one =
    let more : suc made ≡ made + 1 = omega arith in
    one ∙ ap (after_load memory) stands ∙ sym (load_more memory made whole) ∙ ap (λ n. after_loads (replicate n memory) whole) more
