-- All loads that remain, made of one memory.
use Rattle.std.proofs.Common.{◌≡◌, ℕ, zero, suc, ◌+◌, ◌-◌, ◌*◌, ◌<◌, ◌≤◌, List, length, ◌↔◌, Ok, Err, sym, ap, ◌∙◌, subst, arith}
use Rattle.iom_base.specs.Sizes.{levels_of}
use Rattle.iom_base.specs.declared.size.Size.{Size}
use Rattle.iom_base.specs.declared.size.Size.TheVariants.{Sv39, Sv48}
use Rattle.iom_walk_loads.proofs.LoadLemmas.{after_within, made_load, within_le}
use Rattle.iom_stage_walk.specs.declared.walked.Walked.{Walked}
use Rattle.iom_stage_walk.specs.declared.walked.WalkFault.{WalkFault}
use Rattle.iom_walk_loads.specs.Directory.{directory_walk}
use Rattle.iom_walk_loads.specs.Laws.{IsWhole}
use Rattle.iom_walk_loads.specs.Loads.{EndsWithin, Walk, after_load, made_from}
use Rattle.iom_stepped_walk.specs.Directories.{IsOneLoadOf, directory_rest, still_locating}
use Rattle.iom_stepped_walk.specs.Positions.{IsOneLoad, remains, rest_of}
use Rattle.iom_stepped_walk.specs.Steps.{TableAnswer}
use Rattle.iom_stepped_walk.specs.declared.directory.DirectoryWalk.{DirectoryWalk}
use Rattle.iom_stepped_walk.specs.declared.directory.Locating.{Locating}
use Rattle.iom_stepped_walk.specs.declared.tables.Progress.{Progress}
use Rattle.iom_stepped_walk.specs.declared.tables.TableWalk.{TableWalk}
use Rattle.iom_stepped_walk.specs.declared.tables.TableWalk.TheVariants.{InFirstStage, InSecondStage, InGuestTable, ToGuestEntry, ToGuestPage}

-- of a walk that makes so many loads at most, one load more leaves one less
within_next : {A : Type 0} (n : ℕ) (m : List (List ℕ)) (walk rest : Walk A) (k : ℕ) → k < n → rest ≡ after_load m walk → EndsWithin (n - k) walk → EndsWithin (n - (k + 1)) rest
within_next n m walk rest k small is within =
    let one_less : n - k ≡ suc (n - (k + 1)) = omega (arith, small) in
    subst (EndsWithin (n - (k + 1))) (sym is) (after_within (n - (k + 1)) m walk (subst (λ n. EndsWithin n walk) one_less within))

pub table_next : (m : List (List ℕ)) (walk : TableWalk) (progress : Progress) → IsOneLoad m walk progress
    → made_from m (remains (length m) progress) ≡ made_from m (rest_of (length m) walk)
table_next m walk progress one = ap (made_from m) one ∙ made_load m (rest_of (length m) walk)

pub table_within : (m : List (List ℕ)) (walk : TableWalk) (progress : Progress) (k : ℕ) → k < 24 → IsOneLoad m walk progress
    → EndsWithin (24 - k) (rest_of (length m) walk) → EndsWithin (24 - (k + 1)) (remains (length m) progress)
table_within m walk progress k small one within = within_next 24 m (rest_of (length m) walk) (remains (length m) progress) k small one within

-- a walk that stands somewhere has a load to make
pub table_loads : (frames : ℕ) (walk : TableWalk) → EndsWithin 0 (rest_of frames walk) → ⊥
table_loads frames (InFirstStage asked place) within = within
table_loads frames (InSecondStage asked place) within = within
table_loads frames (ToGuestEntry both entry place) within = within
table_loads frames (InGuestTable both entry frame) within = within
table_loads frames (ToGuestPage both page place) within = within

pub directory_next : (m : List (List ℕ)) (walk : DirectoryWalk) (locating : Locating) → IsOneLoadOf m walk locating
    → made_from m (still_locating locating) ≡ made_from m (directory_rest walk)
directory_next m walk locating one = ap (made_from m) one ∙ made_load m (directory_rest walk)

pub directory_within : (m : List (List ℕ)) (walk : DirectoryWalk) (locating : Locating) (k : ℕ) → k < 3 → IsOneLoadOf m walk locating
    → EndsWithin (3 - k) (directory_rest walk) → EndsWithin (3 - (k + 1)) (still_locating locating)
directory_within m walk locating k small one within = within_next 3 m (directory_rest walk) (still_locating locating) k small one within

-- with so many levels in each stage
pub few_loads : (first second : Size) → levels_of first * (levels_of second + 1) + levels_of second ≤ 24
few_loads Sv39 Sv39 = omega arith
few_loads Sv39 Sv48 = omega arith
few_loads Sv48 Sv39 = omega arith
few_loads Sv48 Sv48 = omega arith

-- a walk that is this one makes as few loads
pub few : (walk whole : Walk TableAnswer) (n : ℕ) → n ≤ 24 → EndsWithin n whole → walk ≡ whole → EndsWithin 24 walk
few walk whole n le within is = subst (EndsWithin 24) (sym is) (within_le n 24 whole le within)

-- and made from one memory it answers what the whole one does
pub answers : (m : List (List ℕ)) (walk whole : Walk TableAnswer) (answer : TableAnswer) (Reaches : Walked → Type 0) (Stops : WalkFault → Type 0)
    → answer ≡ made_from m walk → walk ≡ whole → IsWhole whole m Reaches Stops
    → ((walked : Walked) → (answer ≡ Ok walked) ↔ Reaches walked) × ((fault : WalkFault) → (answer ≡ Err fault) ↔ Stops fault)
answers m walk whole answer Reaches Stops made is is_whole =
    subst (λ r. ((walked : Walked) → (r ≡ Ok walked) ↔ Reaches walked) × ((fault : WalkFault) → (r ≡ Err fault) ↔ Stops fault)) (sym (made ∙ ap (made_from m) is)) is_whole

-- one stage has as few levels
pub few_levels : (size : Size) → levels_of size ≤ 24
few_levels Sv39 = omega arith
few_levels Sv48 = omega arith

-- once all loads are made a walk stands nowhere
pub table_left : (m : List (List ℕ)) (walk : TableWalk) (k : ℕ) → 24 ≤ k → EndsWithin (24 - k) (rest_of (length m) walk) → ⊥
table_left m walk k all within =
    let none : 24 - k ≡ 0 = omega (arith, all) in
    table_loads (length m) walk (subst (λ n. EndsWithin n (rest_of (length m) walk)) none within)

directory_loads : (level page id : ℕ) → EndsWithin 0 (directory_walk level page id) → ⊥
directory_loads zero page id within = within
directory_loads (suc level) page id within = within

pub directory_left : (m : List (List ℕ)) (walk : DirectoryWalk) (k : ℕ) → 3 ≤ k → EndsWithin (3 - k) (directory_rest walk) → ⊥
directory_left m walk k all within =
    let none : 3 - k ≡ 0 = omega (arith, all) in
    directory_loads walk.level walk.page.number walk.id (subst (λ n. EndsWithin n (directory_rest walk)) none within)
