-- What a walk by single loads has in common with a whole one.
use Rattle.std.specs.Prelude.{◌≡◌, ◌↔◌, ℕ, ◌+◌, ◌*◌, List, length, replicate, Result, Ok, Err}
use Rattle.iom_base.specs.declared.access.AccessKind.{AccessKind}
use Rattle.iom_device_dir.specs.Located.{located_context}
use Rattle.iom_registers.specs.declared.directory.DirectoryPointer.{DirectoryPointer}
use Rattle.iom_stage_walk.specs.Paths.{ReachesFirst, StopsFirst}
use Rattle.iom_stage_walk.specs.Second.{ReachesSecond, StopsSecond}
use Rattle.iom_stage_walk.specs.Both.{ReachesBoth, StopsBoth}
use Rattle.iom_stage_walk.specs.declared.walked.Walked.{Walked}
use Rattle.iom_stage_walk.specs.declared.walked.WalkFault.{WalkFault}
use Rattle.iom_walk_loads.specs.Loads.{Walk, Ends, after_loads, made_from, EndsWithin}
use Rattle.iom_walk_loads.specs.Tables.{first_walk, second_walk, both_walk}
use Rattle.iom_walk_loads.specs.Directory.{locating}

-- the walk's answer is the same, however many of its loads are made already, where all are made from one memory
abbrev pub LoadsAreOfTheWhole : Type 0 → Type 0
LoadsAreOfTheWhole A = (memory : List (List ℕ)) (made : ℕ) (walk : Walk A) → made_from memory (after_loads (replicate made memory) walk) ≡ made_from memory walk

-- a walk that makes so many loads at most has ended once they are made, from whatever memories
abbrev pub BoundedWalksEnd : Type 0 → Type 0
BoundedWalksEnd A = (memories : List (List (List ℕ))) (walk : Walk A) → EndsWithin (length memories) walk → (answer : A) × (after_loads memories walk ≡ Ends answer)

-- so where they are made from one memory, it has ended with the answer of the whole walk
abbrev pub EnoughLoadsAreTheWhole : Type 0 → Type 0
EnoughLoadsAreTheWhole A =
    (memory : List (List ℕ)) (made : ℕ) (walk : Walk A) → EndsWithin made walk → after_loads (replicate made memory) walk ≡ Ends (made_from memory walk)

-- the walk, made from one memory, answers exactly where the path reaches or stops
abbrev pub IsWhole : Walk (Result Walked WalkFault) → List (List ℕ) → (Walked → Type 0) → (WalkFault → Type 0) → Type 0
IsWhole walk memory Reaches Stops =
    ((walked : Walked) → (made_from memory walk ≡ Ok walked) ↔ Reaches walked) × ((fault : WalkFault) → (made_from memory walk ≡ Err fault) ↔ Stops fault)

-- that of a first stage, as the path of the address
abbrev pub FirstIsWhole : Type 0
FirstIsWhole = (memory : List (List ℕ)) (levels root address : ℕ) (kind : AccessKind)
    → IsWhole (first_walk (length memory) levels root address kind) memory (ReachesFirst levels memory root address kind) (StopsFirst levels memory root address kind)

-- that of a second
abbrev pub SecondIsWhole : Type 0
SecondIsWhole = (memory : List (List ℕ)) (levels root address : ℕ) (kind : AccessKind)
    → IsWhole (second_walk (length memory) levels root address kind) memory (ReachesSecond levels memory root address kind) (StopsSecond levels memory root address kind)

-- that of both
abbrev pub BothIsWhole : Type 0
BothIsWhole = (memory : List (List ℕ)) (levels levels' first second address : ℕ) (kind : AccessKind)
    → IsWhole (both_walk (length memory) levels levels' first second address kind) memory
    (ReachesBoth levels levels' memory first second address kind) (StopsBoth levels levels' memory first second address kind)

-- that of the directory answers what is located
abbrev pub LocatingIsWhole : Type 0
LocatingIsWhole = (memory : List (List ℕ)) (ddtp : DirectoryPointer) (id : ℕ) → made_from memory (locating ddtp id) ≡ located_context memory ddtp id

-- In one stage a walk makes a load a level; in both, for each entry of the guest's one, behind those of the second stage, and then those of the second stage for
-- the page. With four levels in each stage these are 24.
abbrev pub WalksEnd : Type 0
WalksEnd = (frames levels levels' first second address : ℕ) (kind : AccessKind)
    → EndsWithin levels (first_walk frames levels first address kind)
    × EndsWithin levels' (second_walk frames levels' second address kind)
    × EndsWithin (levels * (levels' + 1) + levels') (both_walk frames levels levels' first second address kind)

-- In the directory one a level, of which there are three at most.
abbrev pub LocatingEnds : Type 0
LocatingEnds = (ddtp : DirectoryPointer) (id : ℕ) → EndsWithin 3 (locating ddtp id)
