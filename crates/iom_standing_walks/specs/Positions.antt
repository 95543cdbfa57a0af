-- Where a walk through both stages stands between two loads, as plain values (RISC-V Privileged Architecture, section 15.5).
use Rattle.std.specs.Prelude.{◌≡◌, ℕ, ◌⊎◌, List, [], ◌∷◌, ◌++◌, Result}
use Rattle.iom_base.specs.declared.access.AccessKind.TheVariants.{Read}
use Rattle.iom_base.specs.declared.rights.Rights.{Rights}
use Rattle.iom_stage_walk.specs.declared.walked.Walked.{Walked}
use Rattle.iom_stage_walk.specs.declared.walked.WalkFault.{WalkFault}
use Rattle.iom_walk_loads.specs.Loads.{Walk, Ends, after_load}
use Rattle.iom_walk_loads.specs.Tables.{lead_rest, InBoth, guest_down, guest_load, reached, unreached, unread}

-- In both stages. The indices follow from an address and from how many levels are done.
pub data Position : Type 0 where
  -- in a table of the second stage, with these indices left, on the way to the entry at an index of a guest's table, below which these indices are left
  ToEntry : (loaded : List ℕ) (guest i : ℕ) (below : List ℕ) (table : ℕ) (left : List ℕ) → Position
  -- at that entry, which lies in this frame
  AtEntry : (loaded : List ℕ) (guest i : ℕ) (below : List ℕ) (frame : ℕ) → Position
  -- in a table of the second stage, on the way to the page that the guest's tables gave, with the right that they gave
  ToPage : (loaded : List ℕ) (page : ℕ) (given : Rights) (level : ℕ) (table : ℕ) (left : List ℕ) → Position

-- what remains of a walk that stands there
abbrev pub rest_of : InBoth → Position → Walk (Result Walked WalkFault)
rest_of w (ToEntry loaded guest i below table left) =
    lead_rest w.frames Read w.kind (λ frame rights level. guest_load w loaded guest i below (λ next. guest_down w (loaded ++ frame ∷ []) next below) frame) (unread w guest i) table left
rest_of w (AtEntry loaded guest i below frame) = guest_load w loaded guest i below (λ next. guest_down w (loaded ++ frame ∷ []) next below) frame
rest_of w (ToPage loaded page given level table left) =
    lead_rest w.frames w.kind w.kind (reached w loaded given level) (unreached w page) table left

-- it stands somewhere, or has ended
abbrev pub StandsOrEnds : InBoth → Walk (Result Walked WalkFault) → Type 0
StandsOrEnds w walk =
    ((position : Position) × (walk ≡ rest_of w position)) ⊎ ((answer : Result Walked WalkFault) × (walk ≡ Ends answer))

-- IN BOTH STAGES a walk stands in a position or has ended, at its beginning and after each load
abbrev pub PositionsAreAll : Type 0
PositionsAreAll = (w : InBoth) → ((loaded : List ℕ) (table : ℕ) (is : List ℕ) → StandsOrEnds w (guest_down w loaded table is))
    × ((memory : List (List ℕ)) (position : Position) → StandsOrEnds w (after_load memory (rest_of w position)))
