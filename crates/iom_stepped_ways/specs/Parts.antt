-- What remains of a walk of tables, as walks of which a scene of `iom_reach` speaks: through which tables it comes to its page.
use Rattle.std.specs.Prelude.{◌≡◌, ℕ, List, [], ◌∷◌, ◌++◌, map, Result}
use Rattle.iom_base.specs.declared.access.AccessKind.{AccessKind}
use Rattle.iom_base.specs.declared.access.AccessKind.TheVariants.{Read}
use Rattle.iom_base.specs.declared.rights.Rights.{Rights}
use Rattle.iom_stage_walk.specs.Second.{second_widths}
use Rattle.iom_stage_walk.specs.declared.walked.Walked.{Walked}
use Rattle.iom_stage_walk.specs.declared.walked.WalkFault.{WalkFault}
use Rattle.iom_walk_loads.specs.Loads.{Walk}
use Rattle.iom_walk_loads.specs.Tables.{InBoth, first_rest, second_rest, lead_rest, guest_load, guest_down, reached, unreached, unread}
use Rattle.iom_reach.specs.Memory.{WalkStep}
use Rattle.iom_hardware_ways.specs.Formats.{step_at, steps_along}

-- what remains of a walk of tables
abbrev pub Rest : Type 0
Rest = Walk (Result Walked WalkFault)

-- a table, and the steps that are left there, by the page
pub record Part : Type 0 where
  pub table : ℕ
  pub steps_to : ℕ → List WalkStep

-- a walk that has this table in hand, and these indices left
abbrev pub part_along : ℕ → List ℕ → Part
part_along table left = record { table = table; steps_to = λ page. map step_at left }

-- a walk of the second stage from its root, to any page
abbrev pub part_from_root : InBoth → Part
part_from_root w = record { table = w.second; steps_to = λ page. steps_along (second_widths w.levels') page }

-- What remains of a walk for an access of this kind, in a memory of so many frames, is one of these parts, and a load from one of these frames. In both stages
-- the parts are those of the second: the one in hand, and as long as the guest's tables may name any page, all that begin at the second stage's root. The
-- entries are the frames of a guest's tables from which it loads next: the second stage has led it there already.
pub data IsWalkOf (frames : ℕ) (kind : AccessKind) (rest : Rest) (parts : List Part) (entries : List ℕ) : Type 0 where
  -- in a table of a first stage alone
  InFirstStage : (table : ℕ) (left : List ℕ) → rest ≡ first_rest frames kind table left → parts ≡ part_along table left ∷ [] → entries ≡ []
      → IsWalkOf frames kind rest parts entries
  -- in one of a second alone
  InSecondStage : (address table : ℕ) (left : List ℕ) → rest ≡ second_rest frames kind address table left → parts ≡ part_along table left ∷ [] → entries ≡ []
      → IsWalkOf frames kind rest parts entries
  -- in a table of the second stage, on the way to the entry at an index of a guest's table
  ToGuestEntry : (w : InBoth) (loaded : List ℕ) (guest i : ℕ) (below : List ℕ) (table : ℕ) (left : List ℕ) → w.kind ≡ kind
      → rest ≡ lead_rest w.frames Read w.kind (λ frame rights level. guest_load w loaded guest i below (λ next. guest_down w (loaded ++ frame ∷ []) next below) frame)
      (unread w guest i) table left
      → parts ≡ part_along table left ∷ part_from_root w ∷ [] → entries ≡ [] → IsWalkOf frames kind rest parts entries
  -- at that entry, which lies in this frame: it loads from there
  InGuestTable : (w : InBoth) (loaded : List ℕ) (guest i : ℕ) (below : List ℕ) (frame : ℕ) → w.kind ≡ kind
      → rest ≡ guest_load w loaded guest i below (λ next. guest_down w (loaded ++ frame ∷ []) next below) frame
      → parts ≡ part_from_root w ∷ [] → entries ≡ frame ∷ [] → IsWalkOf frames kind rest parts entries
  -- in a table of the second stage, on the way to the page that the guest's tables gave
  ToGuestPage : (w : InBoth) (loaded : List ℕ) (page : ℕ) (given : Rights) (level table : ℕ) (left : List ℕ) → w.kind ≡ kind
      → rest ≡ lead_rest w.frames w.kind w.kind (reached w loaded given level) (unreached w page) table left
      → parts ≡ part_along table left ∷ [] → entries ≡ [] → IsWalkOf frames kind rest parts entries
