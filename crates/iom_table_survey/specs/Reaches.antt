-- What can be reached, by each kind of access.
use Rattle.std.specs.Prelude.{ℕ, List}
use Rattle.iom_base.specs.declared.access.AccessKind.{AccessKind}
use Rattle.iom_base.specs.declared.access.AccessKind.TheVariants.{Read, Write}
use Rattle.iom_table_survey.specs.declared.reach.Reach.{Reach}
use Rattle.iom_table_survey.specs.Rows.{GrowsBy, IsOf}

abbrev pub frames_by : Reach → AccessKind → List ℕ
frames_by reach Read = reach.readable
frames_by reach Write = reach.writable

-- for each kind of access the frames that are so can be reached too, and no other
abbrev pub AddsReach : Reach → Reach → (AccessKind → ℕ → Type 0) → Type 0
AddsReach old new IsNew = (kind : AccessKind) → GrowsBy (frames_by old kind) (frames_by new kind) (IsNew kind)

-- for each kind the frames that are so can be reached, and no other
abbrev pub IsReachOf : Reach → (AccessKind → ℕ → Type 0) → Type 0
IsReachOf reach IsIn = (kind : AccessKind) → IsOf (frames_by reach kind) (IsIn kind)
