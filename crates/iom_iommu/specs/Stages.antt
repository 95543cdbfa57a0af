-- The two stages of a context as one translation: of which address space, and where a walk of them ends.
use Rattle.std.specs.Prelude.{ℕ, List, Option, None, Some}
use Rattle.iom_base.specs.declared.access.AccessKind.{AccessKind}
use Rattle.iom_base.specs.Sizes.{levels_of}
use Rattle.iom_stage_walk.specs.declared.walked.Walked.{Walked}
use Rattle.iom_stage_walk.specs.declared.walked.WalkFault.{WalkFault}
use Rattle.iom_stage_walk.specs.Paths.{ReachesFirst, StopsFirst}
use Rattle.iom_stage_walk.specs.Second.{ReachesSecond, StopsSecond}
use Rattle.iom_stage_walk.specs.Both.{ReachesBoth, StopsBoth}
use Rattle.iom_device_dir.specs.declared.context.Context.{Context}
use Rattle.iom_device_dir.specs.declared.stages.FirstStage.{FirstStage}
use Rattle.iom_device_dir.specs.declared.stages.FirstStage.TheVariants.{Bare, Tables}
use Rattle.iom_device_dir.specs.declared.stages.SecondStage.{SecondStage}
use Rattle.iom_device_dir.specs.declared.stages.SecondStage.TheVariants as second
use Rattle.iom_tlb.specs.declared.space.Space.{Space}
use Rattle.iom_tlb.specs.declared.space.Space.TheVariants as space

-- the address space that these stages of a context translate; None where both are Bare
abbrev pub space_through : FirstStage → SecondStage → Context → Option Space
space_through Bare second.Bare context = None
space_through (Tables size root) second.Bare context = Some (space.First context.pscid.number)
space_through Bare (second.Tables size root) context = Some (space.Second context.gscid)
space_through (Tables first_size first) (second.Tables second_size second) context = Some (space.Both context.gscid context.pscid.number)

-- their walk reaches this; where both are Bare there is no walk
abbrev pub ReachesThrough : FirstStage → SecondStage → List (List ℕ) → ℕ → AccessKind → Walked → Type 0
ReachesThrough Bare second.Bare memory address kind walked = ⊥
ReachesThrough (Tables size root) second.Bare memory address kind walked = ReachesFirst (levels_of size) memory root.number address kind walked
ReachesThrough Bare (second.Tables size root) memory address kind walked = ReachesSecond (levels_of size) memory root.number address kind walked
ReachesThrough (Tables first_size first) (second.Tables second_size second) memory address kind walked =
    ReachesBoth (levels_of first_size) (levels_of second_size) memory first.number second.number address kind walked

-- it stops with this fault
abbrev pub StopsThrough : FirstStage → SecondStage → List (List ℕ) → ℕ → AccessKind → WalkFault → Type 0
StopsThrough Bare second.Bare memory address kind fault = ⊥
StopsThrough (Tables size root) second.Bare memory address kind fault = StopsFirst (levels_of size) memory root.number address kind fault
StopsThrough Bare (second.Tables size root) memory address kind fault = StopsSecond (levels_of size) memory root.number address kind fault
StopsThrough (Tables first_size first) (second.Tables second_size second) memory address kind fault =
    StopsBoth (levels_of first_size) (levels_of second_size) memory first.number second.number address kind fault
