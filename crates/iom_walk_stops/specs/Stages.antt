-- The stages of a context, and the walk of their tables (RISC-V IOMMU specification, section 2.3, "Process to translate an IOVA").
use Rattle.std.specs.Prelude.{ℕ, Option, None, Some}
use Rattle.iom_base.specs.Sizes.{levels_of}
use Rattle.iom_base.specs.declared.access.AccessKind.{AccessKind}
use Rattle.iom_device_dir.specs.declared.stages.FirstStage.{FirstStage}
use Rattle.iom_device_dir.specs.declared.stages.FirstStage.TheVariants.{Bare, Tables}
use Rattle.iom_device_dir.specs.declared.stages.SecondStage.{SecondStage}
use Rattle.iom_device_dir.specs.declared.stages.SecondStage.TheVariants as second
use Rattle.iom_stepped_walk.specs.Steps.{TableAnswer}
use Rattle.iom_walk_loads.specs.Loads.{Walk}
use Rattle.iom_walk_loads.specs.Tables.{first_walk, second_walk, both_walk}
use Rattle.iom_walk_stops.specs.declared.stages.Stages.{Stages}
use Rattle.iom_walk_stops.specs.declared.stages.Stages.TheVariants.{First, Second, Both}
use Rattle.iom_base.specs.declared.ppn.Ppn.{Ppn}
use Rattle.iom_device_dir.specs.declared.values.GuestRoot.{GuestRoot}

-- a second stage's root is at the page of this number
abbrev pub page_of : GuestRoot → Ppn
page_of root = record { number = root.number; in_range = root.in_range }

-- the stages that a context asks for; None where both are Bare
abbrev pub stages_of : FirstStage → SecondStage → Option Stages
stages_of Bare second.Bare = None
stages_of (Tables size root) second.Bare = Some (First size root)
stages_of Bare (second.Tables size root) = Some (Second size (page_of root))
stages_of (Tables first_size first) (second.Tables second_size root) = Some (Both first_size first second_size (page_of root))

-- THE WALK of their tables, in a memory of so many frames
abbrev pub walk_of : ℕ → Stages → ℕ → AccessKind → Walk TableAnswer
walk_of frames (First size root) address kind = first_walk frames (levels_of size) root.number address kind
walk_of frames (Second size root) address kind = second_walk frames (levels_of size) root.number address kind
walk_of frames (Both first_size first second_size second) address kind =
    both_walk frames (levels_of first_size) (levels_of second_size) first.number second.number address kind
