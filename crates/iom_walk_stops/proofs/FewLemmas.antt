-- How many loads the walks of stages make at most.
use Rattle.std.proofs.Common.{ℕ, ◌*◌, ◌+◌, refl}
use Rattle.iom_base.specs.Sizes.{levels_of}
use Rattle.iom_base.specs.declared.access.AccessKind.{AccessKind}
use Rattle.iom_stepped_walk.proofs.FinishLemmas.{few, few_levels, few_loads}
use Rattle.iom_walk_loads.proofs.BoundLemmas.{walks_end}
use Rattle.iom_walk_loads.specs.Loads.{EndsWithin}
use Rattle.iom_walk_loads.specs.Tables.{first_walk, second_walk, both_walk}
use Rattle.iom_walk_stops.specs.Stages.{walk_of}
use Rattle.iom_walk_stops.specs.declared.stages.Stages.{Stages}
use Rattle.iom_walk_stops.specs.declared.stages.Stages.TheVariants.{First, Second, Both}

pub stages_end : (frames : ℕ) (stages : Stages) (address : ℕ) (kind : AccessKind) → EndsWithin 24 (walk_of frames stages address kind)
stages_end frames (First size root) address kind =
    let walk = first_walk frames (levels_of size) root.number address kind in
    few walk walk (levels_of size) (few_levels size) ((walks_end frames (levels_of size) 0 root.number 0 address kind).0) refl
stages_end frames (Second size root) address kind =
    let walk = second_walk frames (levels_of size) root.number address kind in
    few walk walk (levels_of size) (few_levels size) ((walks_end frames 0 (levels_of size) 0 root.number address kind).1) refl
stages_end frames (Both first_size first second_size second) address kind =
    let walk = both_walk frames (levels_of first_size) (levels_of second_size) first.number second.number address kind in
    few walk walk (levels_of first_size * (levels_of second_size + 1) + levels_of second_size) (few_loads first_size second_size)
    ((walks_end frames (levels_of first_size) (levels_of second_size) first.number second.number address kind).2) refl
