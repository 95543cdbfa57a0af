-- Memories that are alike on the frames of a second stage's path have the same path.
use Rattle.std.proofs.Common.{◌/◌, sym}
use Rattle.iom_stage_walk.specs.Entries.{entries}
use Rattle.iom_stage_walk.specs.Paths.{path_of}
use Rattle.iom_stage_walk.specs.Second.{second_widths}
use Rattle.iom_stage_walk.proofs.Alike.{alike_back, alike_frames, alike_through}
use Rattle.iom_stage_walk.proofs.Same.{reaches_second_too, stops_second_too}
use Rattle.iom_stage_walk.proofs.laws.same_path_second.Goals as goal

pub returns : goal.returns
returns c =
    λ levels old new root address same.
    let is = path_of (second_widths levels) (address / 4096) in
    let alike = alike_frames old new root is same.frames in
    let back = alike_back (entries old) (entries new) root is alike in (
      alike_through (entries old) (entries new) root is alike,
      λ kind walked. (
        reaches_second_too levels old new root address same.size alike kind walked,
        reaches_second_too levels new old root address (sym same.size) back kind walked,
      ),
      λ kind fault. (
        stops_second_too levels old new root address same.size alike kind fault,
        stops_second_too levels new old root address (sym same.size) back kind fault,
      ),
    )
