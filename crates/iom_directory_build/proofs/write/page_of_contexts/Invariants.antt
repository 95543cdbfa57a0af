-- What holds above a level: the page in hand is the one of the level on the path.
use Rattle.std.proofs.Common.{◌≡◌, ◌<◌, ◌≤◌, ◌-◌, ◌^◌, Some}
use Rattle.iom_directory_build.specs.Pages.{root_level, page_at}
use Rattle.iom_directory_build.proofs.write.page_of_contexts.Given as goal

abbrev pub invariant-loop-level : goal.invariant-loop-level
invariant-loop-level g l =
    record {
      range : l.page < 2 ^ 44;
      low : 1 ≤ l.level;
      at : page_at (g.B.Bytes.frames_of l.memory) (root_level l.levels) l.root (l.level - 1) l.id ≡ Some l.page;
    }
