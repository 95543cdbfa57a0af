-- What holds above a level: all that is missing is missing below the page in hand.
use Rattle.std.proofs.Common.{◌≡◌, ◌<◌, ◌≤◌, ◌-◌, ◌^◌}
use Rattle.iom_directory_build.specs.Pages.{root_level, missing_pages}
use Rattle.iom_directory_build.proofs.write.missing.Given as goal

abbrev pub invariant-loop-level : goal.invariant-loop-level
invariant-loop-level g l =
    record {
      range : l.page < 2 ^ 44;
      low : 1 ≤ l.level;
      same : missing_pages (g.B.Bytes.frames_of l.memory) (l.level - 1) l.page l.id ≡ missing_pages (g.B.Bytes.frames_of l.memory) (root_level l.levels) l.root l.id;
    }
