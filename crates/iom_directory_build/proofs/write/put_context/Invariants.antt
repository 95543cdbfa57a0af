-- What holds above a level: the pages used so far hang on the path, and the rest is left to write.
use Rattle.std.proofs.Common.{◌<◌, ◌≤◌, ◌-◌, ◌^◌}
use Rattle.iom_directory_build.specs.Pages.{root_level}
use Rattle.iom_directory_build.proofs.Hanging.{Hung}
use Rattle.iom_directory_build.proofs.write.put_context.Given as goal

abbrev pub invariant-loop-level : goal.invariant-loop-level
invariant-loop-level g l =
    record {
      range : l.page < 2 ^ 44;
      low : 1 ≤ l.level;
      hung : Hung (g.B.Bytes.frames_of l.fn.memory) (g.B.Bytes.frames_of l.memory) (root_level l.levels) l.root l.id l.pages l.context (l.level - 1) l.page l.used;
    }
