use Rattle.std.proofs.Common.{◌≡◌, ◌+◌, ◌*◌, ◌≤◌, ◌++◌, length}
use Rattle.iom_trace_lines.specs.TraceLines.{frames_text}
use Rattle.iom_world.specs.Shown.{shown_of}
use Rattle.iom_tell.specs.Told.{is_taken_since, taken_below}
use Rattle.iom_tell.proofs.tables.append_frames.Given as goal

-- those below this frame are written
abbrev pub invariant-loop-frame : goal.invariant-loop-frame
invariant-loop-frame g l = record {
  written : l.out ≡ l.fn.out ++ frames_text (taken_below (is_taken_since l.before (shown_of g.D.Disk.shown l.world)) l.frame);
  short : length l.out ≤ length l.fn.out + 5 * l.frame;
}
