use Rattle.std.proofs.Common.{◌≡◌, ◌≤◌, length}
use Rattle.iom_world.specs.Shown.{shown_of}
use Rattle.iom_tell.specs.Told.{is_taken_since, taken_below}
use Rattle.iom_tell.proofs.tables.count_taken.Given as goal

-- those below this frame are counted
abbrev pub invariant-loop-frame : goal.invariant-loop-frame
invariant-loop-frame g l = record {
  counted : l.count ≡ length (taken_below (is_taken_since l.before (shown_of g.D.Disk.shown l.world)) l.frame);
  few : l.count ≤ l.frame;
}
