-- The world went along the lines so far, and so many events at most were counted.
use Rattle.std.proofs.Common.{◌+◌, ◌*◌, ◌≤◌, take}
use Rattle.iom_machine.specs.declared.state.State.{State}
use Rattle.iom_world.specs.Shown.{shown_of}
use Rattle.iom_world.specs.Shows.{Shows}
use Rattle.iom_runner.specs.Going.{RunsAlong}
use Rattle.iom_runner.proofs.runner.tell_lines.Given as goal

abbrev pub invariant-loop-line : goal.invariant-loop-line
invariant-loop-line g l =
    record {
      ran : (state : State) → Shows (shown_of g.D.Disk.shown l.fn.world) state
          → RunsAlong g.W.Write.contents state (shown_of g.D.Disk.shown l.fn.world) (take l.line-index l.script) l.fn.lines l.lines (shown_of g.D.Disk.shown l.world);
      counted : l.world.hardware.board.events ≤ l.fn.world.hardware.board.events + 400 * l.line-index;
    }
