-- The teller went on by the lines so far, nothing failed, and so many events at most were counted.
use Rattle.std.proofs.Common.{◌≡◌, ◌+◌, ◌*◌, ◌≤◌, take, None}
use Rattle.iom_telling.specs.Tellers.{GoesByLines}
use Rattle.iom_telling.proofs.script.tell_lines.Given as goal

abbrev pub invariant-loop-line : goal.invariant-loop-line
invariant-loop-line g l =
    record {
      ran : GoesByLines g.W.Write.contents g.D.Disk.shown l.fn.teller (take l.line-index l.script) l.teller;
      fresh : l.teller.fault ≡ None;
      counted : l.teller.world.hardware.board.events ≤ l.fn.teller.world.hardware.board.events + 400 * l.line-index;
    }
