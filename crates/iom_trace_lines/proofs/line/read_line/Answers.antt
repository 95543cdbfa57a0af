use Rattle.std.proofs.Common.{◌≡◌, ◌++◌}
use Rattle.std.specs.Prelude.{codes}
use Rattle.iom_trace_lines.proofs.line.read_line.Goals as goal

pub returns-in-Some-2-clause-says : goal.returns-in-Some-2-clause-says
returns-in-Some-2-clause-says c =
    let said = c.cut.result.0.now in
    let whole : c.args.line.now ≡ said ++ codes " => " ++ c.in-Some.answered.now = rw c.in-Some.is at c.cut.ensures in
    rw whole (c.read_step.ensures said ((c.in_ok-event.ensures c.in-Some-2.event).0 c.in-Some-2.is))
