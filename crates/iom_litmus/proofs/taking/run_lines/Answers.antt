use Rattle.std.proofs.Common.{◌≡◌, ◌+◌, get_or, drop, subst, rules}
use Rattle.iom_litmus.specs.Replies.{RunsLines}
use Rattle.iom_litmus.proofs.TryLemmas.{runs_more, runs_all}
use Rattle.iom_litmus.proofs.taking.run_lines.Goals as goal

pub loop-line-preserved : goal.loop-line-preserved
loop-line-preserved g c said after rest =
    let line : c.as_slice.result.now ≡ get_or c.args.lines.now c.loop-line.line-index c.line-item.result = search rules in
    c.loop-line.invariant said after
    (runs_more g.S.System.rules c.loop-line.system c.run.new.self after c.loop-line.reply c.in_ok-next.next said c.args.lines.now c.loop-line.line-index c.line-item.result c.loop-line-test.true
    (subst (λ text. g.S.System.rules.runs c.loop-line.system text c.in_ok-next.next c.run.new.self) line c.in_ok-next.ensures)
    (subst (λ reply. RunsLines g.S.System.rules c.run.new.self reply (drop (c.loop-line.line-index + 1) c.args.lines.now) said after) c.in_ok-join.ensures rest))

pub returns : goal.returns
returns g c = c.loop-line.invariant c.loop-line.reply c.loop-line.system
    (runs_all g.S.System.rules c.loop-line.system c.loop-line.reply c.args.lines.now c.loop-line.line-index c.loop-line-test.false)
