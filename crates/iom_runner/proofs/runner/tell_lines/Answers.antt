-- The world goes along one line more, or writing fails at it.
use Rattle.std.proofs.Common.{◌≤◌, List, length, take_all, subst, arith}
use Rattle.iom_world.specs.Shown.{shown_of}
use Rattle.iom_script.specs.declared.script.ScriptLine.{ScriptLine}
use Rattle.iom_line_writer.proofs.WritingLemmas.{at_err}
use Rattle.iom_runner.specs.Going.{RunsAlong}
use Rattle.iom_runner.proofs.AlongLemmas.{along_none, along_takes, along_fails}
use Rattle.iom_runner.proofs.runner.tell_lines.Goals as goal

pub loop-line-init : goal.loop-line-init
loop-line-init g c = record {
  ran = λ state shows. along_none g.W.Write.contents state (shown_of g.D.Disk.shown c.args.world.now) c.args.lines.now shows;
  counted = omega arith;
}

pub tell_line-requires : goal.tell_line-requires
tell_line-requires g c =
    let so_far = c.loop-line.invariant.counted in
    let more = c.loop-line-test.true in
    let room = c.requires.count in
    record { count = omega (arith, so_far, more, room) }

pub loop-line-preserved : goal.loop-line-preserved
loop-line-preserved g c =
    let reply = c.in_ok-tell_line.ensures.reply in
    let so_far = c.loop-line.invariant.counted in
    let more = c.tell_line.ensures.counted in
    record {
      ran = λ state shows.
          along_takes g.W.Write.contents state c.args.script.now c.loop-line.line-index c.line-item.result reply.0 reply.1 c.args.lines.now c.loop-line.lines c.tell_line.new.lines
          (shown_of g.D.Disk.shown c.args.world.now) (shown_of g.D.Disk.shown c.loop-line.world) (shown_of g.D.Disk.shown c.tell_line.new.world)
          (c.loop-line.invariant.ran state shows) c.line-item.is c.loop-line-test.true reply.2 reply.3 reply.4;
      counted = omega (arith, so_far, more);
    }

pub returns-in_err-tell_line-clause-failed : goal.returns-in_err-tell_line-clause-failed
returns-in_err-tell_line-clause-failed g c = λ state shows.
    let reply = c.in_err-tell_line.ensures.reply in
    at_err c.from_residual.result
    (along_fails g.W.Write.contents state c.args.script.now c.loop-line.line-index c.line-item.result reply.0 reply.1 c.args.lines.now c.loop-line.lines c.tell_line.new.lines
    (shown_of g.D.Disk.shown c.args.world.now) (shown_of g.D.Disk.shown c.loop-line.world) (shown_of g.D.Disk.shown c.tell_line.new.world)
    (c.loop-line.invariant.ran state shows) c.line-item.is c.loop-line-test.true reply.2 reply.3 reply.5)

pub returns-clause-ran : goal.returns-clause-ran
returns-clause-ran g c = λ state shows.
    let end : length c.args.script.now ≤ c.loop-line.line-index = omega (arith, c.loop-line-test.false) in
    subst (λ (l : List ScriptLine). RunsAlong g.W.Write.contents state (shown_of g.D.Disk.shown c.args.world.now) l c.args.lines.now c.loop-line.lines (shown_of g.D.Disk.shown c.loop-line.world))
    (take_all c.loop-line.line-index c.args.script.now end) (c.loop-line.invariant.ran state shows)
