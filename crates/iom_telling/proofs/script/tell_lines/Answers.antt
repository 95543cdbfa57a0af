-- One line more is told, or something fails at it.
use Rattle.std.proofs.Common.{◌+◌, arith}
use Rattle.iom_telling.proofs.LineLemmas.{goes_none, goes_more}
use Rattle.iom_telling.proofs.script.tell_lines.Goals as goal

pub loop-line-init : goal.loop-line-init
loop-line-init g c = record {
  ran = goes_none g.W.Write.contents g.D.Disk.shown c.args.teller.now;
  fresh = c.requires.fresh;
  counted = omega arith;
}

pub tell_line-requires : goal.tell_line-requires
tell_line-requires g c =
    let so_far = c.loop-line.invariant.counted in
    let more = c.loop-line-test.true in
    let room = c.requires.count in
    record { count = omega (arith, so_far, more, room) }

pub loop-line-preserved : goal.loop-line-preserved
loop-line-preserved g c =
    let so_far = c.loop-line.invariant.counted in
    let more = c.tell_line.ensures.counted in
    record {
      ran = goes_more g.W.Write.contents g.D.Disk.shown c.args.teller.now c.loop-line.teller c.tell_line.new.teller c.args.script.now c.loop-line.line-index c.line-item.result
          c.loop-line.invariant.ran c.line-item.is c.loop-line-test.true c.tell_line.ensures.told;
      fresh = c.in-None.is;
      counted = omega (arith, so_far, more);
    }

pub returns-in-Some-clause-failed : goal.returns-in-Some-clause-failed
returns-in-Some-clause-failed g c = (
  c.in-Some.is,
  (
    c.loop-line.line-index + 1,
    goes_more g.W.Write.contents g.D.Disk.shown c.args.teller.now c.loop-line.teller c.tell_line.new.teller c.args.script.now c.loop-line.line-index c.line-item.result
        c.loop-line.invariant.ran c.line-item.is c.loop-line-test.true c.tell_line.ensures.told,
  ),
)
