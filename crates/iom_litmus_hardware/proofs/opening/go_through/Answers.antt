-- Line after line.
use Rattle.std.proofs.Common.{◌≤◌, List, length, take_all, subst, arith}
use Rattle.iom_hardware_script.specs.declared.script.HardwareLine.{HardwareLine}
use Rattle.iom_litmus_hardware.specs.Openings.{GoesThrough}
use Rattle.iom_litmus_hardware.proofs.OpeningLemmas.{through_none, through_more}
use Rattle.iom_litmus_hardware.proofs.opening.go_through.Goals as goal

pub loop-line-init : goal.loop-line-init
loop-line-init c = (through_none c.args.session.now, λ whole. whole)

pub loop-line-preserved : goal.loop-line-preserved
loop-line-preserved c =
    let (through, whole) = c.loop-line.invariant in (
      through_more c.args.lines.now c.loop-line.line-index c.line-item.result c.args.session.now c.loop-line.session c.go_on.new.session c.go_on.result c.loop-line-test.true
          c.line-item.is c.go_on.ensures.goes_on through,
      λ begins. c.go_on.ensures.whole (whole begins),
    )

pub returns-clause-through : goal.returns-clause-through
returns-clause-through c =
    let end : length c.args.lines.now ≤ c.loop-line.line-index = omega (arith, c.loop-line-test.false) in
    subst (λ (l : List HardwareLine). GoesThrough c.args.session.now l c.loop-line.session) (take_all c.loop-line.line-index c.args.lines.now end) c.loop-line.invariant.0
