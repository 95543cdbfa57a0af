-- The loop of `judge_run`: each line leads on, or is the first that may not come.
use Rattle.std.proofs.Common.{◌≡◌, Some, slice_get, refl, sym, subst}
use Rattle.std.proofs.lemmas.Option.{slice_get_read}
use Rattle.iom_machine_judge.specs.Verdicts.{IsFoundOf}
use Rattle.iom_machine_judge.proofs.VerdictLemmas.{leads_to_none, leads_to_next, stops_at, ends_at}
use Rattle.iom_machine_judge.proofs.decide.judge_run.Goals as goal

pub loop-number-init : goal.loop-number-init
loop-number-init c = leads_to_none c.args.kept.now c.args.lines.now

pub returns-then-not-branch : goal.returns-then-not-branch
returns-then-not-branch c =
    let at : slice_get c.args.lines.now c.loop-number.number ≡ Some c.index-lines-number.result =
    slice_get_read c.args.lines.now _ c.loop-number.number c.index-lines-number.result refl c.loop-number-test.true c.index-lines-number.is in
    let decides = rw c.if-not-branch.true at c.in_ok-judge.ensures in
    subst (λ kept. IsFoundOf (Some c.loop-number.number) c.args.kept.now kept c.args.lines.now) (sym decides.0)
    (stops_at c.args.kept.now c.loop-number.kept c.args.lines.now c.loop-number.number c.index-lines-number.result at decides.1 c.loop-number.invariant)

pub loop-number-preserved : goal.loop-number-preserved
loop-number-preserved c =
    let at : slice_get c.args.lines.now c.loop-number.number ≡ Some c.index-lines-number.result =
    slice_get_read c.args.lines.now _ c.loop-number.number c.index-lines-number.result refl c.loop-number-test.true c.index-lines-number.is in
    let decides = rw c.if-not-branch.false at c.in_ok-judge.ensures in
    leads_to_next c.args.kept.now c.loop-number.kept c.judge.new.kept c.args.lines.now c.loop-number.number c.index-lines-number.result at decides c.loop-number.invariant

pub returns : goal.returns
returns c = ends_at c.args.kept.now c.loop-number.kept c.args.lines.now c.loop-number.number c.loop-number-test.false c.loop-number.invariant
