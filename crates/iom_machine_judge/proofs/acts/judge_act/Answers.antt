use Rattle.std.proofs.Common.{sym, ◌∙◌}
use Rattle.iom_machine.specs.declared.state.Device.{Device}
use Rattle.iom_machine.specs.declared.state.State.{State}
use Rattle.iom_machine_judge.specs.Deciding.{able_to, ActStep}
use Rattle.iom_machine_judge.proofs.LeftLemmas.{able_at}
use Rattle.iom_machine_judge.proofs.DecidedLemmas.{read_there}
use Rattle.iom_machine_judge.proofs.acts.judge_act.Goals as goal

pub returns : goal.returns
returns c =
    let place = rw c.as_slice.ensures at c.in-Some.ensures in
    able_at (able_to c.args.event.now) c.act_at.result (λ (device : Device) (before after : State). ActStep c.args.frame c.args.access.now c.args.event.now device before c.args.outcome.now after)
    c.args.kept.now c.act_at.new.kept c.args.id c.args.outcome.now c.in-Some.place c.index-as_slice-place.result
    place (read_there c.args.kept.now.devices c.in-Some.place c.index-as_slice-place.result place.0 (rw c.as_slice-2.ensures at c.index-as_slice-place.is)) (sym c.is_able.ensures ∙ c.if-not-is_able.false) c.act_at.ensures
