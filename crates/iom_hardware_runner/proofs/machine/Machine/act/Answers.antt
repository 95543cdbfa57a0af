use Rattle.std.proofs.Common.{not, refl, sym, ◌∙◌}
use Rattle.iom_hardware_runner.proofs.RunLemmas.{draws_nothing, draws_few_ok}
use Rattle.iom_hardware_runner.specs.Parts.{does_itself, is_off}
use Rattle.iom_hardware_runner.proofs.machine.Machine.act.Goals as goal

pub returns-then-is_off-clause-acts : goal.returns-then-is_off-clause-acts
returns-then-is_off-clause-acts c =
    draws_nothing (does_itself c.args.self.now.teller c.args.self.now.helper) (not (is_off c.args.self.now.helper)) c.args.self.now.teller c.args.self.now.teller refl

pub returns-clause-acts : goal.returns-clause-acts
returns-clause-acts c =
    draws_few_ok c.args.self.now.helper c.count-count.new.self c.count-count.result c.args.self.now.teller c.act_often.new.self.teller c.act_often.result
    (sym c.is_off.ensures ∙ c.if-is_off.false) c.count-count.ensures.traffic c.count-count.ensures.few c.act_often.ensures.acts
