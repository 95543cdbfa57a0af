use Rattle.std.proofs.Common.{not, ◌&&◌, refl, sym, ◌∙◌}
use Rattle.iom_hardware_runner.proofs.RunLemmas.{draws_nothing, draws_before_ok}
use Rattle.iom_hardware_runner.specs.Parts.{does_itself, is_off}
use Rattle.iom_hardware_runner.specs.Runs.{is_of_software}
use Rattle.iom_hardware_runner.proofs.machine.Machine.act_before.Goals as goal

pub returns-then-is_of_software-clause-acts : goal.returns-then-is_of_software-clause-acts
returns-then-is_of_software-clause-acts c =
    draws_before_ok (does_itself c.args.self.now.teller c.args.self.now.helper) (not (is_off c.args.self.now.helper)) (is_of_software c.args.said.now) c.args.self.now.teller c.act.new.self.teller c.act.result
    (sym c.is_of_software.ensures ∙ c.if-is_of_software.true) c.act.ensures.acts

pub returns-else-is_of_software-clause-acts : goal.returns-else-is_of_software-clause-acts
returns-else-is_of_software-clause-acts c =
    draws_nothing (does_itself c.args.self.now.teller c.args.self.now.helper) (not (is_off c.args.self.now.helper) && is_of_software c.args.said.now) c.args.self.now.teller c.args.self.now.teller refl
