use Rattle.std.proofs.Common.{refl}
use Rattle.iom_hardware_runner.proofs.RunLemmas.{does_nothing, few_none, few_kept_ok}
use Rattle.iom_hardware_runner.specs.Parts.{AreFew, does_itself}
use Rattle.iom_hardware_runner.proofs.machine.Machine.act_once.Goals as goal

pub returns-in-Some-clause-acts : goal.returns-in-Some-clause-acts
returns-in-Some-clause-acts c =
    few_kept_ok c.args.self.now.helper c.step.new.self 1 c.args.self.now.teller c.take_step.new.self.teller c.take_step.result c.step.ensures c.take_step.ensures.acts

pub returns-in-None-clause-acts : goal.returns-in-None-clause-acts
returns-in-None-clause-acts c =
    let can = does_itself c.args.self.now.teller c.args.self.now.helper in
    does_nothing (AreFew can 1) c.args.self.now.teller c.args.self.now.teller refl (few_none can 1)
