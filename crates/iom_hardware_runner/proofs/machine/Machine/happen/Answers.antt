use Rattle.iom_hardware_runner.proofs.RunLemmas.{on_ok, takes_line}
use Rattle.iom_hardware_runner.proofs.machine.Machine.happen.Goals as goal

pub returns-clause-taken : goal.returns-clause-taken
returns-clause-taken c = λ no_help.
    on_ok c.log.result
    (takes_line c.args.self.now c.act_before.new.self c.tell.new.self c.args.said no_help c.in_ok-act_before.ensures.acts c.act_before.ensures.off c.act_before.ensures.traffic
    c.in_ok-words.ensures.reply c.in_ok-words.ensures.helper)
