use Rattle.iom_machine.proofs.LimitLemmas.{limits-step}
use Rattle.iom_machine.proofs.laws.limits_unchanged.Goals as goal

pub returns : goal.returns
returns c = limits-step
