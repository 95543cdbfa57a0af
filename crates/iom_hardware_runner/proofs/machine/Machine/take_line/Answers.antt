use Rattle.iom_hardware_runner.proofs.RunLemmas.{not_help}
use Rattle.iom_hardware_runner.proofs.machine.Machine.take_line.Goals as goal

pub returns-clause-taken : goal.returns-clause-taken
returns-clause-taken c = λ is. (
  c.in-Some.said,
  (c.in_ok-said.ensures.said c.in-Some.said).0 c.in-Some.is,
  c.in_ok-happen.ensures.taken (not_help c.in-Some.said c.in_default-said.not-Help),
)
