use Rattle.iom_litmus_hardware.proofs.LineLemmas.{ran}
use Rattle.iom_litmus_hardware.proofs.under_test.UnderTestSystem.run.Goals as goal

pub returns-in-Some : goal.returns-in-Some
returns-in-Some c =
    ran c.take.result c.args.self.now c.take.new.self c.args.line.now c.in-Some.said ((c.in_ok-said.ensures c.in-Some.said).0 c.in-Some.is) c.take.ensures.listed c.take.ensures.leads
