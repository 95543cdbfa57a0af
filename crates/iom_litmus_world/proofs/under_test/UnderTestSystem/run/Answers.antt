use Rattle.iom_litmus_world.proofs.EventLemmas.{ran}
use Rattle.iom_litmus_world.proofs.under_test.UnderTestSystem.run.Goals as goal

pub returns-in-Some : goal.returns-in-Some
returns-in-Some g c =
    ran g.D.Disk c.take.result c.args.self.now c.take.new.self c.args.line.now c.in-Some.event ((c.in_ok-event.ensures c.in-Some.event).0 c.in-Some.is) c.take.ensures.listed c.take.ensures.leads
