use Rattle.iom_driver_tests.proofs.reports.Desk.report.Goals as goal

pub invariant_of-self : goal.invariant_of-self
invariant_of-self c =
    let desk = c.self.inside in
    let ready = c.ready_after_record.ensures desk.driver desk.memory c.put.new.memory desk.registers c.put.new.registers c.args.record c.put.result
    c.self.invariant.1 c.self.invariant.0 c.put.ensures.effect in
    (c.self.invariant.0, ready.0)
