use Rattle.std.proofs.Common.{◌≡◌, ◌∙◌, true, refl, ap}
use Rattle.iom_registers.specs.declared.register.Register.TheVariants.{Fqh, Fqcsr}
use Rattle.iom_registers.specs.Queues.{fault_entries, fault_head, next_index}
use Rattle.iom_driver.specs.Reports.{cleared_flags}
use Rattle.iom_driver.specs.StateOf.{state_of}
use Rattle.iom_driver.proofs.Taking.{takes_report, ready_taken, none_waits, ready_cleared}
use Rattle.iom_driver.proofs.driver.Driver.faults.Goals as goal

pub returns-in_default-clause-effect : goal.returns-in_default-clause-effect
returns-in_default-clause-effect g c =
    let runs : c.args.self.now.started ≡ true = c.if-not-self.false in (
      rw runs refl,
      (
        none_waits c.args.memory.now (g.M.Mmio.registers c.args.io.now) c.in_default.ensures.effect.0,
        c.write.ensures ∙ ap (λ x. g.M.Mmio.after x Fqcsr cleared_flags) c.in_default.ensures.effect.1,
      ),
    )

pub returns-in_default-clause-ready : goal.returns-in_default-clause-ready
returns-in_default-clause-ready g c =
    let r = g.M.Mmio.registers in
    ready_cleared (state_of c.args.self.now) c.args.memory.now (r c.args.io.now) (r c.write.new.io) c.requires.ready c.if-not-self.false
    (ap r (c.write.ensures ∙ ap (λ x. g.M.Mmio.after x Fqcsr cleared_flags) c.in_default.ensures.effect.1) ∙ g.met.M.Mmio.writes_registers c.args.io.now Fqcsr cleared_flags)

pub returns-clause-effect : goal.returns-clause-effect
returns-clause-effect g c =
    let runs : c.args.self.now.started ≡ true = c.if-not-self.false in (
      rw runs refl,
      takes_report g.M.Mmio c.args.memory.now c.args.io.now c.take.new.io c.in-Some.entry c.record.result (c.requires.ready.faults runs)
          c.in-Some.ensures.effect c.in-Some.ensures.list c.record.ensures,
    )

pub returns-clause-ready : goal.returns-clause-ready
returns-clause-ready g c =
    let r = g.M.Mmio.registers in
    let next = next_index (fault_entries (r c.args.io.now)) (fault_head (r c.args.io.now)) in
    ready_taken (state_of c.args.self.now) c.args.memory.now (r c.args.io.now) (r c.take.new.io) c.in-Some.entry next c.requires.ready c.if-not-self.false
    (ap r c.in-Some.ensures.effect.1 ∙ g.met.M.Mmio.writes_registers c.args.io.now Fqh next) c.in-Some.ensures.list
