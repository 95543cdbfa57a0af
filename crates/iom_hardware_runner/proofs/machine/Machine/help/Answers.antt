use Rattle.std.proofs.Common.{refl, sym, subst}
use Rattle.iom_hardware_runner.proofs.RunLemmas.{on_ok, takes_auto, takes_traffic, takes_quiesce}
use Rattle.iom_hardware_runner.specs.Parts.{MachineTakesLine}
use Rattle.iom_hardware_runner.specs.declared.machine.Machine.{Machine}
use Rattle.iom_hardware_script.specs.declared.script.HardwareLine.TheVariants as line
use Rattle.iom_hardware_script.specs.declared.script.Help.{Help}
use Rattle.iom_hardware_runner.proofs.machine.Machine.help.Goals as goal

pub returns-in_ok-answer-in-Auto-clause-taken : goal.returns-in_ok-answer-in-Auto-clause-taken
returns-in_ok-answer-in-Auto-clause-taken c =
    let new : Machine = record { alloc = c.args.self.now.alloc; teller = c.args.self.now.teller; helper = c.seed.new.self } in
    on_ok c.log.result
    (subst (λ (h : Help). MachineTakesLine c.args.self.now (line.Help h) new) (sym c.in-Auto.is)
    (takes_auto c.args.self.now new c.in-Auto.seed refl c.seed.ensures.off c.seed.ensures.traffic))

pub returns-in_ok-direct-in-Traffic-clause-taken : goal.returns-in_ok-direct-in-Traffic-clause-taken
returns-in_ok-direct-in-Traffic-clause-taken c =
    on_ok c.log-in-Traffic.result
    (subst (λ (h : Help). MachineTakesLine c.args.self.now (line.Help h) c.direct.new.self) (sym c.in-Traffic.is)
    (takes_traffic c.args.self.now c.direct.new.self c.in-Traffic.device c.in-Traffic.first c.in-Traffic.last c.direct.ensures.teller c.direct.ensures.off
    c.in_ok-direct-in-Traffic.ensures.directed))

pub returns-in_ok-quiesce-in-Quiesce-clause-taken : goal.returns-in_ok-quiesce-in-Quiesce-clause-taken
returns-in_ok-quiesce-in-Quiesce-clause-taken c =
    on_ok c.log-in-Quiesce.result
    (subst (λ (h : Help). MachineTakesLine c.args.self.now (line.Help h) c.quiesce.new.self) (sym c.in-Quiesce.is)
    (takes_quiesce c.args.self.now c.quiesce.new.self c.in_ok-quiesce-in-Quiesce.ensures.rests c.quiesce.ensures.helper))
