use Rattle.std.proofs.Common.{◌∙◌, subst}
use Rattle.iom_hardware_runner.specs.Parts.{SettlesSo}
use Rattle.iom_hardware_runner.specs.declared.machine.Settling.{Settling}
use Rattle.iom_hardware_runner.proofs.RunLemmas.{came_to_rest, rests_more}
use Rattle.iom_hardware_runner.proofs.machine.Machine.settle.Goals as goal
use Rattle.iom_hardware_runner.proofs.machine.Machine.settle.Goals.{in-Moved, in-Violated}

pub returns-in-Rests-clause-rests : goal.returns-in-Rests-clause-rests
returns-in-Rests-clause-rests c =
    came_to_rest c.args.self.now.teller c.loop-steps.self.teller c.settle_once.new.self.teller c.loop-steps.invariant.0
    (subst (λ (came : Settling). SettlesSo came c.loop-steps.self.teller c.settle_once.new.self.teller) c.in-Rests.is c.in_ok-settle_once.ensures.settles)

pub loop-steps-preserved : goal.loop-steps-preserved
loop-steps-preserved c = (
  rests_more c.args.self.now.teller c.loop-steps.self.teller c.settle_once.new.self.teller c.loop-steps.invariant.0 (elim c.match-branch-2.branch [
    | in-Moved w ↦ subst (λ (came : Settling). SettlesSo came c.loop-steps.self.teller c.settle_once.new.self.teller) w.in-Moved.is c.in_ok-settle_once.ensures.settles
    | in-Violated w ↦ subst (λ (came : Settling). SettlesSo came c.loop-steps.self.teller c.settle_once.new.self.teller) w.in-Violated.is c.in_ok-settle_once.ensures.settles
  ]),
  c.settle_once.ensures.helper ∙ c.loop-steps.invariant.1,
)
