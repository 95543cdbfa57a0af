use Rattle.std.proofs.Common.{arith, refl, ◌∙◌}
use Rattle.iom_hardware_runner.proofs.RunLemmas.{does_nothing, does_at_most, acts_once_more, few_none}
use Rattle.iom_hardware_runner.specs.Parts.{AreFew, does_itself}
use Rattle.iom_hardware_runner.proofs.machine.Machine.act_often.Goals as goal

pub loop-taken-init : goal.loop-taken-init
loop-taken-init c =
    let can = does_itself c.args.self.now.teller c.args.self.now.helper in
    (does_nothing (AreFew can 0) c.args.self.now.teller c.args.self.now.teller refl (few_none can 0), refl)

pub loop-taken-preserved : goal.loop-taken-preserved
loop-taken-preserved c = (
  acts_once_more c.args.self.now.helper c.loop-taken.self.helper c.loop-taken._taken c.args.self.now.teller c.loop-taken.self.teller c.act_once.new.self.teller
      c.loop-taken.invariant.1 c.loop-taken.invariant.0 c.in_ok-act_once.ensures.acts,
  c.act_once.ensures.traffic ∙ c.loop-taken.invariant.1,
)

pub returns-clause-acts : goal.returns-clause-acts
returns-clause-acts c =
    does_at_most (does_itself c.args.self.now.teller c.args.self.now.helper) c.loop-taken._taken c.args.count c.args.self.now.teller c.loop-taken.self.teller (omega arith) c.loop-taken.invariant.0
