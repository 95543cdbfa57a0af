use Rattle.iom_stepped_refinement.proofs.OtherSteps.{busy_step}
use Rattle.iom_stepped_refinement.proofs.laws.busy_law.Goals as goal

pub returns : goal.returns
returns c = busy_step
