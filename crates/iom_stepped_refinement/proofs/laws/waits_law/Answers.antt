use Rattle.iom_stepped_refinement.proofs.BeginSteps.{waits_step}
use Rattle.iom_stepped_refinement.proofs.laws.waits_law.Goals as goal

pub returns : goal.returns
returns c = waits_step
