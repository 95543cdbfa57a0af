-- What a fault of both stages tells.
use Rattle.iom_stage_walk.proofs.Told.{both_told}
use Rattle.iom_stage_walk.proofs.laws.faults_are_reported.Goals as goal

pub returns : goal.returns
returns c = both_told
