-- A path has one end.
use Rattle.iom_stage_walk.proofs.Exact.{reached_not_stopped, one_fault}
use Rattle.iom_stage_walk.proofs.laws.one_end.Goals as goal

pub returns : goal.returns
returns c =
    λ levels frames root address kind fault stops. (
      λ walked reaches. reached_not_stopped levels frames root address kind walked fault.cause reaches stops.cause,
      λ fault' stops'. one_fault levels frames root address kind fault fault' stops stops',
    )
