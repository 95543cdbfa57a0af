-- A path through both stages has one end.
use Rattle.iom_stage_walk.proofs.OneBoth.{both_or_stops, one_fault_both}
use Rattle.iom_stage_walk.proofs.laws.one_end_both.Goals as goal

pub returns : goal.returns
returns c =
    λ levels levels' frames first second address kind fault stops. (
      λ walked reaches. both_or_stops levels levels' frames first second address kind walked fault reaches stops,
      λ fault' stops'. one_fault_both levels levels' frames first second address kind fault fault' stops stops',
    )
