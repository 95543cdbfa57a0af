-- A path of a second stage has one end.
use Rattle.std.proofs.Common.{false}
use Rattle.iom_stage_walk.proofs.OneSecond.{leads_or_faults, one_fault_leading}
use Rattle.iom_stage_walk.proofs.laws.one_end_second.Goals as goal

pub returns : goal.returns
returns c =
    λ levels frames root address kind fault stops. (
      λ walked reaches. leads_or_faults levels frames root address kind kind false walked.frame walked.rights fault reaches.leads stops,
      λ fault' stops'. one_fault_leading levels frames root address kind kind false fault fault' stops stops',
    )
