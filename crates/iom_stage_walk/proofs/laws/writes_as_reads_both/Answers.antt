-- Both stages serve writes where they serve reads with a right that allows them.
use Rattle.iom_stage_walk.proofs.ServesBoth.{both_writes, both_reads}
use Rattle.iom_stage_walk.proofs.laws.writes_as_reads_both.Goals as goal

pub returns : goal.returns
returns c =
    λ levels levels' frames first second address walked. (
      λ h. both_writes levels levels' frames first second address walked h,
      λ (h, writes). both_reads levels levels' frames first second address walked h writes,
    )
