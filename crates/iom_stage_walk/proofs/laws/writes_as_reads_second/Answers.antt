-- A second stage serves writes where it serves reads with a right that allows them.
use Rattle.iom_stage_walk.proofs.ServesBoth.{second_writes, second_reads}
use Rattle.iom_stage_walk.proofs.laws.writes_as_reads_second.Goals as goal

pub returns : goal.returns
returns c = λ levels frames root address walked. (λ h. second_writes levels frames root address walked h, λ (h, writes). second_reads levels frames root address walked h writes)
