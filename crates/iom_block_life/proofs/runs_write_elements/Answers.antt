-- The law, as it was shown of every run.
use Rattle.iom_block_life.proofs.UsedRingRuns.{runs_write}
use Rattle.iom_block_life.proofs.runs_write_elements.Goals as goal

pub returns : goal.returns
returns c = runs_write
