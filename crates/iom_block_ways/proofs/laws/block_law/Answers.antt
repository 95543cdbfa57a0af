use Rattle.iom_block_ways.proofs.WholeLemmas.{step_calls, queue_calls}
use Rattle.iom_block_ways.proofs.laws.block_law.Goals as goal

pub returns : goal.returns
returns c = record { steps = step_calls; queues = queue_calls }
