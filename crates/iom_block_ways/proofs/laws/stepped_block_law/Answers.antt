use Rattle.iom_block_ways.proofs.SteppedLemmas.{stepped_queue_calls, stepped_step_calls}
use Rattle.iom_block_ways.proofs.laws.stepped_block_law.Goals as goal

pub returns : goal.returns
returns c = record { steps = stepped_step_calls; queues = stepped_queue_calls }
