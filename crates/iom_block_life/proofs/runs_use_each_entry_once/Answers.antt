-- The laws, as they were shown of every event that sets a queue, and of every run.
use Rattle.iom_block_life.proofs.RunLives.{queues_begin, runs_use}
use Rattle.iom_block_life.proofs.runs_use_each_entry_once.Goals as goal

pub returns-clause-begin : goal.returns-clause-begin
returns-clause-begin c = queues_begin

pub returns-clause-runs : goal.returns-clause-runs
returns-clause-runs c = runs_use
