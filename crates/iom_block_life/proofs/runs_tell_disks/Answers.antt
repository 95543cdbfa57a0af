-- The laws, as they were shown of every event that plugs a block device in, and of every run.
use Rattle.iom_block_life.proofs.StoryRuns.{plugs_begin, runs_tell}
use Rattle.iom_block_life.proofs.runs_tell_disks.Goals as goal

pub returns-clause-begin : goal.returns-clause-begin
returns-clause-begin c = plugs_begin

pub returns-clause-runs : goal.returns-clause-runs
returns-clause-runs c = runs_tell
