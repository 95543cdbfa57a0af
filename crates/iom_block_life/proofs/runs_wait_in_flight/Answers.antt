use Rattle.iom_world.proofs.RunLemmas.{waits_throughout}
use Rattle.iom_block_life.proofs.CommitFills.{leaves_stages}
use Rattle.iom_block_life.proofs.WaitRuns.{begins_waiting}
use Rattle.iom_block_life.proofs.runs_wait_in_flight.Goals as goal

pub returns-clause-begin : goal.returns-clause-begin
returns-clause-begin c = begins_waiting

pub returns-clause-runs : goal.returns-clause-runs
returns-clause-runs c = waits_throughout

pub returns-clause-commits : goal.returns-clause-commits
returns-clause-commits c = leaves_stages
