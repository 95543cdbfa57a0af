-- So many below this one are free, and no more than are looked for.
use Rattle.std.proofs.Common.{◌≤◌}
use Rattle.iom_ledger.specs.History.{History}
use Rattle.iom_machine.specs.Frames.{IsFreeRun}
use Rattle.iom_machine.specs.Judging.{CountsAll}
use Rattle.iom_kept_state.specs.Grants.{IsPastOf}
use Rattle.iom_kept_state.specs.States.{state_of}
use Rattle.iom_kept_state.proofs.state.KeptState.are_fewer_runs_free.Given as goal

abbrev pub invariant-loop-run : goal.invariant-loop-run
invariant-loop-run l = record {
  counted : (h : History) → IsPastOf l.self.grants h → CountsAll l.found l.run (IsFreeRun (state_of l.self h));
  few : l.found ≤ l.count;
}
