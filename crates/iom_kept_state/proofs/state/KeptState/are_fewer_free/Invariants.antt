-- So many below this one are free, and no more than are looked for.
use Rattle.std.proofs.Common.{◌≤◌}
use Rattle.iom_ledger.specs.History.{History}
use Rattle.iom_machine.specs.Frames.{IsFreeBesides}
use Rattle.iom_machine.specs.Judging.{CountsAll}
use Rattle.iom_kept_state.specs.Grants.{IsPastOf}
use Rattle.iom_kept_state.specs.States.{state_of}
use Rattle.iom_kept_state.proofs.state.KeptState.are_fewer_free.Given as goal

abbrev pub invariant-loop-number : goal.invariant-loop-number
invariant-loop-number l = record {
  counted : (h : History) → IsPastOf l.self.grants h → CountsAll l.found l.number (IsFreeBesides (state_of l.self h) l.named);
  few : l.found ≤ l.count;
}
