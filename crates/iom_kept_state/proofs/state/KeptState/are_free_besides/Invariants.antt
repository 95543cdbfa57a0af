-- The frames before this one are free.
use Rattle.std.proofs.Common.{All, take}
use Rattle.iom_ledger.specs.History.{History}
use Rattle.iom_machine.specs.Frames.{IsFreeBesides}
use Rattle.iom_kept_state.specs.Grants.{IsPastOf}
use Rattle.iom_kept_state.specs.States.{state_of}
use Rattle.iom_kept_state.proofs.state.KeptState.are_free_besides.Given as goal

abbrev pub invariant-loop-number : goal.invariant-loop-number
invariant-loop-number l = (h : History) → IsPastOf l.self.grants h → All (IsFreeBesides (state_of l.self h) l.named) (take l.number-index l.taken)
