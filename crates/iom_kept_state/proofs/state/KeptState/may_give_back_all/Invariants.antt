-- The frames before this one may be given back.
use Rattle.std.proofs.Common.{All, take}
use Rattle.iom_ledger.specs.History.{History}
use Rattle.iom_machine.specs.Returning.{MayGiveBack}
use Rattle.iom_kept_state.specs.Grants.{IsPastOf}
use Rattle.iom_kept_state.specs.States.{state_of}
use Rattle.iom_kept_state.proofs.state.KeptState.may_give_back_all.Given as goal

abbrev pub invariant-loop-number : goal.invariant-loop-number
invariant-loop-number l = (h : History) → IsPastOf l.self.grants h → All (MayGiveBack (state_of l.self h)) (take l.number-index l.returned)
