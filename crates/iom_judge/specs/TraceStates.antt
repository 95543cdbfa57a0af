-- The machine of a trace: the ledger machine, and beside it which frames were given to somebody else, and which devices share a domain.
use Rattle.std.specs.Prelude.{ℕ, Bool, Option}
use Rattle.iom_machine.specs.declared.state.State.{State}

-- its state
pub record TraceState : Type 0 where
  pub machine : State
  -- whether the frame was given to somebody else, and isn't taken back
  pub is_given : ℕ → Bool
  -- whether any was taken back so far
  pub takes_back : Bool
  -- the first device of the domain that the device has, where that is another device
  pub first_with : ℕ → Option ℕ
