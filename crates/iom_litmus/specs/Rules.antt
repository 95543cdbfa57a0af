-- What a system may do: relations, since it may answer one thing or another.
use Rattle.std.specs.Prelude.{ℕ, List}
use Rattle.iom_litmus_test.specs.declared.observable.Spot.{Spot}
use Rattle.iom_litmus.specs.declared.reply.Reply.{Reply}
use Rattle.iom_litmus.specs.declared.step.HardwareStep.{HardwareStep}

pub record Rules (S : Type 0) : Type 1 where
  -- to a line it may say this, and be that afterwards
  pub runs : S → List ℕ → Reply → S → Type 0
  -- the same as hardware does something
  pub acts : S → HardwareStep → Reply → S → Type 0

-- that, and the awaited cells that are noted: a try of one of these may change the system though it isn't answered as awaited
pub record Noted (S : Type 0) : Type 1 where
  pub rules : Rules S
  pub cells : List Spot

abbrev pub noting : {S : Type 0} → Rules S → List Spot → Noted S
noting rules cells = record { rules = rules; cells = cells }
