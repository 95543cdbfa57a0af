use Rattle.std.proofs.Common.{◌-◌, ◌+◌}
use Rattle.iom_ledger.specs.Confirmations.{ConfirmsFrom}
use Rattle.iom_ledger.specs.History.{confirmed_from, History}
use Rattle.iom_ledger.specs.Shown.{Agrees}
use Rattle.iom_driver.proofs.polling.confirm_after.Given as goal

-- the tickets up to this number are confirmed
abbrev pub invariant-loop-before : goal.invariant-loop-before
invariant-loop-before l =
    record {
      agrees : (h : History) → Agrees l.fn.ledger h → Agrees l.ledger (confirmed_from (l.confirmed + 1) (l.before - l.confirmed) h);
      shown : ConfirmsFrom l.fn.ledger l.ledger (l.confirmed + 1) (l.before - l.confirmed);
    }
