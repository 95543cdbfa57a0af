-- The tickets from the first to the one in hand are confirmed.
use Rattle.std.proofs.Common.{◌≡◌, ◌≤◌, ◌-◌, suc}
use Rattle.iom_ledger.specs.History.{History, confirmed_from}
use Rattle.iom_kept_state.specs.Grants.{IsPastOf}
use Rattle.iom_kept_state.proofs.grants.KeptGrants.confirm.Given as goal

abbrev pub invariant-loop-ticket : goal.invariant-loop-ticket
invariant-loop-ticket l = record {
  last : l.first ≤ l.ticket → l.self.confirmed ≡ l.ticket;
  given : l.self.given ≡ l.initial.self.given;
  past : (h : History) → IsPastOf l.initial.self h → IsPastOf l.self (confirmed_from l.first (suc l.ticket - l.first) h);
}
