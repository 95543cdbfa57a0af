-- None of those before is.
use Rattle.std.proofs.Common.{◌≡◌, ◌≤◌, ℕ, false}
use Rattle.iom_ledger.specs.History.{History, confirms}
use Rattle.iom_kept_state.specs.Grants.{IsPastOf}
use Rattle.iom_machine_judge.proofs.polls.none_confirmed.Given as goal

abbrev pub invariant-loop-before : goal.invariant-loop-before
invariant-loop-before l = (h : History) → IsPastOf l.grants h → (ticket : ℕ) → l.first ≤ ticket → ticket ≤ l.before → confirms h ticket ≡ false
