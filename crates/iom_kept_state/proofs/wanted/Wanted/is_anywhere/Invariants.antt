use Rattle.std.proofs.Common.{◌≤◌}
use Rattle.iom_kept_state.proofs.ReachLemmas.{NoneBefore}
use Rattle.iom_kept_state.proofs.wanted.Wanted.is_anywhere.Given as goal

abbrev pub invariant-loop-index : goal.invariant-loop-index
invariant-loop-index l = (l._index ≤ l.from) × NoneBefore l.self l.ledger l.from
