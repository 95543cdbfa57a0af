use Rattle.iom_litmus.proofs.CandidateLemmas.{columns_more}
use Rattle.iom_litmus.proofs.ListedLemmas.{KeepsListed-push}
use Rattle.iom_litmus.proofs.candidates.add_columns.Goals as goal

pub loop-column-preserved : goal.loop-column-preserved
loop-column-preserved c =
    (KeepsListed-push _ _ _ _ c.loop-column.invariant.0 c.in_ok-push.ensures.ok, columns_more _ _ _ c.loop-column.invariant.1 c.in_ok-push.ensures.ok)
