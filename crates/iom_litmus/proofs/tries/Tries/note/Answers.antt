use Rattle.iom_litmus.proofs.ListedLemmas.{KeepsListed-push, pushed_is_listed}
use Rattle.iom_litmus.proofs.tries.Tries.note.Goals as goal

pub returns-clause-noted : goal.returns-clause-noted
returns-clause-noted g c = pushed_is_listed _ _ _ c.in_ok-push.ensures.ok

pub returns-clause-keeps : goal.returns-clause-keeps
returns-clause-keeps g c = KeepsListed-push _ _ _ _ (λ cell there. there) c.in_ok-push.ensures.ok
