use Rattle.iom_litmus.proofs.CandidateLemmas.{messages_more}
use Rattle.iom_litmus.proofs.ListedLemmas.{KeepsListed-push}
use Rattle.iom_litmus.proofs.candidates.add_message_steps.Goals as goal

pub loop-message-preserved : goal.loop-message-preserved
loop-message-preserved c = (
  KeepsListed-push _ _ _ _ (KeepsListed-push _ _ _ _ (KeepsListed-push _ _ _ _ c.loop-message.invariant.0 c.in_ok-push.ensures.ok) c.in_ok-push-2.ensures.ok) c.in_ok-push-3.ensures.ok,
  messages_more _ _ _ _ _ c.loop-message.invariant.1 c.in_ok-push.ensures.ok c.in_ok-push-2.ensures.ok c.in_ok-push-3.ensures.ok,
)
