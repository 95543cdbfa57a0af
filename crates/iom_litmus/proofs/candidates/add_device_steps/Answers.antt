use Rattle.iom_litmus.proofs.CandidateLemmas.{devices_more}
use Rattle.iom_litmus.proofs.ListedLemmas.{KeepsListed-push}
use Rattle.std.proofs.Common.{rules}
use Rattle.iom_litmus.proofs.candidates.add_device_steps.Goals as goal

pub loop-device-preserved : goal.loop-device-preserved
loop-device-preserved c = (
  KeepsListed-push _ _ _ _ (KeepsListed-push _ _ _ _ c.loop-device.invariant.0 c.in_ok-push.ensures.ok) c.in_ok-push-2.ensures.ok,
  devices_more _ _ _ _ _ _ c.loop-device-test.true (search rules) c.loop-device.invariant.1 c.in_ok-push.ensures.ok c.in_ok-push-2.ensures.ok,
)
