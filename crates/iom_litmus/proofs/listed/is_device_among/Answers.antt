use Rattle.std.proofs.Common.{refl, inl, inr}
use Rattle.iom_litmus.proofs.ListedLemmas.{at_is_listed, more_taken_cases}
use Rattle.iom_litmus.proofs.listed.is_device_among.Goals as goal

pub returns-then-other-device : goal.returns-then-other-device
returns-then-other-device c = ((λ _. at_is_listed c.args.devices.now c.loop-other.other-index _ c.args.device c.loop-other-test.true c.if-other-device.true), (λ _. refl))

pub loop-other-preserved : goal.loop-other-preserved
loop-other-preserved c listed =
    elim (more_taken_cases c.args.devices.now c.loop-other.other-index 0 c.args.device c.loop-other-test.true listed) [
      | inl there ↦ c.loop-other.invariant there
      | inr same ↦ c.if-other-device.false same
    ]
