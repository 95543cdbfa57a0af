use Rattle.std.proofs.Common.{◌∙◌, List, sym, arith}
use Rattle.std.specs.List.{list_any}
use Rattle.std.proofs.lemmas.List.{at_drop_all}
use Rattle.iom_machine.specs.declared.state.Device.{Device}
use Rattle.iom_machine.specs.Leaving.{has_left}
use Rattle.iom_kept_state.proofs.LeavingLemmas.{any_here, any_later}
use Rattle.iom_kept_state.proofs.leaving.has_any_left.Goals as goal

pub loop-device-preserved : goal.loop-device-preserved
loop-device-preserved c h past =
    sym (any_later (λ (device : Device). has_left h device.attachment) c.args.devices.now c.loop-device.device-index c.device-item.result c.loop-device-test.true c.device-item.is
    (sym (c.has_left.ensures h past) ∙ c.if-has_left.false))
    ∙ c.loop-device.invariant h past

pub returns-then-has_left : goal.returns-then-has_left
returns-then-has_left c h past =
    sym (any_here (λ (device : Device). has_left h device.attachment) c.args.devices.now c.loop-device.device-index c.device-item.result c.loop-device-test.true c.device-item.is
    (sym (c.has_left.ensures h past) ∙ c.if-has_left.true))
    ∙ c.loop-device.invariant h past

pub returns : goal.returns
returns c h past =
    sym (at_drop_all (λ (devices : List Device). list_any (λ (device : Device). has_left h device.attachment) devices) c.args.devices.now c.loop-device.device-index (omega arith))
    ∙ c.loop-device.invariant h past
