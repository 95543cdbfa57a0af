use Rattle.std.proofs.Common.{◌≡◌, ◌∙◌, sym, ap, slice_set}
use Rattle.iom_machine.specs.declared.state.Attachment.{Attachment}
use Rattle.iom_machine.specs.declared.state.Device.{Device}
use Rattle.iom_machine.specs.Leaving.{device_once_confirmed}
use Rattle.iom_kept_state.proofs.LeavingLemmas.{detached_once, once_stays}
use Rattle.iom_kept_state.proofs.leaving.detach.Goals as goal

pub returns-then-has_left-clause-detached : goal.returns-then-has_left-clause-detached
returns-then-has_left-clause-detached c = λ h past device at.
    let read = c.item_mut-device.result.now in
    let there = c.item_mut-device.ensures.value in
    let same : read ≡ device = cc in
    ap (λ (a : Attachment). slice_set c.args.devices.now c.args.place (record read { attachment = a })) (detached_once h read.attachment (sym (c.has_left.ensures h past) ∙ c.if-has_left.true))
    ∙ ap (λ (d : Device). slice_set c.args.devices.now c.args.place (device_once_confirmed h d)) same

pub returns-else-has_left-clause-detached : goal.returns-else-has_left-clause-detached
returns-else-has_left-clause-detached c = λ h past device at.
    let read = c.item_mut-device.result.now in
    let there = c.item_mut-device.ensures.value in
    let same : read ≡ device = cc in
    ap (λ (a : Attachment). slice_set c.args.devices.now c.args.place (record read { attachment = a })) (once_stays h read.attachment (sym (c.has_left.ensures h past) ∙ c.if-has_left.false))
    ∙ ap (λ (d : Device). slice_set c.args.devices.now c.args.place (device_once_confirmed h d)) same
