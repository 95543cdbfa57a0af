use Rattle.std.proofs.Common.{◌≡◌, List, None, sym, subst}
use Rattle.iom_driver.specs.declared.device.Device.{Device}
use Rattle.iom_driver.specs.Devices.{device_by_id}
use Rattle.iom_driver.proofs.Places.{with_absent}
use Rattle.iom_driver.proofs.attachments.set_attachment.Goals as goal

pub returns-in_default : goal.returns-in_default
returns-in_default c =
    let none : device_by_id c.args.devices.now.items c.args.id ≡ None = subst (λ (ds : List Device). device_by_id ds c.args.id ≡ None) c.deref.ensures.value c.in_default.ensures in
    sym (with_absent c.args.devices.now.items c.args.id c.args.attachment none)
