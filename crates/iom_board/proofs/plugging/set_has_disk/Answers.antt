use Rattle.std.proofs.Common.{◌≡◌, List, None, sym, subst}
use Rattle.iom_device.specs.declared.device.Device.{Device}
use Rattle.iom_device.specs.Caches.{device_with}
use Rattle.iom_device.proofs.CachePlaces.{has_none}
use Rattle.iom_board.proofs.plugging.set_has_disk.Goals as goal

pub returns-in_default : goal.returns-in_default
returns-in_default c =
    let none : device_with c.args.devices.now.items c.args.id ≡ None = subst (λ (ds : List Device). device_with ds c.args.id ≡ None) c.deref.ensures.value c.in_default.ensures in
    sym (has_none c.args.devices.now.items c.args.id c.args.has none)
