use Rattle.std.proofs.Common.{◌≡◌, List, None, sym, subst}
use Rattle.iom_device.specs.declared.device.Device.{Device}
use Rattle.iom_device.specs.Caches.{device_with}
use Rattle.iom_device.proofs.CachePlaces.{with_none, obeys_none}
use Rattle.iom_board.proofs.deliveries.obey.Goals as goal

pub returns-in-None : goal.returns-in-None
returns-in-None c =
    let none : device_with c.args.devices.now.items c.args.id ≡ None = subst (λ (ds : List Device). device_with ds c.args.id ≡ None) c.deref.ensures.value c.in-None.ensures in
    (None, obeys_none c.args.devices.now.items c.args.id c.args.serial c.args.range none, sym (with_none c.args.devices.now.items c.args.id None none))
