use Rattle.std.proofs.Common.{◌≡◌, ◌∙◌, false, List, sym, ap, subst, arith}
use Rattle.iom_device.specs.declared.device.Device.{Device}
use Rattle.iom_device.specs.Caches.{epoch_in}
use Rattle.iom_board.specs.BoardParts.{BoardParts, board_parts}
use Rattle.iom_device.specs.Calls.{with_block_reset}
use Rattle.iom_board.proofs.DeviceLists.{epoch_has}
use Rattle.iom_board.proofs.SoundPlugging.{gone_keeps}
use Rattle.iom_board.proofs.SoundThen.{KeepsDevices, devices_sound}
use Rattle.iom_board.proofs.board.Board.remove_disk.Goals as goal

pub reset_block-requires-clause-epoch : goal.reset_block-requires-clause-epoch
reset_block-requires-clause-epoch c =
    let h = c.args.self.now in
    let same : epoch_in c.set_has_disk.new.devices.items c.args.id ≡ epoch_in h.devices.items c.args.id =
    ap (λ (ds : List Device). epoch_in ds c.args.id) c.set_has_disk.ensures ∙ epoch_has h.devices.items c.args.id false c.args.id in
    let low = c.requires.invariants.epochs c.args.id in
    let count = c.requires.count in
    omega (arith, same, low, count)

pub returns-clause-invariants : goal.returns-clause-invariants
returns-clause-invariants c =
    let h = c.args.self.now in
    let old : BoardParts = board_parts h in
    let is = c.reset_block.ensures ∙ ap (λ (ds : List Device). with_block_reset ds c.args.id) c.set_has_disk.ensures in
    devices_sound old c.reset_block.new.devices.items h.events c.requires.invariants
    (subst (λ (ds : List Device). KeepsDevices old.devices ds h.events) (sym is) (gone_keeps old h.events c.args.id c.requires.invariants))
