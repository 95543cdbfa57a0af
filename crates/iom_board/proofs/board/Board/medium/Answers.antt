use Rattle.std.proofs.Common.{true, List, sym, subst}
use Rattle.iom_device.specs.declared.device.Device.{Device}
use Rattle.iom_board.specs.BoardParts.{BoardParts, board_parts}
use Rattle.iom_board.proofs.SoundPlugging.{has_keeps}
use Rattle.iom_board.proofs.SoundThen.{KeepsDevices, devices_sound}
use Rattle.iom_board.proofs.board.Board.medium.Goals as goal

pub returns-clause-invariants : goal.returns-clause-invariants
returns-clause-invariants c =
    let h = c.args.self.now in
    let old : BoardParts = board_parts h in
    devices_sound old c.set_has_disk.new.devices.items h.events c.requires.invariants
    (subst (λ (ds : List Device). KeepsDevices old.devices ds h.events) (sym c.set_has_disk.ensures) (has_keeps old h.events c.args.id true c.requires.invariants))
