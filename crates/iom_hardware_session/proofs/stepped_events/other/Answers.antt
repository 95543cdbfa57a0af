use Rattle.std.proofs.Common.{sym, subst}
use Rattle.iom_board.specs.BoardParts.{BoardParts}
use Rattle.iom_hardware.specs.Inside.{inside}
use Rattle.iom_stepped_hardware.specs.Beside.{AreBesideHardware}
use Rattle.iom_virtio_blk.specs.MemoryDisks.{disk_state}
use Rattle.iom_hardware_session.proofs.stepped_events.other.Goals as goal

pub returns-in-Timeout-clause-beside : goal.returns-in-Timeout-clause-beside
returns-in-Timeout-clause-beside c =
    let effect = c.timeout.ensures.effect in
    c.events_stay_beside.ensures.board _ _ _ _ c.requires.beside effect.devices (c.events_stay_beside-2.ensures.timeout _ _ _ _ c.requires.beside.board effect)

pub returns-in-Poke-clause-beside : goal.returns-in-Poke-clause-beside
returns-in-Poke-clause-beside c =
    let beside = c.requires.beside in
    subst (λ (parts : BoardParts). AreBesideHardware parts (inside disk_state c.args.hardware.now).blocks c.args.walks.now) (sym c.store.ensures.rest)
    (record { board = record { ids = beside.board.ids; room = beside.board.room }; asking = beside.asking })
