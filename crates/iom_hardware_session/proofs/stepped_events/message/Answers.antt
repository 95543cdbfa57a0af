use Rattle.iom_board.specs.BoardParts.{board_parts}
use Rattle.iom_hardware.proofs.KeptBlocks as known
use Rattle.iom_hardware.specs.Inside.{inside}
use Rattle.iom_hardware_session.proofs.InvariantLemmas.{sound_now}
use Rattle.iom_hardware_session.proofs.LeftLemmas.{question, forged, lost, copied}
use Rattle.iom_virtio_blk.specs.MemoryDisks.{disk_state}
use Rattle.iom_hardware_session.proofs.stepped_events.message.Goals as goal

pub returns-in-Ask-clause-beside : goal.returns-in-Ask-clause-beside
returns-in-Ask-clause-beside c =
    c.events_stay_beside.ensures.board _ _ _ _ c.requires.beside (question _ _ _ _ _ c.ask.ensures.effect) (c.events_stay_beside-2.ensures.question _ _ _ _ _ _ c.requires.beside.board c.ask.ensures.effect)

pub returns-in-Forge-clause-beside : goal.returns-in-Forge-clause-beside
returns-in-Forge-clause-beside c =
    c.events_stay_beside.ensures.board _ _ _ _ c.requires.beside (forged _ _ _ _ _ c.forge.ensures.effect) (c.events_stay_beside-2.ensures.claim _ _ _ _ _ _ c.requires.beside.board c.forge.ensures.effect)

pub returns-in-Drop-clause-beside : goal.returns-in-Drop-clause-beside
returns-in-Drop-clause-beside c =
    c.events_stay_beside.ensures.board _ _ _ _ c.requires.beside (lost _ _ _ _ c.drop_message.ensures.effect) (c.events_stay_beside-2.ensures.loss _ _ _ _ _ c.requires.beside.board c.drop_message.ensures.effect)

pub returns-in-Repeat-clause-beside : goal.returns-in-Repeat-clause-beside
returns-in-Repeat-clause-beside c =
    c.events_stay_beside.ensures.board _ _ _ _ c.requires.beside (copied _ _ _ _ c.repeat.ensures.effect) (c.events_stay_beside-2.ensures.copy _ _ _ _ _ c.requires.beside.board c.repeat.ensures.effect)

pub returns-in-Deliver-clause-beside : goal.returns-in-Deliver-clause-beside
returns-in-Deliver-clause-beside c =
    let old = c.args.hardware.now in
    let new = c.deliver.new.self in
    c.events_stay_beside.ensures.delivery (board_parts old.board) (board_parts new.board) (inside disk_state old) (inside disk_state new) c.args.walks.now old.board.events _
    c.deliver.result c.requires.invariants.board c.requires.beside c.deliver.ensures.effect c.deliver.ensures.inside

pub returns-in-Ask-clause-invariants : goal.returns-in-Ask-clause-invariants
returns-in-Ask-clause-invariants c =
    let call = c.ask in
    sound_now c.args.hardware.now call.new.self c.requires.invariants call.ensures.invariants (known.question _ _ _ _ _ call.ensures.effect) call.ensures.counted.disks

pub returns-in-Forge-clause-invariants : goal.returns-in-Forge-clause-invariants
returns-in-Forge-clause-invariants c =
    let call = c.forge in
    sound_now c.args.hardware.now call.new.self c.requires.invariants call.ensures.invariants (known.forged _ _ _ _ _ call.ensures.effect) call.ensures.counted.disks

pub returns-in-Drop-clause-invariants : goal.returns-in-Drop-clause-invariants
returns-in-Drop-clause-invariants c =
    let call = c.drop_message in
    sound_now c.args.hardware.now call.new.self c.requires.invariants call.ensures.invariants (known.lost _ _ _ _ call.ensures.effect) call.ensures.counted.disks

pub returns-in-Repeat-clause-invariants : goal.returns-in-Repeat-clause-invariants
returns-in-Repeat-clause-invariants c =
    let call = c.repeat in
    sound_now c.args.hardware.now call.new.self c.requires.invariants call.ensures.invariants (known.copied _ _ _ _ call.ensures.effect) call.ensures.counted.disks
