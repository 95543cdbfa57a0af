use Rattle.iom_hardware.specs.Inside.{inside}
use Rattle.iom_virtio_blk.specs.MemoryDisks.{disk_state}
use Rattle.iom_hardware_session.proofs.stepped_events.of_block.Goals as goal

pub returns-in-Medium-clause-beside : goal.returns-in-Medium-clause-beside
returns-in-Medium-clause-beside c =
    let medium = c.medium in
    c.events_stay_beside.ensures.medium _ _ _ _ (inside disk_state c.args.hardware.now) (inside disk_state medium.new.self) c.args.walks.now _ _ medium.result c.requires.beside medium.ensures.effect medium.ensures.inside
