use Rattle.std.proofs.Common.{ap}
use Rattle.iom_hardware.specs.Agreement.{known_blocks}
use Rattle.iom_hardware_session.proofs.InvariantLemmas.{sound_now}
use Rattle.iom_hardware_session.proofs.LeftLemmas.{cached}
use Rattle.iom_hardware_session.proofs.stepped_events.through_cache.Goals as goal

pub returns-in-ReadThroughCache-clause-beside : goal.returns-in-ReadThroughCache-clause-beside
returns-in-ReadThroughCache-clause-beside c =
    let call = c.through_cache in
    c.events_stay_beside.ensures.board _ _ _ _ c.requires.beside (cached _ _ _ _ _ _ _ call.ensures.effect) call.ensures.beside

pub returns-in-WriteThroughCache-clause-beside : goal.returns-in-WriteThroughCache-clause-beside
returns-in-WriteThroughCache-clause-beside c =
    let call = c.through_cache-in-WriteThroughCache in
    c.events_stay_beside.ensures.board _ _ _ _ c.requires.beside (cached _ _ _ _ _ _ _ call.ensures.effect) call.ensures.beside

pub returns-in-ReadThroughCache-clause-invariants : goal.returns-in-ReadThroughCache-clause-invariants
returns-in-ReadThroughCache-clause-invariants c =
    let call = c.through_cache in
    sound_now c.args.hardware.now call.new.board c.requires.invariants call.ensures.invariants (ap known_blocks (cached _ _ _ _ _ _ _ call.ensures.effect)) call.ensures.counted.disks

pub returns-in-WriteThroughCache-clause-invariants : goal.returns-in-WriteThroughCache-clause-invariants
returns-in-WriteThroughCache-clause-invariants c =
    let call = c.through_cache-in-WriteThroughCache in
    sound_now c.args.hardware.now call.new.board c.requires.invariants call.ensures.invariants (ap known_blocks (cached _ _ _ _ _ _ _ call.ensures.effect)) call.ensures.counted.disks
