use Rattle.iom_hardware.proofs.KeptBlocks.{cached}
use Rattle.iom_hardware_session.proofs.InvariantLemmas.{sound_now}
use Rattle.iom_hardware_session.proofs.whole_events.through_cache.Goals as goal

pub returns-in-ReadThroughCache-clause-invariants : goal.returns-in-ReadThroughCache-clause-invariants
returns-in-ReadThroughCache-clause-invariants c =
    let call = c.through_cache in
    sound_now c.args.hardware.now call.new.self c.requires.invariants call.ensures.invariants (cached _ _ _ _ _ _ call.ensures.effect) call.ensures.counted.disks

pub returns-in-WriteThroughCache-clause-invariants : goal.returns-in-WriteThroughCache-clause-invariants
returns-in-WriteThroughCache-clause-invariants c =
    let call = c.through_cache-in-WriteThroughCache in
    sound_now c.args.hardware.now call.new.self c.requires.invariants call.ensures.invariants (cached _ _ _ _ _ _ call.ensures.effect) call.ensures.counted.disks
