use Rattle.iom_hardware.proofs.KeptBlocks.{requested}
use Rattle.iom_hardware_session.proofs.InvariantLemmas.{sound_now}
use Rattle.iom_hardware_session.proofs.whole_events.untranslated.Goals as goal

pub returns-in-Read-clause-invariants : goal.returns-in-Read-clause-invariants
returns-in-Read-clause-invariants c =
    let call = c.request in
    sound_now c.args.hardware.now call.new.self c.requires.invariants call.ensures.invariants (requested _ _ _ _ _ _ call.ensures.effect) call.ensures.counted.disks

pub returns-in-Write-clause-invariants : goal.returns-in-Write-clause-invariants
returns-in-Write-clause-invariants c =
    let call = c.request-in-Write in
    sound_now c.args.hardware.now call.new.self c.requires.invariants call.ensures.invariants (requested _ _ _ _ _ _ call.ensures.effect) call.ensures.counted.disks
