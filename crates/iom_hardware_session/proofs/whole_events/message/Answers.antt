use Rattle.iom_hardware.proofs.KeptBlocks.{question, forged, lost, copied}
use Rattle.iom_hardware_session.proofs.InvariantLemmas.{sound_now}
use Rattle.iom_hardware_session.proofs.whole_events.message.Goals as goal

pub returns-in-Ask-clause-invariants : goal.returns-in-Ask-clause-invariants
returns-in-Ask-clause-invariants c =
    let call = c.ask in
    sound_now c.args.hardware.now call.new.self c.requires.invariants call.ensures.invariants (question _ _ _ _ _ call.ensures.effect) call.ensures.counted.disks

pub returns-in-Forge-clause-invariants : goal.returns-in-Forge-clause-invariants
returns-in-Forge-clause-invariants c =
    let call = c.forge in
    sound_now c.args.hardware.now call.new.self c.requires.invariants call.ensures.invariants (forged _ _ _ _ _ call.ensures.effect) call.ensures.counted.disks

pub returns-in-Drop-clause-invariants : goal.returns-in-Drop-clause-invariants
returns-in-Drop-clause-invariants c =
    let call = c.drop_message in
    sound_now c.args.hardware.now call.new.self c.requires.invariants call.ensures.invariants (lost _ _ _ _ call.ensures.effect) call.ensures.counted.disks

pub returns-in-Repeat-clause-invariants : goal.returns-in-Repeat-clause-invariants
returns-in-Repeat-clause-invariants c =
    let call = c.repeat in
    sound_now c.args.hardware.now call.new.self c.requires.invariants call.ensures.invariants (copied _ _ _ _ call.ensures.effect) call.ensures.counted.disks
