use Rattle.iom_hardware.proofs.KeptBlocks.{translated}
use Rattle.iom_hardware_session.proofs.InvariantLemmas.{sound_now}
use Rattle.iom_hardware_session.proofs.whole_events.translated.Goals as goal

pub returns-in-ReadTranslated-clause-invariants : goal.returns-in-ReadTranslated-clause-invariants
returns-in-ReadTranslated-clause-invariants c =
    let call = c.translated in
    sound_now c.args.hardware.now call.new.self c.requires.invariants call.ensures.invariants (translated _ _ _ _ _ call.ensures.effect) call.ensures.counted.disks

pub returns-in-WriteTranslated-clause-invariants : goal.returns-in-WriteTranslated-clause-invariants
returns-in-WriteTranslated-clause-invariants c =
    let call = c.translated-in-WriteTranslated in
    sound_now c.args.hardware.now call.new.self c.requires.invariants call.ensures.invariants (translated _ _ _ _ _ call.ensures.effect) call.ensures.counted.disks
