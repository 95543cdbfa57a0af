use Rattle.std.proofs.Common.{ap}
use Rattle.iom_hardware.specs.Agreement.{known_blocks}
use Rattle.iom_hardware_session.proofs.InvariantLemmas.{sound_now}
use Rattle.iom_hardware_session.proofs.LeftLemmas.{translated}
use Rattle.iom_hardware_session.proofs.stepped_events.translated.Goals as goal

pub returns-in-ReadTranslated-clause-beside : goal.returns-in-ReadTranslated-clause-beside
returns-in-ReadTranslated-clause-beside c =
    let call = c.translated in
    c.events_stay_beside.ensures.board _ _ _ _ c.requires.beside (translated _ _ _ _ _ _ call.ensures.effect) call.ensures.beside

pub returns-in-WriteTranslated-clause-beside : goal.returns-in-WriteTranslated-clause-beside
returns-in-WriteTranslated-clause-beside c =
    let call = c.translated-in-WriteTranslated in
    c.events_stay_beside.ensures.board _ _ _ _ c.requires.beside (translated _ _ _ _ _ _ call.ensures.effect) call.ensures.beside

pub returns-in-ReadTranslated-clause-invariants : goal.returns-in-ReadTranslated-clause-invariants
returns-in-ReadTranslated-clause-invariants c =
    let call = c.translated in
    sound_now c.args.hardware.now call.new.board c.requires.invariants call.ensures.invariants (ap known_blocks (translated _ _ _ _ _ _ call.ensures.effect)) call.ensures.counted.disks

pub returns-in-WriteTranslated-clause-invariants : goal.returns-in-WriteTranslated-clause-invariants
returns-in-WriteTranslated-clause-invariants c =
    let call = c.translated-in-WriteTranslated in
    sound_now c.args.hardware.now call.new.board c.requires.invariants call.ensures.invariants (ap known_blocks (translated _ _ _ _ _ _ call.ensures.effect)) call.ensures.counted.disks
