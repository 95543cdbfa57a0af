use Rattle.iom_hardware_session.proofs.InvariantLemmas.{all_there, invariant_beside}
use Rattle.iom_hardware_session.proofs.SteppedEventLemmas.{kinds_after_any}
use Rattle.iom_hardware_session.specs.Shown.{shown_beside}
use Rattle.iom_hardware_session.specs.declared.beside.Beside.TheVariants.{UnderWay}
use Rattle.iom_hardware_session.proofs.stepped_events.event.Goals as goal

pub returns-clause-sound : goal.returns-clause-sound
returns-clause-sound c =
    let old = c.args.hardware.now in
    record {
      walks = c.facts.ensures;
      beside = c.happen-answer.ensures.beside;
      kinds = kinds_after_any c.scene_law.ensures.kinds c.scene_law.ensures.software_kinds (shown_beside (UnderWay c.args.walks.now) old) (shown_beside (UnderWay c.happen-answer.new.walks) c.happen-answer.new.hardware)
          c.args.walks.now c.happen-answer.new.walks old.board.events (invariant_beside old c.args.walks.now c.requires.invariants c.requires.sound) c.requires.sound.kinds c.args.event.now
          c.happen-answer.result (all_there old c.requires.invariants) c.happen-answer.ensures.effect c.happen-answer.ensures.foreign;
    }
