use Rattle.iom_hardware_session.proofs.InvariantLemmas.{invariant_beside}
use Rattle.iom_stepped_ways.specs.Calls.{Load}
use Rattle.iom_board.specs.BoardParts.{board_parts}
use Rattle.iom_hardware_session.proofs.stepped_events.load.Goals as goal

pub returns-clause-sound : goal.returns-clause-sound
returns-clause-sound c =
    let old = c.args.hardware.now in
    let load = c.load-load in
    record {
      walks = c.facts.ensures;
      beside = load.ensures.beside;
      kinds = c.scene_law.ensures.kinds (Load c.args.device load.result) old.board.events (board_parts old.board) (board_parts load.new.hardware.board) c.args.walks.now load.new.walks
          (invariant_beside old c.args.walks.now c.requires.invariants c.requires.sound) load.ensures.effect c.requires.sound.kinds;
    }
