use Rattle.std.proofs.Common.{◌+◌, refl, sym, subst}
use Rattle.iom_driver.specs.StateOf.{state_of}
use Rattle.iom_stepped_machine.specs.Machine.{Load}
use Rattle.iom_stepped_world.specs.Happens.{Does}
use Rattle.iom_stepped_world.specs.Shown.{stepped_of}
use Rattle.iom_stepped_world.proofs.After.{shown_after}
use Rattle.iom_stepped_world.proofs.Around.{Around}
use Rattle.iom_stepped_world.proofs.LoadedLemmas.{loaded_does, loaded_keeps}
use Rattle.iom_world.proofs.OfHardware.{at_count, hardware_invariant, with_driver}
use Rattle.iom_world.specs.Shown.{parts_of}
use Rattle.iom_stepped_world.proofs.loads.load.Goals as goal

pub load-made-requires-clause-invariants : goal.load-made-requires-clause-invariants
load-made-requires-clause-invariants g c = hardware_invariant c.args.world.now

pub invariant_of-world : goal.invariant_of-world
invariant_of-world g c =
    let world = c.args.world.now in
    let board = c.load-made.new.hardware.board in
    let new = with_driver board (state_of world.driver) in
    record {
      invariants = at_count new (world.hardware.board.events + 1) board.events c.load-made.ensures.counted.events
          (loaded_keeps c.loads_law.ensures c.idle_law.ensures.facts world.driver (parts_of world) new world.hardware.board.events c.args.id c.args.walks.now c.load-made.new.walks c.load-made.result refl c.facts.ensures
          c.requires.sound.invariant refl c.load-made.ensures.effect);
      agrees = c.load-made.ensures.invariants.agrees;
      room = c.load-made.ensures.invariants.room;
    }

pub returns-clause-does : goal.returns-clause-does
returns-clause-does g c =
    let world = c.args.world.now in
    let old = stepped_of g.D.Disk.shown world c.args.walks.now in
    let new = shown_after g.D.Disk.shown c.load-made.new.hardware (state_of world.driver) c.load-made.new.walks in
    let around : Around old new = record {
      before = world.invariants;
      after =
          at_count new.world.parts (world.hardware.board.events + 1) new.world.events c.load-made.ensures.counted.events
          (loaded_keeps c.loads_law.ensures c.idle_law.ensures.facts world.driver (parts_of world) new.world.parts world.hardware.board.events c.args.id c.args.walks.now c.load-made.new.walks c.load-made.result refl c.facts.ensures
          c.requires.sound.invariant refl c.load-made.ensures.effect);
      counted = c.load-made.ensures.counted.events;
    } in
    subst (λ o. Does old (Load c.args.id) o new) (sym c.load_outcome.ensures)
    (loaded_does old new c.args.id c.load-made.result around refl c.load-made.ensures.counted.disks c.load-made.ensures.inside c.load-made.ensures.effect)
