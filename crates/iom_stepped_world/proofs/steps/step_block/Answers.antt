use Rattle.std.proofs.Common.{◌+◌, refl, sym, subst}
use Rattle.iom_driver.specs.StateOf.{state_of}
use Rattle.iom_hardware.proofs.BlockThere.{there_able}
use Rattle.iom_machine.specs.declared.event.Event.TheVariants as events
use Rattle.iom_stepped_machine.specs.Machine.{Whole}
use Rattle.iom_stepped_world.specs.Happens.{Does}
use Rattle.iom_stepped_world.specs.Shown.{stepped_of}
use Rattle.iom_stepped_world.proofs.After.{shown_after}
use Rattle.iom_stepped_world.proofs.Around.{Around}
use Rattle.iom_stepped_world.proofs.StepLemmas.{step_does, steps_well}
use Rattle.iom_world.proofs.OfHardware.{at_count, hardware_invariant, with_driver}
use Rattle.iom_world_effects.proofs.DriverLemmas.{driver_invariant}
use Rattle.iom_stepped_world.proofs.steps.step_block.Goals as goal

pub step-requires-clause-invariants : goal.step-requires-clause-invariants
step-requires-clause-invariants g c = hardware_invariant c.args.world.now

pub invariant_of-world : goal.invariant_of-world
invariant_of-world g c =
    let world = c.args.world.now in
    let board = c.step.new.hardware.board in
    let old = stepped_of g.D.Disk.shown world c.args.walks.now in
    let new = shown_after g.D.Disk.shown c.step.new.hardware (state_of world.driver) c.step.new.walks in
    record {
      invariants = at_count (with_driver board (state_of world.driver)) (world.hardware.board.events + 1) board.events c.step.ensures.counted.events
          (steps_well c.laws_below.ensures c.begins_law.ensures c.idle_law.ensures.facts world.driver old new c.args.id refl (driver_invariant world.driver) world.invariants c.requires.sound.invariant c.requires.sound.beside refl
          (there_able g.D.Disk.shown world.hardware (hardware_invariant world) c.args.id) c.step.result c.step.ensures.steps).2;
      agrees = c.step.ensures.invariants.agrees;
      room = c.step.ensures.invariants.room;
    }

pub returns-clause-does : goal.returns-clause-does
returns-clause-does g c =
    let world = c.args.world.now in
    let old = stepped_of g.D.Disk.shown world c.args.walks.now in
    let new = shown_after g.D.Disk.shown c.step.new.hardware (state_of world.driver) c.step.new.walks in
    let around : Around old new = record {
      before = world.invariants;
      after =
          at_count new.world.parts (world.hardware.board.events + 1) new.world.events c.step.ensures.counted.events
          (steps_well c.laws_below.ensures c.begins_law.ensures c.idle_law.ensures.facts world.driver old new c.args.id refl (driver_invariant world.driver) world.invariants c.requires.sound.invariant c.requires.sound.beside refl
          (there_able g.D.Disk.shown world.hardware (hardware_invariant world) c.args.id) c.step.result c.step.ensures.steps).2;
      counted = c.step.ensures.counted.events;
    } in
    subst (λ o. Does old (Whole (events.Step c.args.id)) o new) (sym c.step_outcome.ensures)
    (step_does c.laws_below.ensures c.begins_law.ensures c.idle_law.ensures.facts world.driver old new c.args.id refl (driver_invariant world.driver) world.invariants c.requires.sound.invariant c.requires.sound.beside refl
    (there_able g.D.Disk.shown world.hardware (hardware_invariant world) c.args.id) c.step.result around c.step.ensures.counted.disks c.step.ensures.steps)
