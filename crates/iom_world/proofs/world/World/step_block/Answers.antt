use Rattle.std.proofs.Common.{◌+◌, refl, sym, subst}
use Rattle.iom_driver.specs.StateOf.{state_of}
use Rattle.iom_hardware.specs.Inside.{inside}
use Rattle.iom_machine.specs.declared.outcome.Outcome.{Outcome}
use Rattle.iom_world_effects.specs.BlockDevices.{TakesBlockStep}
use Rattle.iom_world_effects.proofs.DriverLemmas.{driver_invariant}
use Rattle.iom_world.specs.Blocks.{TakesStepOf}
use Rattle.iom_world.specs.OnHardware.{outcome_of_step, outcome_unless}
use Rattle.iom_world.specs.Shown.{parts_of, inside_of}
use Rattle.iom_world.proofs.OfHardware.{with_driver, counted, at_count, hardware_invariant}
use Rattle.iom_world.proofs.StepKeeps.{keeps_stepped}
use Rattle.iom_world.proofs.StepInParts.{step_in_parts}
use Rattle.iom_world_refinement.proofs.EventLemmas.{below_counted}
use Rattle.iom_world.proofs.world.World.step_block.Goals as goal

pub step-requires-clause-invariants : goal.step-requires-clause-invariants
step-requires-clause-invariants g c = hardware_invariant c.args.self.now

pub invariant_of-self : goal.invariant_of-self
invariant_of-self g c =
    let world = c.args.self.now in
    let new = with_driver c.step.new.self.board (state_of world.driver) in
    let effect = step_in_parts (parts_of world) new refl (inside_of g.D.Disk.shown world) (inside g.D.Disk.shown c.step.new.self) c.args.id c.step.result c.step.ensures.refused c.step.ensures.steps in
    record {
      invariants = at_count new (world.hardware.board.events + 1) c.step.new.self.board.events c.step.ensures.counted.events
          (keeps_stepped c.laws_below.ensures world.driver (parts_of world) new (world.hardware.board.events + 1) c.args.id (outcome_unless outcome_of_step c.step.result) (counted world) (driver_invariant world.driver) refl
          (below_counted (parts_of world) world.hardware.board.events world.invariants) effect.0);
      agrees = c.step.ensures.invariants.agrees;
      room = c.step.ensures.invariants.room;
    }

pub returns-clause-effect : goal.returns-clause-effect
returns-clause-effect g c =
    let world = c.args.self.now in
    let new = with_driver c.step.new.self.board (state_of world.driver) in
    subst (λ (reply : Outcome). TakesBlockStep (parts_of world) c.args.id reply new) (sym c.step_answer.ensures)
    (step_in_parts (parts_of world) new refl (inside_of g.D.Disk.shown world) (inside g.D.Disk.shown c.step.new.self) c.args.id c.step.result c.step.ensures.refused c.step.ensures.steps).0

pub returns-clause-inside : goal.returns-clause-inside
returns-clause-inside g c =
    let world = c.args.self.now in
    let new = with_driver c.step.new.self.board (state_of world.driver) in
    subst (λ (reply : Outcome). TakesStepOf (parts_of world) (inside_of g.D.Disk.shown world) c.args.id reply new (inside g.D.Disk.shown c.step.new.self)) (sym c.step_answer.ensures)
    (step_in_parts (parts_of world) new refl (inside_of g.D.Disk.shown world) (inside g.D.Disk.shown c.step.new.self) c.args.id c.step.result c.step.ensures.refused c.step.ensures.steps).1
