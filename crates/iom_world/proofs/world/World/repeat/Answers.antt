use Rattle.std.proofs.Common.{◌+◌, refl, sym, subst}
use Rattle.iom_machine.specs.declared.outcome.Outcome.{Outcome}
use Rattle.iom_world_effects.specs.Messages.{RepeatsMessage, outcome_of_repeat}
use Rattle.iom_world_invariant.proofs.MessageKeeps.{keeps_repeated}
use Rattle.iom_world.proofs.InParts.{repeated_in_parts}
use Rattle.iom_world.proofs.OfHardware.{with_driver, counted, at_count, hardware_sound, agrees_now}
use Rattle.iom_world.specs.Shown.{parts_of}
use Rattle.iom_driver.specs.StateOf.{state_of}
use Rattle.iom_hardware.proofs.KeptBlocks.{copied}
use Rattle.iom_world.specs.OnHardware.{hardware_of}
use Rattle.iom_world.proofs.world.World.repeat.Goals as goal

pub repeat-requires-clause-invariants : goal.repeat-requires-clause-invariants
repeat-requires-clause-invariants g c = let world = c.args.self.now in hardware_sound (parts_of world) world.hardware.board.events world.invariants

pub invariant_of-self : goal.invariant_of-self
invariant_of-self g c =
    let world = c.args.self.now in
    let new = with_driver c.repeat.new.self (state_of world.driver) in
    let effect = repeated_in_parts (parts_of world) new refl c.args.place c.repeat.result c.repeat.ensures.effect in
    record {
      invariants = at_count new (world.hardware.board.events + 1) c.repeat.new.self.events c.repeat.ensures.counted.events
          (keeps_repeated (parts_of world) new (world.hardware.board.events + 1) c.args.place (outcome_of_repeat c.repeat.result) (counted world) effect);
      agrees = agrees_now world c.repeat.new.self (copied (hardware_of (parts_of world)) (hardware_of new) c.args.place c.repeat.result c.repeat.ensures.effect) c.repeat.ensures.counted.disks;
      room = world.room;
    }

pub returns-clause-effect : goal.returns-clause-effect
returns-clause-effect g c =
    let world = c.args.self.now in
    let new = with_driver c.repeat.new.self (state_of world.driver) in
    subst (λ (reply : Outcome). RepeatsMessage (parts_of world) c.args.place reply new) (sym c.repeat_answer.ensures)
    (repeated_in_parts (parts_of world) new refl c.args.place c.repeat.result c.repeat.ensures.effect)
