use Rattle.std.proofs.Common.{◌+◌, refl, sym, subst}
use Rattle.iom_machine.specs.declared.outcome.Outcome.{Outcome}
use Rattle.iom_world_effects.specs.Messages.{ForgesCompletion}
use Rattle.iom_world_invariant.proofs.MessageKeeps.{keeps_forged}
use Rattle.iom_world.specs.OnHardware.{outcome_unless, outcome_of_sending}
use Rattle.iom_world.proofs.InParts.{forged_in_parts}
use Rattle.iom_world.proofs.OfHardware.{with_driver, counted, at_count, hardware_sound, agrees_now}
use Rattle.iom_world.specs.Shown.{parts_of}
use Rattle.iom_driver.specs.StateOf.{state_of}
use Rattle.iom_hardware.proofs.KeptBlocks.{forged}
use Rattle.iom_world.specs.OnHardware.{hardware_of}
use Rattle.iom_world.proofs.world.World.forge.Goals as goal

pub forge-requires-clause-invariants : goal.forge-requires-clause-invariants
forge-requires-clause-invariants g c = let world = c.args.self.now in hardware_sound (parts_of world) world.hardware.board.events world.invariants

pub invariant_of-self : goal.invariant_of-self
invariant_of-self g c =
    let world = c.args.self.now in
    let new = with_driver c.forge.new.self (state_of world.driver) in
    let effect = forged_in_parts (parts_of world) new refl c.args.id c.args.serial c.forge.result c.forge.ensures.effect in
    record {
      invariants = at_count new (world.hardware.board.events + 1) c.forge.new.self.events c.forge.ensures.counted.events
          (keeps_forged (parts_of world) new (world.hardware.board.events + 1) c.args.id c.args.serial (outcome_unless outcome_of_sending c.forge.result) (counted world) effect);
      agrees = agrees_now world c.forge.new.self (forged (hardware_of (parts_of world)) (hardware_of new) c.args.id c.args.serial c.forge.result c.forge.ensures.effect) c.forge.ensures.counted.disks;
      room = world.room;
    }

pub returns-clause-effect : goal.returns-clause-effect
returns-clause-effect g c =
    let world = c.args.self.now in
    let new = with_driver c.forge.new.self (state_of world.driver) in
    subst (λ (reply : Outcome). ForgesCompletion (parts_of world) c.args.id c.args.serial reply new) (sym c.send_answer.ensures)
    (forged_in_parts (parts_of world) new refl c.args.id c.args.serial c.forge.result c.forge.ensures.effect)
