use Rattle.std.proofs.Common.{◌+◌, Bool, if◌then◌else◌, refl, subst}
use Rattle.iom_machine.specs.declared.outcome.Outcome.TheVariants as outcome
use Rattle.iom_world_effects.specs.Messages.{DropsMessage}
use Rattle.iom_world_invariant.proofs.MessageKeeps.{keeps_dropped}
use Rattle.iom_world.proofs.InParts.{dropped_in_parts}
use Rattle.iom_world.proofs.OfHardware.{with_driver, counted, at_count, hardware_sound, agrees_now}
use Rattle.iom_world.specs.Shown.{parts_of}
use Rattle.iom_driver.specs.StateOf.{state_of}
use Rattle.iom_hardware.proofs.KeptBlocks.{lost}
use Rattle.iom_world.specs.OnHardware.{hardware_of}
use Rattle.iom_world.proofs.world.World.drop_message.Goals as goal

pub drop_message-requires-clause-invariants : goal.drop_message-requires-clause-invariants
drop_message-requires-clause-invariants g c = let world = c.args.self.now in hardware_sound (parts_of world) world.hardware.board.events world.invariants

pub invariant_of-self : goal.invariant_of-self
invariant_of-self g c =
    let world = c.args.self.now in
    let new = with_driver c.drop_message.new.self (state_of world.driver) in
    record {
      invariants = at_count new (world.hardware.board.events + 1) c.drop_message.new.self.events c.drop_message.ensures.counted.events
          (keeps_dropped (parts_of world) new (world.hardware.board.events + 1) c.args.place (if c.drop_message.result then outcome.Dropped else outcome.NoMessage) (counted world)
          (dropped_in_parts (parts_of world) new refl c.args.place c.drop_message.result c.drop_message.ensures.effect));
      agrees = agrees_now world c.drop_message.new.self (lost (hardware_of (parts_of world)) (hardware_of new) c.args.place c.drop_message.result c.drop_message.ensures.effect) c.drop_message.ensures.counted.disks;
      room = world.room;
    }

pub returns-then-drop_message-clause-effect : goal.returns-then-drop_message-clause-effect
returns-then-drop_message-clause-effect g c =
    let world = c.args.self.now in
    let new = with_driver c.drop_message.new.self (state_of world.driver) in
    subst (λ (b : Bool). DropsMessage (parts_of world) c.args.place (if b then outcome.Dropped else outcome.NoMessage) new) c.if-drop_message.true
    (dropped_in_parts (parts_of world) new refl c.args.place c.drop_message.result c.drop_message.ensures.effect)

pub returns-else-drop_message-clause-effect : goal.returns-else-drop_message-clause-effect
returns-else-drop_message-clause-effect g c =
    let world = c.args.self.now in
    let new = with_driver c.drop_message.new.self (state_of world.driver) in
    subst (λ (b : Bool). DropsMessage (parts_of world) c.args.place (if b then outcome.Dropped else outcome.NoMessage) new) c.if-drop_message.false
    (dropped_in_parts (parts_of world) new refl c.args.place c.drop_message.result c.drop_message.ensures.effect)
