use Rattle.std.proofs.Common.{◌+◌, ◌<◌, ◌^◌, refl, sym, subst}
use Rattle.iom_machine.specs.declared.outcome.Outcome.{Outcome}
use Rattle.iom_world_effects.specs.Messages.{AsksQuestion}
use Rattle.iom_world_invariant.proofs.MessageKeeps.{keeps_question}
use Rattle.iom_world.specs.OnHardware.{outcome_unless, outcome_of_sending}
use Rattle.iom_world.proofs.InParts.{question_in_parts}
use Rattle.iom_world.proofs.OfHardware.{with_driver, counted, at_count, hardware_sound, agrees_now}
use Rattle.iom_world.specs.Shown.{parts_of}
use Rattle.iom_driver.specs.StateOf.{state_of}
use Rattle.iom_hardware.proofs.KeptBlocks.{question}
use Rattle.iom_world.specs.OnHardware.{hardware_of}
use Rattle.iom_world.proofs.world.World.ask.Goals as goal

pub ask-requires-clause-invariants : goal.ask-requires-clause-invariants
ask-requires-clause-invariants g c = let world = c.args.self.now in hardware_sound (parts_of world) world.hardware.board.events world.invariants

pub invariant_of-self : goal.invariant_of-self
invariant_of-self g c =
    let world = c.args.self.now in
    let new = with_driver c.ask.new.self (state_of world.driver) in
    let effect = question_in_parts (parts_of world) new refl c.args.id c.args.page c.ask.result c.ask.ensures.effect in
    record {
      invariants = at_count new (world.hardware.board.events + 1) c.ask.new.self.events c.ask.ensures.counted.events
          (keeps_question (parts_of world) new (world.hardware.board.events + 1) c.args.id c.args.page (outcome_unless outcome_of_sending c.ask.result) (counted world) (subst (λ n. n < 2 ^ 52) c.number.ensures.value c.number.ensures.range) effect);
      agrees = agrees_now world c.ask.new.self (question (hardware_of (parts_of world)) (hardware_of new) c.args.id c.args.page c.ask.result c.ask.ensures.effect) c.ask.ensures.counted.disks;
      room = world.room;
    }

pub returns-clause-effect : goal.returns-clause-effect
returns-clause-effect g c =
    let world = c.args.self.now in
    let new = with_driver c.ask.new.self (state_of world.driver) in
    subst (λ (reply : Outcome). AsksQuestion (parts_of world) c.args.id c.args.page reply new) (sym c.send_answer.ensures)
    (question_in_parts (parts_of world) new refl c.args.id c.args.page c.ask.result c.ask.ensures.effect)
