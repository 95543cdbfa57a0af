use Rattle.std.proofs.Common.{◌+◌, refl, sym, subst}
use Rattle.iom_machine.specs.declared.outcome.Outcome.{Outcome}
use Rattle.iom_world_effects.specs.Answers.{outcome_of_done}
use Rattle.iom_world_effects.specs.Recovery.{ResetsDevice}
use Rattle.iom_world_effects.proofs.WalksLeft.{none_left}
use Rattle.iom_world_invariant.proofs.ResetKeeps.{keeps_reset}
use Rattle.iom_world_refinement.proofs.EventLemmas.{epochs_counted}
use Rattle.iom_world.proofs.InParts.{reset_in_parts}
use Rattle.iom_world.proofs.OfHardware.{with_driver, counted, at_count, hardware_invariant}
use Rattle.iom_world.specs.Shown.{parts_of, inside_of}
use Rattle.iom_driver.specs.StateOf.{state_of}
use Rattle.iom_hardware.specs.Inside.{inside}
use Rattle.iom_world.specs.Blocks.{ResetsBlock}
use Rattle.iom_world.proofs.InsideTold.{done_or_not}
use Rattle.iom_world.proofs.world.World.reset.Goals as goal

pub reset-requires-clause-invariants : goal.reset-requires-clause-invariants
reset-requires-clause-invariants g c = hardware_invariant c.args.self.now

pub invariant_of-self : goal.invariant_of-self
invariant_of-self g c =
    let world = c.args.self.now in
    let new = with_driver c.reset.new.self.board (state_of world.driver) in
    let effect = reset_in_parts (parts_of world) new refl c.args.device c.reset.result c.reset.ensures.effect in
    record {
      invariants = at_count new (world.hardware.board.events + 1) c.reset.new.self.board.events c.reset.ensures.counted.events
          (keeps_reset (parts_of world) new (world.hardware.board.events + 1) c.args.device (outcome_of_done c.reset.result) (counted world) (epochs_counted (parts_of world) world.hardware.board.events world.invariants c.args.device) effect
          (none_left c.args.device));
      agrees = c.reset.ensures.invariants.agrees;
      room = c.reset.ensures.invariants.room;
    }

pub returns-clause-effect : goal.returns-clause-effect
returns-clause-effect g c =
    let world = c.args.self.now in
    let new = with_driver c.reset.new.self.board (state_of world.driver) in
    subst (λ (reply : Outcome). ResetsDevice (parts_of world) c.args.device reply new) (sym c.done_answer.ensures)
    (reset_in_parts (parts_of world) new refl c.args.device c.reset.result c.reset.ensures.effect)

pub returns-clause-inside : goal.returns-clause-inside
returns-clause-inside g c =
    let world = c.args.self.now in
    subst (λ (reply : Outcome). ResetsBlock (inside_of g.D.Disk.shown world) c.args.device reply (inside g.D.Disk.shown c.reset.new.self)) (sym c.done_answer.ensures)
    (done_or_not c.reset.result _ (inside_of g.D.Disk.shown world) (inside g.D.Disk.shown c.reset.new.self) c.reset.ensures.inside)
