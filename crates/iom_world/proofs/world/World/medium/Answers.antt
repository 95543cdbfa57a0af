use Rattle.std.proofs.Common.{◌+◌, ◌∙◌, refl, sym, ap, subst}
use Rattle.iom_machine.specs.declared.event.Event.TheVariants as events
use Rattle.iom_machine.specs.declared.outcome.Outcome.{Outcome}
use Rattle.iom_driver.specs.StateOf.{state_of}
use Rattle.iom_world_effects.specs.Answers.{outcome_of_done}
use Rattle.iom_world_effects.specs.BlockDevices.{InsertsMedium}
use Rattle.iom_machine.specs.Disks.{disks_after}
use Rattle.iom_world_invariant.proofs.BlockKeeps.{keeps_medium}
use Rattle.iom_world.proofs.InParts.{inserted_in_parts, disks_left}
use Rattle.iom_world.proofs.OfHardware.{with_driver, counted, at_count, hardware_invariant}
use Rattle.iom_world.specs.Shown.{parts_of, disks_of, inside_of}
use Rattle.iom_world.specs.OnHardware.{hardware_of}
use Rattle.iom_hardware.specs.Inside.{inside}
use Rattle.iom_world.specs.Blocks.{InsertsIntoBlock}
use Rattle.iom_world.proofs.InsideTold.{done_or_not}
use Rattle.iom_world.proofs.world.World.medium.Goals as goal

pub medium-requires-clause-invariants : goal.medium-requires-clause-invariants
medium-requires-clause-invariants g c = hardware_invariant c.args.self.now

pub invariant_of-self : goal.invariant_of-self
invariant_of-self g c =
    let world = c.args.self.now in
    let new = with_driver c.medium.new.self.board (state_of world.driver) in
    let effect = inserted_in_parts (parts_of world) new refl (disks_of world) c.medium.new.self.board.disks.items c.args.id c.args.disk c.medium.result c.medium.ensures.effect in
    record {
      invariants = at_count new (world.hardware.board.events + 1) c.medium.new.self.board.events c.medium.ensures.events
          (keeps_medium (disks_of world) (parts_of world) new (world.hardware.board.events + 1) c.args.id c.args.disk (outcome_of_done c.medium.result) (counted world) effect);
      agrees = c.medium.ensures.invariants.agrees;
      room = c.medium.ensures.invariants.room;
    }

pub returns-clause-effect : goal.returns-clause-effect
returns-clause-effect g c =
    let world = c.args.self.now in
    let new = with_driver c.medium.new.self.board (state_of world.driver) in
    subst (λ (reply : Outcome). InsertsMedium (disks_of world) (parts_of world) c.args.id c.args.disk reply new) (sym c.done_answer.ensures)
    (inserted_in_parts (parts_of world) new refl (disks_of world) c.medium.new.self.board.disks.items c.args.id c.args.disk c.medium.result c.medium.ensures.effect)

pub returns-clause-disks : goal.returns-clause-disks
returns-clause-disks g c =
    let world = c.args.self.now in
    let new = with_driver c.medium.new.self.board (state_of world.driver) in
    disks_left (disks_of world) c.medium.new.self.board.disks.items (hardware_of (parts_of world)) (hardware_of new) c.args.id c.args.disk c.medium.result c.medium.ensures.effect
    ∙ sym (ap (λ (reply : Outcome). disks_after (events.Medium c.args.id c.args.disk) reply (disks_of world)) c.done_answer.ensures)

pub returns-clause-inside : goal.returns-clause-inside
returns-clause-inside g c =
    let world = c.args.self.now in
    subst (λ (reply : Outcome). InsertsIntoBlock c.args.disk (inside_of g.D.Disk.shown world) c.args.id reply (inside g.D.Disk.shown c.medium.new.self)) (sym c.done_answer.ensures)
    (done_or_not c.medium.result _ (inside_of g.D.Disk.shown world) (inside g.D.Disk.shown c.medium.new.self) c.medium.ensures.inside)
