use Rattle.std.proofs.Common.{◌+◌, refl, sym, subst}
use Rattle.iom_driver.specs.StateOf.{state_of}
use Rattle.iom_hardware.specs.Inside.{inside}
use Rattle.iom_machine.specs.declared.outcome.Outcome.{Outcome}
use Rattle.iom_virtqueue.specs.Layouts.{layout_of}
use Rattle.iom_world_effects.specs.Answers.{outcome_of_done}
use Rattle.iom_world_effects.specs.BlockDevices.{SetsBlockQueue}
use Rattle.iom_world_effects.proofs.WalksLeft.{none_left}
use Rattle.iom_world_invariant.proofs.BlockKeeps.{keeps_queue}
use Rattle.iom_world_refinement.proofs.EventLemmas.{epochs_counted}
use Rattle.iom_world.specs.Blocks.{SetsQueueOf}
use Rattle.iom_world.specs.Shown.{parts_of, inside_of}
use Rattle.iom_world.proofs.OfHardware.{with_driver, counted, at_count, hardware_invariant}
use Rattle.iom_world.proofs.InsideTold.{done_or_not, queue_in_parts}
use Rattle.iom_world.proofs.world.World.queue.Goals as goal

pub queue-requires-clause-invariants : goal.queue-requires-clause-invariants
queue-requires-clause-invariants g c = hardware_invariant c.args.self.now

pub invariant_of-self : goal.invariant_of-self
invariant_of-self g c =
    let world = c.args.self.now in
    let new = with_driver c.queue.new.self.board (state_of world.driver) in
    let layout = layout_of c.args.size c.args.descriptors c.args.available c.args.used in
    let effect = queue_in_parts (parts_of world) new refl c.args.id layout c.queue.result c.queue.ensures.effect in
    record {
      invariants = at_count new (world.hardware.board.events + 1) c.queue.new.self.board.events c.queue.ensures.counted.events
          (keeps_queue (parts_of world) new (world.hardware.board.events + 1) c.args.id layout (outcome_of_done c.queue.result) (counted world)
          (epochs_counted (parts_of world) world.hardware.board.events world.invariants c.args.id) effect (none_left c.args.id));
      agrees = c.queue.ensures.invariants.agrees;
      room = c.queue.ensures.invariants.room;
    }

pub returns-clause-effect : goal.returns-clause-effect
returns-clause-effect g c =
    let world = c.args.self.now in
    let new = with_driver c.queue.new.self.board (state_of world.driver) in
    let layout = layout_of c.args.size c.args.descriptors c.args.available c.args.used in
    subst (λ (reply : Outcome). SetsBlockQueue (parts_of world) c.args.id layout reply new) (sym c.done_answer.ensures)
    (queue_in_parts (parts_of world) new refl c.args.id layout c.queue.result c.queue.ensures.effect)

pub returns-clause-inside : goal.returns-clause-inside
returns-clause-inside g c =
    let world = c.args.self.now in
    let layout = layout_of c.args.size c.args.descriptors c.args.available c.args.used in
    subst (λ (reply : Outcome). SetsQueueOf layout (inside_of g.D.Disk.shown world) c.args.id reply (inside g.D.Disk.shown c.queue.new.self)) (sym c.done_answer.ensures)
    (done_or_not c.queue.result _ (inside_of g.D.Disk.shown world) (inside g.D.Disk.shown c.queue.new.self) c.queue.ensures.inside)
