use Rattle.std.proofs.Common.{◌+◌, slice_get, refl, sym, subst}
use Rattle.iom_machine.specs.declared.outcome.Outcome.{Outcome}
use Rattle.iom_world_effects.specs.Deliveries.{DeliversMessage}
use Rattle.iom_world_effects.proofs.DriverLemmas.{driver_invariant}
use Rattle.iom_world_effects.proofs.PartsLemmas.{stays_of, reported_of}
use Rattle.iom_world_invariant.proofs.AskedLemmas.{service_laws}
use Rattle.iom_world_refinement.proofs.EventLemmas.{epochs_counted}
use Rattle.iom_world.specs.OnHardware.{outcome_of_delivery}
use Rattle.iom_world.proofs.OfHardware.{keeps_delivered}
use Rattle.iom_world.proofs.InParts.{delivered_in_parts}
use Rattle.iom_world.proofs.OfHardware.{with_driver, counted, at_count, hardware_invariant}
use Rattle.iom_world.specs.Shown.{parts_of, inside_of}
use Rattle.iom_driver.specs.StateOf.{state_of}
use Rattle.iom_hardware.specs.Inside.{inside}
use Rattle.iom_world.specs.Blocks.{DeliversTo}
use Rattle.iom_world.proofs.InsideTold.{delivers_as_told}
use Rattle.iom_world.proofs.world.World.deliver.Goals as goal

pub deliver-requires-clause-invariants : goal.deliver-requires-clause-invariants
deliver-requires-clause-invariants g c = hardware_invariant c.args.self.now

pub invariant_of-self : goal.invariant_of-self
invariant_of-self g c =
    let world = c.args.self.now in
    let new = with_driver c.deliver.new.self.board (state_of world.driver) in
    let effect = delivered_in_parts (parts_of world) new refl c.args.place c.deliver.result c.deliver.ensures.effect in
    record {
      invariants = at_count new (world.hardware.board.events + 1) c.deliver.new.self.board.events c.deliver.ensures.counted.events
          (keeps_delivered (service_laws c.laws_below.ensures) (parts_of world) new (world.hardware.board.events + 1) c.args.place (outcome_of_delivery c.deliver.result) (counted world) (driver_invariant world.driver)
          (reported_of c.laws_below.ensures.reported world.driver) (stays_of c.laws_below.ensures.unchanged world.driver) (epochs_counted (parts_of world) world.hardware.board.events world.invariants) effect);
      agrees = c.deliver.ensures.invariants.agrees;
      room = c.deliver.ensures.invariants.room;
    }

pub returns-clause-effect : goal.returns-clause-effect
returns-clause-effect g c =
    let world = c.args.self.now in
    let new = with_driver c.deliver.new.self.board (state_of world.driver) in
    subst (λ (reply : Outcome). DeliversMessage (parts_of world) c.args.place reply new) (sym c.delivery_answer.ensures)
    (delivered_in_parts (parts_of world) new refl c.args.place c.deliver.result c.deliver.ensures.effect)

pub returns-clause-inside : goal.returns-clause-inside
returns-clause-inside g c =
    let world = c.args.self.now in
    let on = slice_get world.hardware.board.fabric c.args.place in
    subst (λ (reply : Outcome). DeliversTo on (inside_of g.D.Disk.shown world) reply (inside g.D.Disk.shown c.deliver.new.self)) (sym c.delivery_answer.ensures)
    (delivers_as_told on c.deliver.result (inside_of g.D.Disk.shown world) (inside g.D.Disk.shown c.deliver.new.self) c.deliver.ensures.inside)
