use Rattle.std.proofs.Common.{◌+◌, refl}
use Rattle.iom_driver.specs.StateOf.{state_of}
use Rattle.iom_world_effects.specs.Effect.{outcome_of_poll}
use Rattle.iom_world_effects.specs.Parts.{Parts}
use Rattle.iom_world.specs.Shown.{parts_of}
use Rattle.iom_world_invariant.proofs.PollKeeps.{keeps_polled, polled_low}
use Rattle.iom_world_effects.proofs.DriverLemmas.{driver_invariant}
use Rattle.iom_world.proofs.OfHardware.{counted}
use Rattle.iom_world.proofs.world.World.poll.Goals as goal

pub invariant_of-self : goal.invariant_of-self
invariant_of-self g c =
    let world = c.args.self.now in
    let new : Parts = record { memory = c.poll.new.memory; iommu = world.hardware.board.iommu; driver = state_of c.poll.new.self; devices = world.hardware.board.devices.items; fabric = world.hardware.board.fabric } in
    record {
      invariants = keeps_polled (parts_of world) new (world.hardware.board.events + 1) (outcome_of_poll c.poll.result) (counted world) (driver_invariant world.driver) c.poll.ensures.ready
          record { answer = c.poll.result; reply_is = refl; call = c.poll.ensures.effect; iommu = refl; devices = refl; fabric = refl };
      agrees = world.agrees;
      room = world.room;
    }

pub poll_answer-requires : goal.poll_answer-requires
poll_answer-requires g c = polled_low (parts_of c.args.self.now) c.args.self.now.hardware.board.events c.in-Ok.polled (state_of c.poll.new.self) c.poll.new.memory c.args.self.now.invariants (driver_invariant c.args.self.now.driver) c.in-Ok.ensures.effect
