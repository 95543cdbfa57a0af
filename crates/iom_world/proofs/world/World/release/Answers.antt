use Rattle.std.proofs.Common.{◌+◌, refl}
use Rattle.iom_driver.specs.StateOf.{state_of}
use Rattle.iom_world_effects.specs.Answers.{outcome_of_ticket}
use Rattle.iom_world_effects.specs.Parts.{Parts}
use Rattle.iom_world.specs.Shown.{parts_of}
use Rattle.iom_world_effects.proofs.DriverLemmas.{driver_invariant}
use Rattle.iom_world_invariant.proofs.ReleaseKeeps.{keeps_released}
use Rattle.iom_world.proofs.OfHardware.{counted}
use Rattle.iom_world.proofs.world.World.release.Goals as goal

pub invariant_of-self : goal.invariant_of-self
invariant_of-self g c =
    let world = c.args.self.now in
    let new : Parts = record { memory = c.release-answer.new.memory; iommu = c.release-answer.new.io; driver = state_of c.release-answer.new.self; devices = world.hardware.board.devices.items; fabric = world.hardware.board.fabric } in
    record {
      invariants = keeps_released (parts_of world) new (world.hardware.board.events + 1) c.args.id c.args.page (outcome_of_ticket c.release-answer.result) (counted world) (driver_invariant world.driver) c.release-answer.ensures.ready
          record { answer = c.release-answer.result; reply_is = refl; call = c.release-answer.ensures.effect; devices = refl; fabric = refl };
      agrees = world.agrees;
      room = world.room;
    }
