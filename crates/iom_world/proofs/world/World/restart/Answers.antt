use Rattle.std.proofs.Common.{◌+◌, refl}
use Rattle.iom_driver.specs.StateOf.{state_of}
use Rattle.iom_world_effects.specs.Answers.{outcome_of_done}
use Rattle.iom_world_effects.specs.Parts.{Parts}
use Rattle.iom_world.specs.Shown.{parts_of}
use Rattle.iom_world_effects.proofs.DriverLemmas.{driver_invariant}
use Rattle.iom_world_invariant.proofs.RestartKeeps.{keeps_restarted}
use Rattle.iom_world.proofs.OfHardware.{counted}
use Rattle.iom_world.proofs.world.World.restart.Goals as goal

pub invariant_of-self : goal.invariant_of-self
invariant_of-self g c =
    let world = c.args.self.now in
    let new : Parts = record { memory = c.restart.new.memory; iommu = c.restart.new.io; driver = state_of c.restart.new.self; devices = world.hardware.board.devices.items; fabric = world.hardware.board.fabric } in
    record {
      invariants = keeps_restarted (parts_of world) new (world.hardware.board.events + 1) (outcome_of_done c.restart.result) (counted world) (driver_invariant world.driver) c.restart.ensures.ready
          record { answer = c.restart.result; reply_is = refl; call = c.restart.ensures.effect; devices = refl; fabric = refl };
      agrees = world.agrees;
      room = world.room;
    }
