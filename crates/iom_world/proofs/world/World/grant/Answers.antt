use Rattle.std.proofs.Common.{◌+◌, refl}
use Rattle.iom_driver.specs.StateOf.{state_of}
use Rattle.iom_world_effects.specs.Answers.{outcome_of_done}
use Rattle.iom_world_effects.specs.Parts.{Parts}
use Rattle.iom_world.specs.Shown.{parts_of}
use Rattle.iom_world_invariant.proofs.DriverKeeps.{keeps_granted}
use Rattle.iom_world_effects.proofs.DriverLemmas.{driver_invariant}
use Rattle.iom_world.proofs.OfHardware.{counted}
use Rattle.iom_world.proofs.world.World.grant.Goals as goal

pub invariant_of-self : goal.invariant_of-self
invariant_of-self g c =
    let world = c.args.self.now in
    let new : Parts = record { memory = c.grant.new.memory; iommu = world.hardware.board.iommu; driver = state_of c.grant.new.self; devices = world.hardware.board.devices.items; fabric = world.hardware.board.fabric } in
    record {
      invariants = keeps_granted (parts_of world) new (world.hardware.board.events + 1) c.args.id c.args.mapping.page c.args.mapping.frame c.args.mapping.rights (outcome_of_done c.grant.result) (counted world) (driver_invariant world.driver)
          (c.grant.ensures.ready _ (counted world).ready)
          record { answer = c.grant.result; reply_is = refl; call = c.grant.ensures.effect; iommu = refl; devices = refl; fabric = refl };
      agrees = world.agrees;
      room = world.room;
    }
