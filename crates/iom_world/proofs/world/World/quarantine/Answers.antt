use Rattle.std.proofs.Common.{◌+◌, refl}
use Rattle.iom_driver.specs.StateOf.{state_of}
use Rattle.iom_world_effects.specs.Answers.{outcome_of_ticket}
use Rattle.iom_world_effects.specs.Parts.{Parts}
use Rattle.iom_world.specs.Shown.{parts_of}
use Rattle.iom_world_effects.proofs.DriverLemmas.{driver_invariant}
use Rattle.iom_world_invariant.proofs.QuarantineKeeps.{keeps_quarantined}
use Rattle.iom_world.proofs.OfHardware.{counted}
use Rattle.iom_world.proofs.world.World.quarantine.Goals as goal

pub invariant_of-self : goal.invariant_of-self
invariant_of-self g c =
    let world = c.args.self.now in
    let new : Parts = record { memory = c.quarantine-answer.new.memory; iommu = c.quarantine-answer.new.io; driver = state_of c.quarantine-answer.new.self; devices = world.hardware.board.devices.items; fabric = world.hardware.board.fabric } in
    record {
      invariants = keeps_quarantined (parts_of world) new (world.hardware.board.events + 1) c.args.id (outcome_of_ticket c.quarantine-answer.result) (counted world) (driver_invariant world.driver) c.quarantine-answer.ensures.ready
          record { answer = c.quarantine-answer.result; reply_is = refl; call = c.quarantine-answer.ensures.effect; devices = refl; fabric = refl };
      agrees = world.agrees;
      room = world.room;
    }
