use Rattle.std.proofs.Common.{◌+◌, refl}
use Rattle.iom_iommu.specs.Requests.{access_of}
use Rattle.iom_world_effects.specs.Requests.{outcome_of_reply}
use Rattle.iom_world_effects.proofs.DriverLemmas.{driver_invariant}
use Rattle.iom_world_invariant.proofs.AskedLemmas.{keeps_translated_counted}
use Rattle.iom_world_refinement.proofs.EventLemmas.{below_counted}
use Rattle.iom_world.specs.OnHardware.{outcome_unless}
use Rattle.iom_world.proofs.InParts.{translated_in_parts}
use Rattle.iom_world.proofs.OfHardware.{with_driver, counted, at_count, hardware_sound, agrees_now}
use Rattle.iom_world.specs.Shown.{parts_of}
use Rattle.iom_driver.specs.StateOf.{state_of}
use Rattle.iom_hardware.proofs.KeptBlocks.{translated}
use Rattle.iom_world.specs.OnHardware.{hardware_of}
use Rattle.iom_world.proofs.world.World.translated.Goals as goal

pub translated-requires-clause-invariants : goal.translated-requires-clause-invariants
translated-requires-clause-invariants g c = let world = c.args.self.now in hardware_sound (parts_of world) world.hardware.board.events world.invariants

pub invariant_of-self : goal.invariant_of-self
invariant_of-self g c =
    let world = c.args.self.now in
    let new = with_driver c.translated.new.self (state_of world.driver) in
    let access = access_of c.args.address c.args.len c.args.kind c.args.bytes.now in
    let asks = translated_in_parts (parts_of world) new refl c.args.id access c.translated.result c.translated.ensures.effect in
    record {
      invariants = at_count new (world.hardware.board.events + 1) c.translated.new.self.events c.translated.ensures.counted.events
          (keeps_translated_counted c.laws_below.ensures world.driver (parts_of world) new (world.hardware.board.events + 1) c.args.id access
          (outcome_unless outcome_of_reply c.translated.result) (counted world) (driver_invariant world.driver) refl (below_counted (parts_of world) world.hardware.board.events world.invariants) asks);
      agrees = agrees_now world c.translated.new.self (translated (hardware_of (parts_of world)) (hardware_of new) c.args.id access c.translated.result c.translated.ensures.effect) c.translated.ensures.counted.disks;
      room = world.room;
    }

pub returns-clause-effect : goal.returns-clause-effect
returns-clause-effect g c =
    let world = c.args.self.now in
    let new = with_driver c.translated.new.self (state_of world.driver) in
    let access = access_of c.args.address c.args.len c.args.kind c.args.bytes.now in
    translated_in_parts (parts_of world) new refl c.args.id access c.translated.result c.translated.ensures.effect
