use Rattle.std.proofs.Common.{◌+◌, refl, sym, subst}
use Rattle.iom_board.specs.Senders.{cached_by}
use Rattle.iom_iommu.specs.Requests.{access_of}
use Rattle.iom_machine.specs.declared.outcome.Outcome.{Outcome}
use Rattle.iom_world_effects.specs.ThroughCache.{DeviceAsksThroughCache}
use Rattle.iom_world_effects.proofs.DriverLemmas.{driver_invariant}
use Rattle.iom_world_invariant.proofs.AskedLemmas.{keeps_through_cache_counted}
use Rattle.iom_world_refinement.proofs.EventLemmas.{below_counted}
use Rattle.iom_world.specs.OnHardware.{outcome_unless, outcome_of_cache_reply}
use Rattle.iom_world.proofs.InParts.{cached_in_parts}
use Rattle.iom_world.proofs.OfHardware.{with_driver, counted, at_count, hardware_sound, agrees_now}
use Rattle.iom_world.specs.Shown.{parts_of}
use Rattle.iom_driver.specs.StateOf.{state_of}
use Rattle.iom_hardware.proofs.KeptBlocks.{cached}
use Rattle.iom_world.specs.OnHardware.{hardware_of}
use Rattle.iom_world.proofs.world.World.through_cache.Goals as goal

pub through_cache-answer-requires-clause-invariants : goal.through_cache-answer-requires-clause-invariants
through_cache-answer-requires-clause-invariants g c = let world = c.args.self.now in hardware_sound (parts_of world) world.hardware.board.events world.invariants

pub invariant_of-self : goal.invariant_of-self
invariant_of-self g c =
    let world = c.args.self.now in
    let new = with_driver c.through_cache-answer.new.self (state_of world.driver) in
    let access = access_of c.args.address c.args.len c.args.kind c.args.bytes.now in
    let asks = cached_in_parts (parts_of world) new refl (cached_by c.args.sender) c.args.id access c.through_cache-answer.result c.through_cache-answer.ensures.effect in
    record {
      invariants = at_count new (world.hardware.board.events + 1) c.through_cache-answer.new.self.events c.through_cache-answer.ensures.counted.events
          (keeps_through_cache_counted (cached_by c.args.sender) c.laws_below.ensures world.driver (parts_of world) new (world.hardware.board.events + 1) c.args.id access
          (outcome_unless outcome_of_cache_reply c.through_cache-answer.result) (counted world) (driver_invariant world.driver) refl (below_counted (parts_of world) world.hardware.board.events world.invariants) asks);
      agrees = agrees_now world c.through_cache-answer.new.self (cached (cached_by c.args.sender) (hardware_of (parts_of world)) (hardware_of new) c.args.id access c.through_cache-answer.result c.through_cache-answer.ensures.effect) c.through_cache-answer.ensures.counted.disks;
      room = world.room;
    }

pub returns-clause-effect : goal.returns-clause-effect
returns-clause-effect g c =
    let world = c.args.self.now in
    let new = with_driver c.through_cache-answer.new.self (state_of world.driver) in
    let access = access_of c.args.address c.args.len c.args.kind c.args.bytes.now in
    subst (λ (reply : Outcome). DeviceAsksThroughCache (cached_by c.args.sender) (parts_of world) c.args.id access reply new) (sym c.cached_answer.ensures)
    (cached_in_parts (parts_of world) new refl (cached_by c.args.sender) c.args.id access c.through_cache-answer.result c.through_cache-answer.ensures.effect)
