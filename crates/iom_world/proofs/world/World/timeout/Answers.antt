use Rattle.std.proofs.Common.{◌+◌, ap, refl, sym, subst}
use Rattle.iom_machine.specs.declared.outcome.Outcome.{Outcome}
use Rattle.std.proofs.Common.{if◌then◌else◌}
use Rattle.iom_machine.specs.declared.outcome.Outcome.TheVariants as outcome
use Rattle.iom_world_effects.specs.Recovery.{TimesOutFence}
use Rattle.iom_world_invariant.proofs.TimeoutKeeps.{keeps_timed_out}
use Rattle.iom_world.proofs.InParts.{timed_out_in_parts}
use Rattle.iom_world.proofs.OfHardware.{with_driver, counted, at_count, hardware_sound, agrees_now}
use Rattle.iom_world.specs.Shown.{parts_of}
use Rattle.iom_driver.specs.StateOf.{state_of}
use Rattle.iom_hardware.specs.Agreement.{known_blocks}
use Rattle.iom_world.proofs.world.World.timeout.Goals as goal

pub timeout-requires-clause-invariants : goal.timeout-requires-clause-invariants
timeout-requires-clause-invariants g c = let world = c.args.self.now in hardware_sound (parts_of world) world.hardware.board.events world.invariants

pub invariant_of-self : goal.invariant_of-self
invariant_of-self g c =
    let world = c.args.self.now in
    let new = with_driver c.timeout.new.self (state_of world.driver) in
    let effect = timed_out_in_parts (parts_of world) new refl c.timeout.result c.timeout.ensures.effect in
    record {
      invariants = at_count new (world.hardware.board.events + 1) c.timeout.new.self.events c.timeout.ensures.counted.events
          (keeps_timed_out (parts_of world) new (world.hardware.board.events + 1) (if c.timeout.result then outcome.TimedOut else outcome.NoEffect) (counted world) effect);
      agrees = agrees_now world c.timeout.new.self (ap known_blocks c.timeout.ensures.effect.devices) c.timeout.ensures.counted.disks;
      room = world.room;
    }

pub returns-clause-effect : goal.returns-clause-effect
returns-clause-effect g c =
    let world = c.args.self.now in
    let new = with_driver c.timeout.new.self (state_of world.driver) in
    subst (λ (reply : Outcome). TimesOutFence (parts_of world) reply new) (sym c.timeout_answer.ensures)
    (timed_out_in_parts (parts_of world) new refl c.timeout.result c.timeout.ensures.effect)
