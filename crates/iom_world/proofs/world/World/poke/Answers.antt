use Rattle.std.proofs.Common.{◌+◌, refl, sym, subst}
use Rattle.iom_board.specs.BoardParts.{board_parts}
use Rattle.iom_driver.specs.StateOf.{state_of}
use Rattle.iom_machine.specs.declared.outcome.Outcome.{Outcome}
use Rattle.iom_world.proofs.OfHardware.{agrees_now, at_count, counted, with_driver}
use Rattle.iom_world.proofs.TogetherLemmas.{known_as_before, poked_in_parts}
use Rattle.iom_world.proofs.world.World.poke.Goals as goal
use Rattle.iom_world.specs.OnHardware.{outcome_of_store}
use Rattle.iom_world.specs.Shown.{parts_of}
use Rattle.iom_world_effects.proofs.DriverLemmas.{driver_invariant}
use Rattle.iom_world_effects.proofs.PartsLemmas.{stays_of}
use Rattle.iom_world_effects.specs.Processor.{PokesBytes}
use Rattle.iom_world_invariant.proofs.ProcessorKeeps.{keeps_poked}

pub invariant_of-self-2 : goal.invariant_of-self-2
invariant_of-self-2 g c =
    let world = c.args.self.now in
    let new = with_driver c.store.new.self (state_of world.driver) in
    let effect =
    poked_in_parts (parts_of world) new c.args.address c.args.bytes.now c.store.result (c.is_reserved_place.ensures.unreserved c.if-is_reserved_place.false) c.store.ensures.effect c.store.ensures.rest refl in
    record {
      invariants = at_count new (world.hardware.board.events + 1) c.store.new.self.events c.store.ensures.counted.events
          (keeps_poked (parts_of world) new (world.hardware.board.events + 1) c.args.address c.args.bytes.now (outcome_of_store c.store.result) (counted world) (driver_invariant world.driver)
          (stays_of c.laws_below.ensures.unchanged world.driver) effect);
      agrees = agrees_now world c.store.new.self (known_as_before (board_parts world.hardware.board) (board_parts c.store.new.self) c.store.new.self.memory c.store.ensures.rest) c.store.ensures.counted.disks;
      room = world.room;
    }

pub returns-clause-effect : goal.returns-clause-effect
returns-clause-effect g c =
    let world = c.args.self.now in
    let new = with_driver c.store.new.self (state_of world.driver) in
    subst (λ (reply : Outcome). PokesBytes (parts_of world) c.args.address c.args.bytes.now reply new) (sym c.store_answer.ensures)
    (poked_in_parts (parts_of world) new c.args.address c.args.bytes.now c.store.result (c.is_reserved_place.ensures.unreserved c.if-is_reserved_place.false) c.store.ensures.effect c.store.ensures.rest refl)
