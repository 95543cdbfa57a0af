-- What stays true of a world when the IOMMU takes a command, or looks for one.
use Rattle.std.proofs.Common.{◌+◌, ap, refl, sym, subst}
use Rattle.iom_board.specs.Looks.{FetchesOnce, LooksForCommand}
use Rattle.iom_board.specs.declared.board.Board.{Board}
use Rattle.iom_driver.specs.Laws.{ReadyStays}
use Rattle.iom_driver.specs.StateOf.{state_of}
use Rattle.iom_hardware.specs.Agreement.{AgreesWith, known_blocks}
use Rattle.iom_iommu.specs.declared.fetched.Fetched.{Fetched}
use Rattle.iom_iommu.specs.declared.fetched.Fetched.TheVariants as fetched
use Rattle.iom_iommu.specs.declared.front.Front.{Front}
use Rattle.iom_iommu.specs.declared.front.Front.TheVariants as front
use Rattle.iom_machine.specs.declared.outcome.Outcome.TheVariants as outcome
use Rattle.iom_virtio_blk.specs.declared.disk.Disk.{Ghosts}
use Rattle.iom_world.specs.declared.world.World.{World}
use Rattle.iom_world.specs.Shown.{parts_of}
use Rattle.iom_world_effects.specs.Effect.{fetch_named}
use Rattle.iom_world_effects.specs.Invariant.{PartsInvariant}
use Rattle.iom_world_effects.proofs.DriverLemmas.{driver_invariant}
use Rattle.iom_world_effects.proofs.PartsLemmas.{stays_of}
use Rattle.iom_world_invariant.proofs.FetchKeeps.{none_fetched, keeps_fetched}
use Rattle.iom_world_refinement.proofs.EventLemmas.{serials_counted}
use Rattle.iom_world.proofs.InParts.{fetched_in_parts}
use Rattle.iom_world.proofs.OfHardware.{with_driver, counted, at_count, agrees_now}

-- what a world asks of its board, beside its driver and its block devices
pub record FitsInto {D : Type 0} {d : Ghosts D} (world : World D d) (board : Board) : Type 0 where
  pub invariants : PartsInvariant (with_driver board (state_of world.driver)) board.events
  pub agrees : AgreesWith board.devices.items board.disks.items world.hardware.blocks.items world.hardware.at_hand.items

pub fetched_fits : {D : Type 0} {d : Ghosts D} (unchanged : ReadyStays) (world : World D d) (new : Board) (answer : Fetched) → FetchesOnce world.hardware.board answer new → FitsInto world new
fetched_fits unchanged world new answer once =
    let parts = with_driver new (state_of world.driver) in
    let effect = fetched_in_parts (parts_of world) parts refl answer once.effect in
    record {
      invariants = at_count parts (world.hardware.board.events + 1) new.events once.counted.events
          (keeps_fetched (parts_of world) parts (world.hardware.board.events + 1) (outcome.Fetched (fetch_named answer)) (counted world) (driver_invariant world.driver) (stays_of unchanged world.driver)
          (serials_counted (parts_of world) world.hardware.board.events world.invariants) effect (none_fetched effect.answer));
      agrees = agrees_now world new (ap known_blocks once.effect.devices) once.counted.disks;
    }

pub looked_fits : {D : Type 0} {d : Ghosts D} (unchanged : ReadyStays) (world : World D d) (new : Board) (front : Front) → LooksForCommand world.hardware.board front new → FitsInto world new
looked_fits unchanged world new front.Stopped once = fetched_fits unchanged world new fetched.Stopped once
looked_fits unchanged world new front.Empty once = fetched_fits unchanged world new fetched.Empty once
looked_fits unchanged world new front.Command same = subst (FitsInto world) (sym same.0) (record { invariants = world.invariants; agrees = world.agrees })
