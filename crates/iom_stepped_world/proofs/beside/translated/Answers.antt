use Rattle.std.proofs.Common.{◌+◌, ap, refl, sym, subst}
use Rattle.iom_base.specs.DeviceKinds.{forges}
use Rattle.iom_driver.specs.StateOf.{state_of}
use Rattle.iom_hardware.specs.Agreement.{known_blocks}
use Rattle.iom_hardware.specs.declared.hardware.Hardware.{Hardware}
use Rattle.iom_iommu.specs.Requests.{access_of}
use Rattle.iom_stepped_hardware.proofs.AskLemmas.{asks_same}
use Rattle.iom_stepped_machine.specs.Machine.{Answer, Whole}
use Rattle.iom_stepped_world.specs.Happens.{Does}
use Rattle.iom_stepped_world.specs.Shown.{stepped_of}
use Rattle.iom_stepped_world.proofs.After.{shown_after}
use Rattle.iom_stepped_world.proofs.Around.{Around}
use Rattle.iom_stepped_world.proofs.FramesStay.{translated_frames}
use Rattle.iom_stepped_world.proofs.PassingLemmas.{passed_devices, passed_frames, passed_keeps, translated_devices, translated_does, translated_passes}
use Rattle.iom_world.proofs.OfHardware.{agrees_now, at_count, counted, hardware_sound, with_driver}
use Rattle.iom_world.specs.OnHardware.{outcome_unless}
use Rattle.iom_world.specs.Shown.{inside_of, parts_of}
use Rattle.iom_world_effects.proofs.DriverLemmas.{driver_invariant}
use Rattle.iom_world_effects.specs.Requests.{AsksTranslated, outcome_of_reply}
use Rattle.iom_world_invariant.proofs.AskedLemmas.{keeps_translated_counted}
use Rattle.iom_world_refinement.proofs.EventLemmas.{below_counted}
use Rattle.iom_stepped_world.proofs.beside.translated.Goals as goal

pub translated-requires-clause-invariants : goal.translated-requires-clause-invariants
translated-requires-clause-invariants g c = let world = c.args.world.now in hardware_sound (parts_of world) world.hardware.board.events world.invariants

pub invariant_of-world : goal.invariant_of-world
invariant_of-world g c =
    let world = c.args.world.now in
    let rows = c.args.walks.now in
    let board = c.translated.new.board in
    let old = parts_of world in
    let new = with_driver board (state_of world.driver) in
    let events = world.hardware.board.events + 1 in
    let access = access_of c.args.address c.args.len c.args.kind c.args.bytes.now in
    let answered = outcome_unless outcome_of_reply c.translated.result in
    let passes = translated_passes old new rows c.args.id refl access c.translated.result c.translated.ensures.effect in
    record {
      invariants = at_count new events board.events c.translated.ensures.counted.events
          (passed_keeps forges (λ o. AsksTranslated old c.args.id access o new) old new rows c.args.id events access answered (counted world)
          (λ asks. keeps_translated_counted c.laws_below.ensures world.driver old new events c.args.id access answered (counted world) (driver_invariant world.driver) refl
          (below_counted old world.hardware.board.events world.invariants) asks) passes);
      agrees = agrees_now world board
          (ap known_blocks (passed_devices forges (λ o. AsksTranslated old c.args.id access o new) old new rows c.args.id access answered (translated_devices old new c.args.id access answered) passes))
          c.translated.ensures.counted.disks;
      room = world.room;
    }

pub returns-clause-does : goal.returns-clause-does
returns-clause-does g c event says =
    let world = c.args.world.now in
    let rows = c.args.walks.now in
    let access = access_of c.args.address c.args.len c.args.kind c.args.bytes.now in
    let answered = outcome_unless outcome_of_reply c.translated.result in
    let hardware : Hardware _ _ = record { board = c.translated.new.board; blocks = world.hardware.blocks; at_hand = world.hardware.at_hand } in
    let old = stepped_of g.D.Disk.shown world rows in
    let new = shown_after g.D.Disk.shown hardware (state_of world.driver) rows in
    let passes = translated_passes old.world.parts new.world.parts rows c.args.id refl access c.translated.result c.translated.ensures.effect in
    let around : Around old new = record {
      before = world.invariants;
      after =
          at_count new.world.parts (world.hardware.board.events + 1) new.world.events c.translated.ensures.counted.events
          (passed_keeps forges (λ o. AsksTranslated old.world.parts c.args.id access o new.world.parts) old.world.parts new.world.parts rows c.args.id (world.hardware.board.events + 1) access answered (counted world)
          (λ asks. keeps_translated_counted c.laws_below.ensures world.driver old.world.parts new.world.parts (world.hardware.board.events + 1) c.args.id access answered (counted world) (driver_invariant world.driver) refl
          (below_counted old.world.parts world.hardware.board.events world.invariants) asks) passes);
      counted = c.translated.ensures.counted.events;
    } in
    let frames = passed_frames forges (λ o. AsksTranslated old.world.parts c.args.id access o new.world.parts) old.world.parts new.world.parts rows c.args.id access answered
    (translated_frames old.world.parts new.world.parts c.args.id access answered) passes in
    subst (λ o. Does old (Whole event) (Answer o) new) (sym c.request_outcome.ensures)
    (translated_does old new event c.args.id access answered around refl c.translated.ensures.counted.disks refl frames says passes)

pub returns-clause-beside : goal.returns-clause-beside
returns-clause-beside g c =
    let world = c.args.world.now in
    let rows = c.args.walks.now in
    let access = access_of c.args.address c.args.len c.args.kind c.args.bytes.now in
    let answered = outcome_unless outcome_of_reply c.translated.result in
    let old = parts_of world in
    let new = with_driver c.translated.new.board (state_of world.driver) in
    let passes = translated_passes old new rows c.args.id refl access c.translated.result c.translated.ensures.effect in
    let devices = passed_devices forges (λ o. AsksTranslated old c.args.id access o new) old new rows c.args.id access answered (translated_devices old new c.args.id access answered) passes in
    let blocks = (inside_of g.D.Disk.shown world).blocks in
    record { board = c.translated.ensures.beside; asking = asks_same old.devices new.devices blocks blocks rows rows c.requires.sound.beside.asking devices refl refl }
