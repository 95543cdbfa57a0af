use Rattle.std.proofs.Common.{◌<◌, ◌^◌, ◌+◌, refl, sym, subst}
use Rattle.iom_base.specs.DeviceKinds.{sends_untranslated}
use Rattle.iom_base.specs.declared.access.Access.{Access}
use Rattle.iom_driver.specs.StateOf.{state_of}
use Rattle.iom_iommu.specs.Requests as requests
use Rattle.iom_stepped_board.specs.Requests.{BeginsAccessBeside}
use Rattle.iom_stepped_machine.specs.Machine.{Whole}
use Rattle.iom_stepped_machine.specs.Walks.{event_of}
use Rattle.iom_stepped_world.specs.Happens.{Does}
use Rattle.iom_stepped_world.specs.Shown.{stepped_of}
use Rattle.iom_stepped_world.proofs.After.{shown_after}
use Rattle.iom_stepped_world.proofs.Around.{Around}
use Rattle.iom_stepped_world.proofs.BegunLemmas.{begun_does, begun_keeps}
use Rattle.iom_world.proofs.OfHardware.{at_count, hardware_invariant, with_driver}
use Rattle.iom_world.specs.OnHardware.{hardware_of}
use Rattle.iom_world.specs.Shown.{parts_of}
use Rattle.iom_stepped_world.proofs.begins.begin.Goals as goal

pub begin-requires-clause-invariants : goal.begin-requires-clause-invariants
begin-requires-clause-invariants g c = hardware_invariant c.args.world.now

pub invariant_of-world : goal.invariant_of-world
invariant_of-world g c =
    let world = c.args.world.now in
    let board = c.begin.new.hardware.board in
    let new = with_driver board (state_of world.driver) in
    record {
      invariants = at_count new (world.hardware.board.events + 1) board.events c.begin.ensures.counted.events
          (begun_keeps sends_untranslated c.begins_law.ensures c.idle_law.ensures.facts world.driver (parts_of world) new world.hardware.board.events c.args.id c.args.walks.now c.begin.new.walks
          (requests.access_of c.args.address c.args.len c.args.kind c.args.bytes.now) c.begin.result refl c.requires.sound.invariant refl c.ranges.address.fits c.begin.ensures.effect);
      agrees = c.begin.ensures.invariants.agrees;
      room = c.begin.ensures.invariants.room;
    }

pub returns-clause-does : goal.returns-clause-does
returns-clause-does g c asking sent same =
    let world = c.args.world.now in
    let old = stepped_of g.D.Disk.shown world c.args.walks.now in
    let new = shown_after g.D.Disk.shown c.begin.new.hardware (state_of world.driver) c.begin.new.walks in
    let around : Around old new = record {
      before = world.invariants;
      after =
          at_count new.world.parts (world.hardware.board.events + 1) new.world.events c.begin.ensures.counted.events
          (begun_keeps sends_untranslated c.begins_law.ensures c.idle_law.ensures.facts world.driver (parts_of world) new.world.parts world.hardware.board.events c.args.id c.args.walks.now c.begin.new.walks
          (requests.access_of c.args.address c.args.len c.args.kind c.args.bytes.now) c.begin.result refl c.requires.sound.invariant refl c.ranges.address.fits c.begin.ensures.effect);
      counted = c.begin.ensures.counted.events;
    } in
    subst (λ o. Does old (Whole (event_of c.args.id asking)) o new) (sym c.begun_outcome.ensures)
    (begun_does old new c.args.id asking sent refl c.begin.result around (subst (λ (a : Access). a.address < 2 ^ 64) (sym same) c.ranges.address.fits) c.begin.ensures.counted.disks c.begin.ensures.inside
    (subst (λ (a : Access). BeginsAccessBeside sends_untranslated (hardware_of old.world.parts) old.rows c.args.id a c.begin.result (hardware_of new.world.parts) new.rows) (sym same)
    c.begin.ensures.effect))
