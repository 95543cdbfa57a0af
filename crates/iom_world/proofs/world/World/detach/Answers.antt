use Rattle.std.proofs.Common.{◌≡◌, ◌+◌, Result, refl, sym, subst}
use Rattle.iom_base.specs.declared.refusal.Refusal.{Refusal}
use Rattle.iom_driver.specs.Leaving.{AnswersDetach}
use Rattle.iom_driver.specs.StateOf.{state_of}
use Rattle.iom_driver.specs.declared.answers.Ticket.{Ticket}
use Rattle.iom_iommu.specs.Parts.{mmio}
use Rattle.iom_machine.specs.declared.outcome.Outcome.TheVariants as outcome
use Rattle.iom_world.proofs.OfHardware.{at_count, counted, with_driver}
use Rattle.iom_world.proofs.TogetherLemmas.{board_keeps, detached_in_parts, loses_disk, ready_without_disk}
use Rattle.iom_world.proofs.world.World.detach.Goals as goal
use Rattle.iom_world.specs.Shown.{parts_of}
use Rattle.iom_world_effects.proofs.DriverLemmas.{driver_invariant}
use Rattle.iom_world_effects.specs.Answers.{outcome_of_ticket}
use Rattle.iom_world_effects.specs.BlockDevices.{devices_left}
use Rattle.iom_world_effects.specs.Parts.{Parts}
use Rattle.iom_world_effects.proofs.WalksLeft.{none_left}
use Rattle.iom_world_invariant.proofs.DetachKeeps.{keeps_detached}
use Rattle.iom_world_refinement.proofs.EventLemmas.{epochs_counted}

pub invariant_of-self : goal.invariant_of-self
invariant_of-self g c =
    let world = c.args.self.now in
    let new : Parts = record (parts_of world) { memory = c.detach-answer.new.memory; iommu = c.detach-answer.new.io; driver = state_of c.detach-answer.new.self } in
    let same = subst (λ (answer : Result Ticket Refusal). world.hardware.board.devices.items ≡ devices_left answer world.hardware.board.devices.items c.args.id) (sym c.in-Err.is) refl in
    record {
      invariants = keeps_detached (parts_of world) new (world.hardware.board.events + 1) c.args.id (outcome_of_ticket c.detach-answer.result) (counted world) (driver_invariant world.driver)
          c.detach-answer.ensures.ready (epochs_counted (parts_of world) world.hardware.board.events world.invariants c.args.id)
          record { answer = c.detach-answer.result; reply_is = refl; call = c.detach-answer.ensures.effect; devices = same; fabric = refl } (none_left c.args.id);
      agrees = world.agrees;
      room = world.room;
    }

pub remove_disk-requires-clause-invariants : goal.remove_disk-requires-clause-invariants
remove_disk-requires-clause-invariants g c =
    let world = c.args.self.now in
    let between : Parts = record (parts_of world) { memory = c.detach-answer.new.memory; iommu = c.detach-answer.new.io; driver = state_of c.detach-answer.new.self } in
    let call = subst (λ (answer : Result Ticket Refusal). AnswersDetach mmio (state_of world.driver) world.hardware.board.memory world.hardware.board.iommu c.args.id answer between.driver between.memory between.iommu)
    c.in-Ok.is c.detach-answer.ensures.effect in
    record {
      board = board_keeps (parts_of world) between world.hardware.board.events c.args.id c.in-Ok.ticket world.invariants call c.detach-answer.ensures.ready refl refl;
      agrees = world.agrees;
      room = world.room;
    }

pub unwrap-requires : goal.unwrap-requires
unwrap-requires g c =
    let world = c.args.self.now in
    let between : Parts = record (parts_of world) { memory = c.detach-answer.new.memory; iommu = c.detach-answer.new.io; driver = state_of c.detach-answer.new.self } in
    let call = subst (λ (answer : Result Ticket Refusal). AnswersDetach mmio (state_of world.driver) world.hardware.board.memory world.hardware.board.iommu c.args.id answer between.driver between.memory between.iommu)
    c.in-Ok.is c.detach-answer.ensures.effect in
    (loses_disk (parts_of world) between (with_driver c.remove_disk.new.self.board between.driver) c.args.id c.in-Ok.ticket c.remove_disk.result world.invariants.known call refl c.remove_disk.ensures.effect).0

pub invariant_of-self-2 : goal.invariant_of-self-2
invariant_of-self-2 g c =
    let world = c.args.self.now in
    let between : Parts = record (parts_of world) { memory = c.detach-answer.new.memory; iommu = c.detach-answer.new.io; driver = state_of c.detach-answer.new.self } in
    let new = with_driver c.remove_disk.new.self.board between.driver in
    let call = subst (λ (answer : Result Ticket Refusal). AnswersDetach mmio (state_of world.driver) world.hardware.board.memory world.hardware.board.iommu c.args.id answer between.driver between.memory between.iommu)
    c.in-Ok.is c.detach-answer.ensures.effect in
    let goes = (loses_disk (parts_of world) between new c.args.id c.in-Ok.ticket c.remove_disk.result world.invariants.known call refl c.remove_disk.ensures.effect).1 in
    let effect = detached_in_parts (parts_of world) between new c.args.id c.in-Ok.ticket call refl refl refl goes in
    record {
      invariants = at_count new (world.hardware.board.events + 1) c.remove_disk.new.self.board.events c.remove_disk.ensures.events
          (keeps_detached (parts_of world) new (world.hardware.board.events + 1) c.args.id (outcome.Ticket c.in-Ok.ticket.0) (counted world) (driver_invariant world.driver)
          (ready_without_disk between new c.args.id refl goes c.detach-answer.ensures.ready) (epochs_counted (parts_of world) world.hardware.board.events world.invariants c.args.id) effect (none_left c.args.id));
      agrees = c.remove_disk.ensures.invariants.agrees;
      room = c.remove_disk.ensures.invariants.room;
    }
