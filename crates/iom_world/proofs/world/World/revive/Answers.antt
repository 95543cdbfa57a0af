use Rattle.std.proofs.Common.{◌+◌, Result, refl, subst}
use Rattle.iom_base.specs.declared.refusal.Refusal.{Refusal}
use Rattle.iom_driver.specs.Revivals.{AnswersRevive}
use Rattle.iom_driver.specs.StateOf.{state_of}
use Rattle.iom_iommu.specs.Parts.{registers_of}
use Rattle.iom_machine.specs.declared.outcome.Outcome.TheVariants as outcome
use Rattle.iom_world.proofs.OfHardware.{at_count, counted, hardware_invariant, with_driver}
use Rattle.iom_world.proofs.TogetherLemmas.{ready_after_reset, resets, revived_in_parts, revives}
use Rattle.iom_world.proofs.world.World.revive.Goals as goal
use Rattle.iom_world.specs.Shown.{parts_of}
use Rattle.iom_world_effects.proofs.DriverLemmas.{driver_invariant}
use Rattle.iom_world_effects.specs.Parts.{Parts}
use Rattle.iom_world_effects.proofs.WalksLeft.{none_left}
use Rattle.iom_world_invariant.proofs.RevivalKeeps.{keeps_revived}
use Rattle.iom_world_refinement.proofs.EventLemmas.{epochs_counted}

pub reset-requires-clause-invariants : goal.reset-requires-clause-invariants
reset-requires-clause-invariants g c = hardware_invariant c.args.self.now

pub unwrap-requires : goal.unwrap-requires
unwrap-requires g c =
    let world = c.args.self.now in
    (resets (parts_of world) (with_driver c.reset.new.self.board (state_of world.driver)) c.args.id c.reset.result world.invariants.known c.in_default.ensures.admitted c.reset.ensures.effect).0

pub revive-requires : goal.revive-requires
revive-requires g c =
    let world = c.args.self.now in
    let between = with_driver c.reset.new.self.board (state_of world.driver) in
    let clears = (resets (parts_of world) between c.args.id c.reset.result world.invariants.known c.in_default.ensures.admitted c.reset.ensures.effect).1 in
    record { stand = (ready_after_reset (parts_of world) between c.args.id refl clears world.invariants.ready).stand }

pub invariant_of-self-2 : goal.invariant_of-self-2
invariant_of-self-2 g c =
    let world = c.args.self.now in
    let board = c.reset.new.self.board in
    let between = with_driver board (state_of world.driver) in
    let new : Parts = record { memory = c.revive.new.memory; iommu = board.iommu; driver = state_of c.revive.new.self; devices = board.devices.items; fabric = board.fabric } in
    let admitted = c.in_default.ensures.admitted in
    let clears = (resets (parts_of world) between c.args.id c.reset.result world.invariants.known admitted c.reset.ensures.effect).1 in
    let done = revives between.driver new.driver between.memory new.memory c.args.id c.revive.result admitted c.revive.ensures.effect in
    let call = subst (λ (answer : Result (Unit {0}) Refusal). AnswersRevive between.driver between.memory c.args.id answer new.driver new.memory) done c.revive.ensures.effect in
    let effect = revived_in_parts (parts_of world) between new c.args.id refl clears call refl refl refl in
    let ready = c.revive.ensures.ready (registers_of board.iommu) (ready_after_reset (parts_of world) between c.args.id refl clears world.invariants.ready) in
    record {
      invariants = at_count new (world.hardware.board.events + 1) board.events c.reset.ensures.counted.events
          (keeps_revived (parts_of world) new (world.hardware.board.events + 1) c.args.id outcome.Done (counted world) (driver_invariant world.driver) ready
          (epochs_counted (parts_of world) world.hardware.board.events world.invariants c.args.id) effect (none_left c.args.id));
      agrees = c.reset.ensures.invariants.agrees;
      room = c.reset.ensures.invariants.room;
    }
