use Rattle.std.proofs.Common.{◌≡◌, ◌+◌, ◌∙◌, inr, Ok, Err, refl, sym, ap, subst}
use Rattle.iom_base.specs.DeviceKinds.{has_cache}
use Rattle.iom_board.specs.BoardParts.{BoardParts, board_parts, disks_at_hand}
use Rattle.iom_driver.specs.Calls.{AnswersPlug}
use Rattle.iom_driver.specs.StateOf.{state_of}
use Rattle.iom_iommu.specs.Parts.{registers_of}
use Rattle.iom_machine.specs.declared.outcome.Outcome.{Outcome}
use Rattle.iom_machine.specs.declared.outcome.Outcome.TheVariants as outcome
use Rattle.iom_world.proofs.InParts.{same_parts}
use Rattle.iom_world.proofs.OfHardware.{at_count, counted, with_driver}
use Rattle.iom_world.proofs.TogetherLemmas.{plugged_in_parts, plugs, ready_beside, refused_by_driver, same_board, unprepared}
use Rattle.iom_world.proofs.world.World.plug.Goals as goal
use Rattle.iom_world.specs.OnHardware.{hardware_of}
use Rattle.iom_world.specs.Shown.{disks_of, parts_of}
use Rattle.iom_world_effects.specs.Answers.{outcome_of_done}
use Rattle.iom_world_effects.specs.Effect.{PlugsDevice}
use Rattle.iom_world_effects.specs.Invariant.{PartsInvariant}
use Rattle.iom_world_effects.specs.Parts.{Parts}
use Rattle.iom_world_invariant.proofs.PlugKeeps.{keeps_plugged}

pub invariant_of-self : goal.invariant_of-self
invariant_of-self g c =
    let world = c.args.self.now in
    let board = c.prepare_plug.new.self in
    let after = with_driver board (state_of world.driver) in
    let made = c.prepare_plug.ensures in
    let same : after ≡ parts_of world = same_parts (parts_of world) after made.parts refl in
    let hardware = same_board world (record world.hardware { board = board }) refl refl made.parts made.disks made.events in
    record {
      invariants = at_count after (world.hardware.board.events + 1) (board.events + 1) (ap (λ n. n + 1) made.events)
          (subst (λ (parts : Parts). PartsInvariant parts (world.hardware.board.events + 1)) (sym same) (counted world));
      agrees = hardware.agrees;
      room = hardware.room;
    }

pub returns-in-Err-clause-effect : goal.returns-in-Err-clause-effect
returns-in-Err-clause-effect g c =
    let world = c.args.self.now in
    let after = with_driver c.prepare_plug.new.self (state_of world.driver) in
    subst (λ (parts : Parts). PlugsDevice (disks_of world) (parts_of world) c.args.id c.args.what (outcome.Refused c.in-Err.why) parts)
    (sym (same_parts (parts_of world) after c.prepare_plug.ensures.parts refl))
    (unprepared (disks_of world) (parts_of world) c.args.id c.args.what c.in-Err.why world.invariants.known c.in-Err.ensures.answer)

pub invariant_of-self-in-Err-plug : goal.invariant_of-self-in-Err-plug
invariant_of-self-in-Err-plug g c =
    let world = c.args.self.now in
    let board = c.prepare_plug.new.self in
    let new = with_driver board (state_of c.plug.new.self) in
    let made = c.prepare_plug.ensures in
    let hardware = same_board world (record world.hardware { board = board }) refl refl made.parts made.disks made.events in
    let call = subst (λ trusted. AnswersPlug (state_of world.driver) c.args.id trusted (Err c.in-Err-plug.why) (state_of c.plug.new.self)) (c.has_cache.ensures ∙ ap has_cache c.kind.ensures) c.in-Err-plug.ensures.effect in
    let effect = refused_by_driver (disks_of world) (parts_of world) new c.args.id c.args.what c.in-Err-plug.why c.in_default.ensures.answer call made.parts in
    let ready = ready_beside (parts_of world) new (c.plug.ensures.ready _ _ (counted world).ready) (ap (λ (h : BoardParts). h.memory) made.parts) (ap (λ (h : BoardParts). registers_of h.iommu) made.parts) in
    record {
      invariants = at_count new (world.hardware.board.events + 1) (board.events + 1) (ap (λ n. n + 1) made.events)
          (keeps_plugged (disks_of world) (parts_of world) new (world.hardware.board.events + 1) c.args.id c.args.what (outcome.Refused c.in-Err-plug.why) (counted world) ready
          effect);
      agrees = hardware.agrees;
      room = hardware.room;
    }

pub returns-in-Err-plug-clause-effect : goal.returns-in-Err-plug-clause-effect
returns-in-Err-plug-clause-effect g c =
    let world = c.args.self.now in
    let new = with_driver c.prepare_plug.new.self (state_of c.plug.new.self) in
    let call = subst (λ trusted. AnswersPlug (state_of world.driver) c.args.id trusted (Err c.in-Err-plug.why) (state_of c.plug.new.self)) (c.has_cache.ensures ∙ ap has_cache c.kind.ensures) c.in-Err-plug.ensures.effect in
    inr (refused_by_driver (disks_of world) (parts_of world) new c.args.id c.args.what c.in-Err-plug.why c.in_default.ensures.answer call c.prepare_plug.ensures.parts)

pub invariant_of-self-2 : goal.invariant_of-self-2
invariant_of-self-2 g c =
    let world = c.args.self.now in
    let board = c.plug-2.new.self.board in
    let new = with_driver board (state_of c.plug.new.self) in
    let made = c.prepare_plug.ensures in
    let call = subst (λ trusted. AnswersPlug (state_of world.driver) c.args.id trusted (Ok tt) (state_of c.plug.new.self)) (c.has_cache.ensures ∙ ap has_cache c.kind.ensures) c.in_default-plug.ensures.effect in
    let stands =
    (plugs (disks_of world) (disks_at_hand c.prepare_plug.new.self) (disks_at_hand board) (hardware_of (parts_of world)) (board_parts c.prepare_plug.new.self) (board_parts board) c.args.id c.args.what
    c.plug-2.result c.in_default.ensures.answer (c.plug-2.ensures.room c.in_default.ensures.has_room) made.parts made.disks c.plug-2.ensures.effect).1 in
    let ready = ready_beside (parts_of world) new (c.plug.ensures.ready _ _ (counted world).ready) stands.memory (ap (λ parts. parts.registers) stands.row.rest) in
    record {
      invariants = at_count new (world.hardware.board.events + 1) board.events (c.plug-2.ensures.events ∙ ap (λ n. n + 1) made.events)
          (keeps_plugged (disks_of world) (parts_of world) new (world.hardware.board.events + 1) c.args.id c.args.what outcome.Done (counted world) ready
          (plugged_in_parts (disks_of world) (disks_at_hand board) (parts_of world) new c.args.id c.args.what call stands));
      agrees = c.plug-2.ensures.invariants.agrees;
      room = c.plug-2.ensures.invariants.room;
    }

pub returns-clause-effect : goal.returns-clause-effect
returns-clause-effect g c =
    let world = c.args.self.now in
    let board = c.plug-2.new.self.board in
    let new = with_driver board (state_of c.plug.new.self) in
    let made = c.prepare_plug.ensures in
    let call = subst (λ trusted. AnswersPlug (state_of world.driver) c.args.id trusted (Ok tt) (state_of c.plug.new.self)) (c.has_cache.ensures ∙ ap has_cache c.kind.ensures) c.in_default-plug.ensures.effect in
    let (done, stands) =
    plugs (disks_of world) (disks_at_hand c.prepare_plug.new.self) (disks_at_hand board) (hardware_of (parts_of world)) (board_parts c.prepare_plug.new.self) (board_parts board) c.args.id c.args.what
    c.plug-2.result c.in_default.ensures.answer (c.plug-2.ensures.room c.in_default.ensures.has_room) made.parts made.disks c.plug-2.ensures.effect in
    subst (λ (reply : Outcome). PlugsDevice (disks_of world) (parts_of world) c.args.id c.args.what reply new) (sym (c.done_answer.ensures ∙ ap outcome_of_done done))
    (inr (plugged_in_parts (disks_of world) (disks_at_hand board) (parts_of world) new c.args.id c.args.what call stands))
