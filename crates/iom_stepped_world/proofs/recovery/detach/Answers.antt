use Rattle.std.proofs.Common.{◌≡◌, true, false, List, ap, refl, sym, subst, ◌∙◌}
use Rattle.std.specs.Option.{option_map_or}
use Rattle.std.proofs.lemmas.Bool.{false≢true}
use Rattle.iom_base.specs.DeviceKinds.{is_block_device}
use Rattle.iom_device.specs.Caches.{kind_in}
use Rattle.iom_machine.specs.declared.event.Event.{Event}
use Rattle.iom_machine.specs.declared.event.Event.TheVariants as events
use Rattle.iom_machine.specs.declared.outcome.Outcome.TheVariants as outcome
use Rattle.iom_stepped_machine.specs.Machine.{Answer, Whole}
use Rattle.iom_stepped_refinement.specs.Laws.{LeavesRows}
use Rattle.iom_stepped_world.specs.Happens.{Does}
use Rattle.iom_stepped_world.specs.Shown.{stepped_of}
use Rattle.iom_stepped_world.specs.Sound.{AreBesideWorld}
use Rattle.iom_stepped_world.proofs.Around.{Around, rows_stay}
use Rattle.iom_stepped_world.proofs.BesideWorld.{beside_given_up, beside_same}
use Rattle.iom_stepped_world.proofs.OtherLemmas.{other_does, rows_given_up}
use Rattle.iom_walks.specs.Walks.{WalkRow}
use Rattle.iom_world.specs.Happens.{Happens}
use Rattle.iom_world.specs.Shown.{parts_of, shown_of}
use Rattle.iom_stepped_world.proofs.recovery.detach.Goals as goal

pub returns-then-is_block-clause-does : goal.returns-then-is_block-clause-does
returns-then-is_block-clause-does g c =
    let parts = parts_of c.args.world.now in
    let event = events.Detach c.args.id in
    let answered = c.step-outcome.result in
    let old = stepped_of g.D.Disk.shown c.args.world.now c.args.walks.now in
    let new = stepped_of g.D.Disk.shown c.step-outcome.new.self c.give_up.new.self in
    let happens = subst (λ (e : Event). Happens old.world e answered new.world) c.requires.detaches c.step-outcome.ensures.happens in
    let around : Around old new = record { before = c.args.world.now.invariants; after = c.step-outcome.new.self.invariants; counted = happens.events } in
    let is_block : option_map_or is_block_device (kind_in parts.devices c.args.id) false ≡ true =
    sym (ap (λ k. option_map_or is_block_device k false) c.kind_of.ensures) ∙ sym c.is_block-is_block.ensures ∙ c.if-is_block.true in
    subst (λ (e : Event). Does old (Whole e) (Answer answered) new) (sym c.requires.detaches)
    (other_does old new event answered around tt happens
    (subst (λ (rs : List WalkRow). LeavesRows parts event answered old.rows rs) (sym c.give_up.ensures)
    (rows_given_up parts event answered old.rows c.args.id (refl, (c.in-Ticket.field-0, c.in-Ticket.is), is_block) (λ device given. given.0)))
    (λ why is. let never : outcome.Ticket c.in-Ticket.field-0 ≡ outcome.Refused why = sym c.in-Ticket.is ∙ is in cc))

pub returns-then-is_block-clause-beside : goal.returns-then-is_block-clause-beside
returns-then-is_block-clause-beside g c =
    let parts = parts_of c.args.world.now in
    let event = events.Detach c.args.id in
    let answered = c.step-outcome.result in
    let rows = c.args.walks.now in
    let happens = subst (λ (e : Event). Happens (shown_of g.D.Disk.shown c.args.world.now) e answered (shown_of g.D.Disk.shown c.step-outcome.new.self)) c.requires.detaches c.step-outcome.ensures.happens in
    let is_block : option_map_or is_block_device (kind_in parts.devices c.args.id) false ≡ true =
    sym (ap (λ k. option_map_or is_block_device k false) c.kind_of.ensures) ∙ sym c.is_block-is_block.ensures ∙ c.if-is_block.true in
    subst (λ (rs : List WalkRow). AreBesideWorld g.D.Disk.shown c.step-outcome.new.self rs) (sym c.give_up.ensures)
    (beside_given_up g.D.Disk.shown c.args.world.now c.step-outcome.new.self rows event answered c.requires.sound.beside happens c.args.id tt tt
    (rows_given_up parts event answered rows c.args.id (refl, (c.in-Ticket.field-0, c.in-Ticket.is), is_block) (λ device given. given.0)))

pub returns-else-is_block : goal.returns-else-is_block
returns-else-is_block g c =
    let parts = parts_of c.args.world.now in
    let event = events.Detach c.args.id in
    let answered = c.step-outcome.result in
    let rows = c.args.walks.now in
    let old = stepped_of g.D.Disk.shown c.args.world.now rows in
    let new = stepped_of g.D.Disk.shown c.step-outcome.new.self rows in
    let happens = subst (λ (e : Event). Happens old.world e answered new.world) c.requires.detaches c.step-outcome.ensures.happens in
    let around : Around old new = record { before = c.args.world.now.invariants; after = c.step-outcome.new.self.invariants; counted = happens.events } in
    let no_block : option_map_or is_block_device (kind_in parts.devices c.args.id) false ≡ false =
    sym (ap (λ k. option_map_or is_block_device k false) c.kind_of.ensures) ∙ sym c.is_block-is_block.ensures ∙ c.if-is_block.false in
    let stays : LeavesRows parts event answered rows rows =
    rows_stay parts event answered rows rows refl (λ device gives. false≢true (sym no_block ∙ gives.2)) in
    record {
      does = subst (λ (e : Event). Does old (Whole e) (Answer answered) new) (sym c.requires.detaches) (other_does old new event answered around tt happens stays (λ why is. refl));
      beside = beside_same g.D.Disk.shown c.args.world.now c.step-outcome.new.self rows event answered c.requires.sound.beside happens tt tt stays;
    }

pub returns-in_default : goal.returns-in_default
returns-in_default g c =
    let parts = parts_of c.args.world.now in
    let event = events.Detach c.args.id in
    let answered = c.step-outcome.result in
    let rows = c.args.walks.now in
    let old = stepped_of g.D.Disk.shown c.args.world.now rows in
    let new = stepped_of g.D.Disk.shown c.step-outcome.new.self rows in
    let happens = subst (λ (e : Event). Happens old.world e answered new.world) c.requires.detaches c.step-outcome.ensures.happens in
    let around : Around old new = record { before = c.args.world.now.invariants; after = c.step-outcome.new.self.invariants; counted = happens.events } in
    let stays : LeavesRows parts event answered rows rows = rows_stay parts event answered rows rows refl (λ device gives. c.in_default.not-Ticket gives.1.0 gives.1.1) in
    record {
      does = subst (λ (e : Event). Does old (Whole e) (Answer answered) new) (sym c.requires.detaches) (other_does old new event answered around tt happens stays (λ why is. refl));
      beside = beside_same g.D.Disk.shown c.args.world.now c.step-outcome.new.self rows event answered c.requires.sound.beside happens tt tt stays;
    }
