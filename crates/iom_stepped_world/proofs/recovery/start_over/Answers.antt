use Rattle.std.proofs.Common.{◌≡◌, List, refl, sym, subst, ◌∙◌}
use Rattle.iom_machine.specs.declared.outcome.Outcome.{Outcome}
use Rattle.iom_machine.specs.declared.outcome.Outcome.TheVariants as outcome
use Rattle.iom_stepped_refinement.specs.Laws.{LeavesRows}
use Rattle.iom_stepped_world.specs.Shown.{stepped_of}
use Rattle.iom_stepped_world.specs.Sound.{AreBesideWorld}
use Rattle.iom_stepped_world.proofs.Around.{Around, rows_stay}
use Rattle.iom_stepped_world.proofs.BesideWorld.{beside_given_up, beside_same}
use Rattle.iom_stepped_world.proofs.OtherLemmas.{done_gives, gives_when_done, other_does, over_leaves, over_other, rows_given_up}
use Rattle.iom_walks.specs.Walks.{WalkRow}
use Rattle.iom_world.specs.Shown.{parts_of}
use Rattle.iom_world_walks.specs.Events.{GivesUp}
use Rattle.iom_stepped_world.proofs.recovery.start_over.Goals as goal

pub returns-in-Done-clause-does : goal.returns-in-Done-clause-does
returns-in-Done-clause-does g c =
    let parts = parts_of c.args.world.now in
    let event = c.args.event.now in
    let answered = c.step-outcome.result in
    let old = stepped_of g.D.Disk.shown c.args.world.now c.args.walks.now in
    let new = stepped_of g.D.Disk.shown c.step-outcome.new.self c.give_up.new.self in
    let happens = c.step-outcome.ensures.happens in
    let around : Around old new = record { before = c.args.world.now.invariants; after = c.step-outcome.new.self.invariants; counted = happens.events } in
    let gives = subst (λ (o : Outcome). GivesUp parts event o c.args.id) (sym c.in-Done.is) (done_gives parts event c.args.id c.requires.over) in
    other_does old new event answered around (over_other event c.args.id c.requires.over) happens
    (subst (λ (rs : List WalkRow). LeavesRows parts event answered old.rows rs) (sym c.give_up.ensures)
    (rows_given_up parts event answered old.rows c.args.id gives (λ device given. (gives_when_done parts event answered c.args.id c.requires.over device given).0)))
    (λ why is. let never : outcome.Done ≡ outcome.Refused why = sym c.in-Done.is ∙ is in cc)

pub returns-in-Done-clause-beside : goal.returns-in-Done-clause-beside
returns-in-Done-clause-beside g c =
    let parts = parts_of c.args.world.now in
    let event = c.args.event.now in
    let answered = c.step-outcome.result in
    let rows = c.args.walks.now in
    let gives = subst (λ (o : Outcome). GivesUp parts event o c.args.id) (sym c.in-Done.is) (done_gives parts event c.args.id c.requires.over) in
    subst (λ (rs : List WalkRow). AreBesideWorld g.D.Disk.shown c.step-outcome.new.self rs) (sym c.give_up.ensures)
    (beside_given_up g.D.Disk.shown c.args.world.now c.step-outcome.new.self rows event answered c.requires.sound.beside c.step-outcome.ensures.happens c.args.id
    (over_other event c.args.id c.requires.over) (over_leaves event c.args.id c.requires.over)
    (rows_given_up parts event answered rows c.args.id gives (λ device given. (gives_when_done parts event answered c.args.id c.requires.over device given).0)))

pub returns-in_default : goal.returns-in_default
returns-in_default g c =
    let parts = parts_of c.args.world.now in
    let event = c.args.event.now in
    let answered = c.step-outcome.result in
    let rows = c.args.walks.now in
    let old = stepped_of g.D.Disk.shown c.args.world.now rows in
    let new = stepped_of g.D.Disk.shown c.step-outcome.new.self rows in
    let happens = c.step-outcome.ensures.happens in
    let around : Around old new = record { before = c.args.world.now.invariants; after = c.step-outcome.new.self.invariants; counted = happens.events } in
    let stays : LeavesRows parts event answered rows rows =
    rows_stay parts event answered rows rows refl (λ device gives. c.in_default.not-Done (gives_when_done parts event answered c.args.id c.requires.over device gives).1) in
    record {
      does = other_does old new event answered around (over_other event c.args.id c.requires.over) happens stays (λ why is. refl);
      beside = beside_same g.D.Disk.shown c.args.world.now c.step-outcome.new.self rows event answered c.requires.sound.beside happens (over_other event c.args.id c.requires.over)
          (over_leaves event c.args.id c.requires.over) stays;
    }
