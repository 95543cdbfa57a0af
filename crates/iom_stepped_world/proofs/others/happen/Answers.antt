use Rattle.std.proofs.Common.{refl}
use Rattle.iom_stepped_world.specs.Shown.{stepped_of}
use Rattle.iom_stepped_world.proofs.Around.{Around, rows_stay}
use Rattle.iom_stepped_world.proofs.BesideWorld.{beside_left}
use Rattle.iom_stepped_world.proofs.OtherLemmas.{gives_nothing, left_other, other_does}
use Rattle.iom_stepped_world.proofs.others.happen.Goals as goal

pub returns-clause-does : goal.returns-clause-does
returns-clause-does g c =
    let old = stepped_of g.D.Disk.shown c.args.world.now c.args.walks.now in
    let new = stepped_of g.D.Disk.shown c.step.new.self c.args.walks.now in
    let happens = c.step.ensures.happens in
    let around : Around old new = record { before = c.args.world.now.invariants; after = c.step.new.self.invariants; counted = happens.events } in
    other_does old new c.args.event.now c.step.result around (left_other c.args.event.now c.requires.leaves) happens
    (rows_stay old.world.parts c.args.event.now c.step.result old.rows new.rows refl (gives_nothing old.world.parts c.args.event.now c.step.result c.requires.leaves)) (λ why is. refl)

pub returns-clause-beside : goal.returns-clause-beside
returns-clause-beside g c =
    beside_left g.D.Disk.shown c.args.world.now c.step.new.self c.args.walks.now c.args.event.now c.step.result c.requires.leaves c.requires.beside c.step.ensures.happens
