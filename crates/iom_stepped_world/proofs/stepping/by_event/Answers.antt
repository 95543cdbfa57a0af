use Rattle.std.proofs.Common.{ℕ, List, sym, subst}
use Rattle.iom_machine.specs.declared.event.Event.{Event}
use Rattle.iom_machine.specs.declared.event.Event.TheVariants as events
use Rattle.iom_stepped_machine.specs.Machine.{Whole}
use Rattle.iom_stepped_world.specs.Happens.{Does}
use Rattle.iom_stepped_world.specs.Shown.{stepped_of}
use Rattle.iom_stepped_world.specs.Told.{told}
use Rattle.iom_stepped_world.proofs.stepping.by_event.Goals as goal

pub returns-in-Read-clause-does : goal.returns-in-Read-clause-does
returns-in-Read-clause-does g c =
    subst (λ (e : Event). Does (stepped_of g.D.Disk.shown c.args.world.now c.args.walks.now) (Whole e) (told c.read.result) (stepped_of g.D.Disk.shown c.read.new.world c.read.new.walks)) (sym c.in-Read.is)
    c.read.ensures.does

pub returns-in-Write-clause-does : goal.returns-in-Write-clause-does
returns-in-Write-clause-does g c =
    let old = stepped_of g.D.Disk.shown c.args.world.now c.args.walks.now in
    let new = stepped_of g.D.Disk.shown c.write.new.world c.write.new.walks in
    subst (λ (e : Event). Does old (Whole e) (told c.write.result) new) (sym c.in-Write.is)
    (subst (λ (bytes : List ℕ). Does old (Whole (events.Write c.in-Write.device c.in-Write.address bytes)) (told c.write.result) new) c.as_slice.ensures c.write.ensures.does)

pub returns-in-Step-clause-does : goal.returns-in-Step-clause-does
returns-in-Step-clause-does g c =
    subst (λ (e : Event). Does (stepped_of g.D.Disk.shown c.args.world.now c.args.walks.now) (Whole e) (told c.step_block.result) (stepped_of g.D.Disk.shown c.step_block.new.world c.step_block.new.walks)) (sym c.in-Step.is)
    c.step_block.ensures.does
