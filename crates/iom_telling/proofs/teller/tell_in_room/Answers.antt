-- The line goes into the buffer, and notes behind it, or nothing does.
use Rattle.std.proofs.Common.{◌∙◌, Option, sym, subst}
use Rattle.iom_tell.specs.Told.{told_line}
use Rattle.iom_world.specs.Shown.{shown_of}
use Rattle.iom_telling.specs.declared.fault.TellingFault.{TellingFault}
use Rattle.iom_telling.specs.Tellers.{HasToldLine}
use Rattle.iom_telling.proofs.TellingLemmas.{one_noted, one_failed}
use Rattle.iom_telling.proofs.teller.tell_in_room.Goals as goal

pub returns-in-None-clause-told : goal.returns-in-None-clause-told
returns-in-None-clause-told g c =
    let line = told_line (shown_of g.D.Disk.shown c.args.world.now) c.args.event.now c.tell_event-told.result.0 (shown_of g.D.Disk.shown c.tell_event-told.new.world) in
    subst (λ (f : Option TellingFault). HasToldLine g.W.Write.contents c.args.lines.now c.args.explains line f (record c.args.lines.now { buffer = c.add_notes.new.out })) (sym c.fault_of.ensures)
    (one_noted g.W.Write.contents c.args.lines.now c.args.explains line c.tell_event-told.new.out c.add_notes.new.out c.tell_event-told.result.1
    c.tell_event-told.ensures.told (sym c.fault_of.ensures ∙ c.in-None.is) c.add_notes.ensures)

pub returns-in-Some-clause-told : goal.returns-in-Some-clause-told
returns-in-Some-clause-told g c =
    let line = told_line (shown_of g.D.Disk.shown c.args.world.now) c.args.event.now c.tell_event-told.result.0 (shown_of g.D.Disk.shown c.tell_event-told.new.world) in
    subst (λ (f : Option TellingFault). HasToldLine g.W.Write.contents c.args.lines.now c.args.explains line f (record c.args.lines.now { buffer = c.tell_event-told.new.out })) (sym c.fault_of.ensures)
    (one_failed g.W.Write.contents c.args.lines.now c.args.explains line c.tell_event-told.new.out c.tell_event-told.result.1
    c.tell_event-told.ensures.told c.tell_event-told.ensures.kept)
