use Rattle.std.proofs.lemmas.Result.{on_ok_weaker}
use Rattle.iom_world.specs.Shown.{shown_of}
use Rattle.iom_tell.proofs.BehindLemmas.{line_as_noted}
use Rattle.iom_tell.proofs.GrammarLemmas.{says_told}
use Rattle.iom_tell.proofs.telling.tell_event.Goals as goal

pub returns-clause-told : goal.returns-clause-told
returns-clause-told g c =
    on_ok_weaker c.append_outcome-told.result
    (line_as_noted c.note_before.new.before (shown_of g.D.Disk.shown c.args.world.now) (shown_of g.D.Disk.shown c.step-outcome.new.self) c.args.event.now c.step-outcome.result
    c.args.out.now c.append_outcome-told.new.out c.note_before.ensures) c.append_outcome-told.ensures.told

pub returns-clause-says : goal.returns-clause-says
returns-clause-says g c =
    on_ok_weaker c.append_outcome-told.result
    (λ says. says_told (shown_of g.D.Disk.shown c.args.world.now) (shown_of g.D.Disk.shown c.step-outcome.new.self) c.args.event.now c.step-outcome.result says.0 says.1)
    c.append_outcome-told.ensures.says
