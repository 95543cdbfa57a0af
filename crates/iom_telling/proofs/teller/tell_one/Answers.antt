-- An event happens, and its line goes to the lines, or a beginning of it.
use Rattle.std.proofs.Common.{[], ◌∷◌, ◌++◌, None}
use Rattle.iom_tell.specs.Told.{told_line}
use Rattle.iom_world.specs.Shown.{shown_of}
use Rattle.iom_telling.proofs.TellingLemmas.{begins_longer, fails_begins, line_alone, told_more}
use Rattle.iom_telling.proofs.teller.tell_one.Goals as goal

pub returns-in-Err-clause-told : goal.returns-in-Err-clause-told
returns-in-Err-clause-told g c =
    let line = told_line (shown_of g.D.Disk.shown c.args.world.now) c.args.event.now c.step.result (shown_of g.D.Disk.shown c.step.new.self) in
    record {
      text = line ++ 10 ∷ [];
      told = line_alone c.args.explains line;
      has = begins_longer g.W.Write.contents c.args.lines.now c.make_room.new.lines [] (line ++ 10 ∷ [])
          (fails_begins g.W.Write.contents c.args.lines.now c.make_room.new.lines [] c.in-Err.ensures.failed);
    }

pub returns-in-Ok-clause-told : goal.returns-in-Ok-clause-told
returns-in-Ok-clause-told g c =
    let one = c.tell_in_room.ensures.told in
    record {
      text = one.text;
      told = one.told;
      has = told_more g.W.Write.contents c.args.lines.now c.make_room.new.lines c.tell_in_room.new.lines [] one.text
          None c.tell_in_room.new.fault c.in-Ok.ensures.taken one.has;
    }
