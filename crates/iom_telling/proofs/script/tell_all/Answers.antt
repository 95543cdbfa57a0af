-- What was told is written out.
use Rattle.iom_line_writer.proofs.WritingLemmas.{at_err}
use Rattle.iom_telling.proofs.LineLemmas.{writes_all, begins_part, begins_first}
use Rattle.iom_telling.proofs.script.tell_all.Goals as goal

pub returns-in_err-tell_lines-clause-failed : goal.returns-in_err-tell_lines-clause-failed
returns-in_err-tell_lines-clause-failed g c =
    let failed = c.in_err-tell_lines.ensures.failed in
    at_err c.from_residual.result (begins_first g.W.Write.contents g.D.Disk.shown c.args.teller.now c.tell_lines.new.teller c.args.script.now _ failed.1.0 c.requires.fresh failed.0 failed.1.1)

pub returns-in-Ok-clause-told : goal.returns-in-Ok-clause-told
returns-in-Ok-clause-told g c =
    writes_all g.W.Write.contents g.D.Disk.shown c.args.teller.now c.tell_lines.new.teller c.write_out.new.self c.args.script.now c.requires.fresh c.in_ok-tell_lines.ensures.fresh c.in_ok-tell_lines.ensures.ran
    c.write_out.ensures.same_writer c.in-Ok.ensures.all

pub returns-in-Err-clause-failed : goal.returns-in-Err-clause-failed
returns-in-Err-clause-failed g c =
    begins_part g.W.Write.contents g.D.Disk.shown c.args.teller.now c.tell_lines.new.teller c.write_out.new.self c.args.script.now c.requires.fresh c.in_ok-tell_lines.ensures.fresh c.in_ok-tell_lines.ensures.ran
    c.write_out.ensures.same_writer c.in-Err.ensures.part
