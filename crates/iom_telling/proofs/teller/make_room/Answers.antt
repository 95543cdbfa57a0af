-- Where the buffer can't be written out, its own lines aren't all written.
use Rattle.std.proofs.Common.{[]}
use Rattle.iom_line_writer.proofs.WritingLemmas.{at_err, part-longer}
use Rattle.iom_telling.proofs.teller.make_room.Goals as goal

pub returns-in_err-write_out-clause-failed : goal.returns-in_err-write_out-clause-failed
returns-in_err-write_out-clause-failed g c =
    at_err c.from_residual.result (c.write_out.ensures.same_writer, part-longer _ _ c.args.lines.now.buffer [] c.in_err-write_out.ensures.part)
