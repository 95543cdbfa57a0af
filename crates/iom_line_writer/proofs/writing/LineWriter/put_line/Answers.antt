-- Where the buffer isn't written out, its own lines aren't all written.
use Rattle.iom_answers.specs.Answers.{outcome_of}
use Rattle.iom_script.specs.Lines.{line_of}
use Rattle.iom_line_writer.proofs.WritingLemmas.{at_err, part-longer}
use Rattle.iom_line_writer.proofs.writing.LineWriter.put_line.Goals as goal

pub returns-in_err-write_out-clause-failed : goal.returns-in_err-write_out-clause-failed
returns-in_err-write_out-clause-failed g c =
    at_err c.from_residual.result (c.write_out.ensures.same_writer, part-longer _ _ c.args.self.now.buffer (line_of (outcome_of c.args.answer)) c.in_err-write_out.ensures.part)
