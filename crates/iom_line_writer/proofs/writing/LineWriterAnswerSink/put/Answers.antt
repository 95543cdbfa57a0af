-- The line of the answer is put, and then that of the counts, where there are any.
use Rattle.std.proofs.Common.{Option, sym, subst}
use Rattle.std.proofs.lemmas.Result.{on_ok_weaker, on_err_weaker}
use Rattle.iom_answers.specs.Answers.{outcome_of}
use Rattle.iom_machine.specs.declared.outcome.Trace.{Trace}
use Rattle.iom_script.specs.Lines.{line_of, trace_line}
use Rattle.iom_line_writer.specs.Writing.{TakesLine, FailsWriting}
use Rattle.iom_line_writer.proofs.WritingLemmas.{at_err, takes-more, fails-line, fails-later}
use Rattle.iom_line_writer.proofs.writing.LineWriterAnswerSink.put.Goals as goal

pub returns-in_err-put_line-clause-failed : goal.returns-in_err-put_line-clause-failed
returns-in_err-put_line-clause-failed g c =
    at_err c.from_residual.result (fails-line g.W.Write.contents c.args.self.now c.put_line.new.self (outcome_of c.args.answer) c.args.trace c.in_err-put_line.ensures.failed)

pub returns-in-Some-clause-taken : goal.returns-in-Some-clause-taken
returns-in-Some-clause-taken g c =
    on_ok_weaker c.put_trace.result
    (λ took. subst (λ (t : Option Trace). TakesLine g.W.Write.contents c.args.self.now (outcome_of c.args.answer) t c.put_trace.new.self) (sym c.in-Some.is)
    (takes-more g.W.Write.contents c.args.self.now c.put_line.new.self c.put_trace.new.self (line_of (outcome_of c.args.answer)) (trace_line c.in-Some.trace) c.in_ok-put_line.ensures.taken took))
    c.put_trace.ensures.taken

pub returns-in-Some-clause-failed : goal.returns-in-Some-clause-failed
returns-in-Some-clause-failed g c =
    on_err_weaker c.put_trace.result
    (λ failed. subst (λ (t : Option Trace). FailsWriting g.W.Write.contents c.args.self.now (outcome_of c.args.answer) t c.put_trace.new.self) (sym c.in-Some.is)
    (fails-later g.W.Write.contents c.args.self.now c.put_line.new.self c.put_trace.new.self (line_of (outcome_of c.args.answer)) (trace_line c.in-Some.trace) c.in_ok-put_line.ensures.taken failed))
    c.put_trace.ensures.failed
