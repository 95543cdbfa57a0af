-- The line of what settling answers is put, and then that of the counts, where there are any.
use Rattle.std.proofs.Common.{Option, sym, subst}
use Rattle.std.proofs.lemmas.Result.{on_ok_weaker, on_err_weaker}
use Rattle.iom_machine.specs.declared.outcome.Trace.{Trace}
use Rattle.iom_script.specs.Lines.{settled_line, trace_line}
use Rattle.iom_line_writer.specs.AnswerLines.{settled_lines}
use Rattle.iom_line_writer.specs.Writing.{TakesText, FailsAt}
use Rattle.iom_line_writer.proofs.WritingLemmas.{at_err, takes-more, fails-answer, fails-later}
use Rattle.iom_line_writer.proofs.writing.LineWriter.put_settled.Goals as goal

pub returns-in_err-put_answer-clause-failed : goal.returns-in_err-put_answer-clause-failed
returns-in_err-put_answer-clause-failed g c =
    at_err c.from_residual.result (fails-answer g.W.Write.contents c.args.self.now c.put_answer.new.self c.args.answer c.args.trace c.in_err-put_answer.ensures.failed)

pub returns-in-Some-clause-taken : goal.returns-in-Some-clause-taken
returns-in-Some-clause-taken g c =
    on_ok_weaker c.put_trace.result
    (λ took. subst (λ (t : Option Trace). TakesText g.W.Write.contents c.args.self.now (settled_lines c.args.answer t) c.put_trace.new.self) (sym c.in-Some.is)
    (takes-more g.W.Write.contents c.args.self.now c.put_answer.new.self c.put_trace.new.self (settled_line c.args.answer) (trace_line c.in-Some.trace) c.in_ok-put_answer.ensures.taken took))
    c.put_trace.ensures.taken

pub returns-in-Some-clause-failed : goal.returns-in-Some-clause-failed
returns-in-Some-clause-failed g c =
    on_err_weaker c.put_trace.result
    (λ failed. subst (λ (t : Option Trace). FailsAt g.W.Write.contents c.args.self.now (settled_lines c.args.answer t) c.put_trace.new.self) (sym c.in-Some.is)
    (fails-later g.W.Write.contents c.args.self.now c.put_answer.new.self c.put_trace.new.self (settled_line c.args.answer) (trace_line c.in-Some.trace) c.in_ok-put_answer.ensures.taken failed))
    c.put_trace.ensures.failed
