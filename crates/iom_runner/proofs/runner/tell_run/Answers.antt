-- What is told by way of the buffer is told to the writer.
use Rattle.std.proofs.Common.{rules, ◌∙◌}
use Rattle.iom_runner.specs.WorldText.{WritesRun, BeginsRun, BeginsRunSoFar}
use Rattle.iom_runner.proofs.TextLemmas.{told_by}
use Rattle.iom_runner.proofs.runner.tell_run.Goals as goal

pub returns-in-Ok-clause-reply : goal.returns-in-Ok-clause-reply
returns-in-Ok-clause-reply g c = λ setting size begins same.
    let name = (c.tell_all-reply.ensures.same_writer setting size begins).0 ∙ c.new-lines.ensures.same_writer in
    told_by g.W.Write.contents (λ old new. WritesRun setting size c.args.script.now old new)
    c.args.writer.now c.new-lines.result.writer.now c.tell_all-reply.new.lines.writer.now _ c.new-lines.ensures.contents (search rules) (c.in-Ok.ensures.reply setting size begins (c.new-lines.ensures.counts ∙ same))

pub returns-in-Err-clause-front : goal.returns-in-Err-clause-front
returns-in-Err-clause-front g c = λ setting size begins same.
    let name = (c.tell_all-reply.ensures.same_writer setting size begins).0 ∙ c.new-lines.ensures.same_writer in
    told_by g.W.Write.contents (λ old new. BeginsRun setting size c.args.script.now old new)
    c.args.writer.now c.new-lines.result.writer.now c.tell_all-reply.new.lines.writer.now _ c.new-lines.ensures.contents (search rules) (c.in-Err.ensures.front setting size begins (c.new-lines.ensures.counts ∙ same))

pub returns-in-Err-clause-so_far : goal.returns-in-Err-clause-so_far
returns-in-Err-clause-so_far g c = λ setting size begins same.
    let name = (c.tell_all-reply.ensures.same_writer setting size begins).0 ∙ c.new-lines.ensures.same_writer in
    told_by g.W.Write.contents (λ old new. BeginsRunSoFar setting size c.args.script.now old new)
    c.args.writer.now c.new-lines.result.writer.now c.tell_all-reply.new.lines.writer.now _ c.new-lines.ensures.contents (search rules) (c.in-Err.ensures.so_far setting size begins (c.new-lines.ensures.counts ∙ same))
