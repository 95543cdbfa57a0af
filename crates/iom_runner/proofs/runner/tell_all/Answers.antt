-- The line of the world and those of the script are told, or a beginning of them.
use Rattle.std.proofs.lemmas.Result.{on_ok_weaker, on_err_weaker}
use Rattle.iom_world.specs.Shown.{shown_of}
use Rattle.iom_runner.specs.Text.{power_on}
use Rattle.iom_runner.proofs.RunLemmas.{IsFirst, begins_whole, so_far_none, told_whole, told_in_part, told_until_failure, same_if_ran, same_if_failed}
use Rattle.iom_line_writer.proofs.WritingLemmas.{at_err}
use Rattle.iom_runner.proofs.runner.tell_all.Goals as goal

pub returns-in_err-put-clause-so_far : goal.returns-in_err-put-clause-so_far
returns-in_err-put-clause-so_far g c = λ setting size begins same.
    let first : IsFirst setting size (shown_of g.D.Disk.shown c.args.world.now) c.args.lines.now c.trace_for-trace.result = record { begins = begins; counts = same; wanted = c.trace_for-trace.ensures.wanted; counted = c.trace_for-trace.ensures.counts _ begins.shows } in
    at_err c.from_residual.result (so_far_none g.W.Write.contents setting size c.args.script.now c.args.lines.now c.put.new.self c.trace_for-trace.result
    (shown_of g.D.Disk.shown c.args.world.now) c.requires.empty first c.in_err-put.ensures.failed)

pub returns-in_err-put-clause-front : goal.returns-in_err-put-clause-front
returns-in_err-put-clause-front g c = λ setting size begins same.
    on_err_weaker c.from_residual.result (begins_whole setting size c.args.script.now _ _) (returns-in_err-put-clause-so_far g c setting size begins same)

pub returns-in_err-tell_lines-clause-same_writer : goal.returns-in_err-tell_lines-clause-same_writer
returns-in_err-tell_lines-clause-same_writer g c = λ setting size begins.
    same_if_failed g.W.Write.contents c.args.script.now c.args.lines.now c.put.new.self c.tell_lines.new.lines c.trace_for-trace.result (power_on setting size)
    (shown_of g.D.Disk.shown c.args.world.now) (shown_of g.D.Disk.shown c.tell_lines.new.world) c.in_ok-put.ensures.taken (c.in_err-tell_lines.ensures.failed _ begins.shows)

pub returns-in_err-tell_lines-clause-so_far : goal.returns-in_err-tell_lines-clause-so_far
returns-in_err-tell_lines-clause-so_far g c = λ setting size begins same.
    let first : IsFirst setting size (shown_of g.D.Disk.shown c.args.world.now) c.args.lines.now c.trace_for-trace.result = record { begins = begins; counts = same; wanted = c.trace_for-trace.ensures.wanted; counted = c.trace_for-trace.ensures.counts _ begins.shows } in
    at_err c.from_residual-in_err-tell_lines.result (told_until_failure g.W.Write.contents setting size c.args.script.now c.args.lines.now c.put.new.self c.tell_lines.new.lines c.trace_for-trace.result
    (shown_of g.D.Disk.shown c.args.world.now) (shown_of g.D.Disk.shown c.tell_lines.new.world) c.requires.empty first c.in_ok-put.ensures.taken
    (c.in_err-tell_lines.ensures.failed _ begins.shows))

pub returns-in_err-tell_lines-clause-front : goal.returns-in_err-tell_lines-clause-front
returns-in_err-tell_lines-clause-front g c = λ setting size begins same.
    on_err_weaker c.from_residual-in_err-tell_lines.result (begins_whole setting size c.args.script.now _ _) (returns-in_err-tell_lines-clause-so_far g c setting size begins same)

pub returns-clause-same_writer : goal.returns-clause-same_writer
returns-clause-same_writer g c = λ setting size begins.
    same_if_ran g.W.Write.contents c.args.script.now c.args.lines.now c.put.new.self c.tell_lines.new.lines c.write_out.new.self c.trace_for-trace.result (power_on setting size)
    (shown_of g.D.Disk.shown c.args.world.now) (shown_of g.D.Disk.shown c.tell_lines.new.world) c.in_ok-put.ensures.taken (c.in_ok-tell_lines.ensures.ran _ begins.shows)
    c.write_out.ensures.same_writer

pub returns-clause-reply : goal.returns-clause-reply
returns-clause-reply g c = λ setting size begins same.
    let first : IsFirst setting size (shown_of g.D.Disk.shown c.args.world.now) c.args.lines.now c.trace_for-trace.result = record { begins = begins; counts = same; wanted = c.trace_for-trace.ensures.wanted; counted = c.trace_for-trace.ensures.counts _ begins.shows } in
    on_ok_weaker c.write_out.result (told_whole g.W.Write.contents setting size c.args.script.now c.args.lines.now c.put.new.self c.tell_lines.new.lines c.write_out.new.self c.trace_for-trace.result
    (shown_of g.D.Disk.shown c.args.world.now) (shown_of g.D.Disk.shown c.tell_lines.new.world) c.requires.empty first c.in_ok-put.ensures.taken
    (c.in_ok-tell_lines.ensures.ran _ begins.shows)) c.write_out.ensures.all

pub returns-clause-so_far : goal.returns-clause-so_far
returns-clause-so_far g c = λ setting size begins same.
    let first : IsFirst setting size (shown_of g.D.Disk.shown c.args.world.now) c.args.lines.now c.trace_for-trace.result = record { begins = begins; counts = same; wanted = c.trace_for-trace.ensures.wanted; counted = c.trace_for-trace.ensures.counts _ begins.shows } in
    on_err_weaker c.write_out.result (told_in_part g.W.Write.contents setting size c.args.script.now c.args.lines.now c.put.new.self c.tell_lines.new.lines c.write_out.new.self c.trace_for-trace.result
    (shown_of g.D.Disk.shown c.args.world.now) (shown_of g.D.Disk.shown c.tell_lines.new.world) c.requires.empty first c.in_ok-put.ensures.taken
    (c.in_ok-tell_lines.ensures.ran _ begins.shows)) c.write_out.ensures.part

pub returns-clause-front : goal.returns-clause-front
returns-clause-front g c = λ setting size begins same.
    on_err_weaker c.write_out.result (begins_whole setting size c.args.script.now _ _) (returns-clause-so_far g c setting size begins same)
