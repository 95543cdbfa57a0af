-- What is told by way of the buffer is told to the writer.
use Rattle.std.proofs.Common.{rules, ◌∙◌, ℕ, List, None, refl, sym, subst}
use Rattle.iom_world.specs.Shown.{shown_of}
use Rattle.iom_telling.specs.declared.teller.Teller.{Teller}
use Rattle.iom_telling.specs.Tellers.{WritesRun, BeginsRun}
use Rattle.iom_telling.proofs.LineLemmas.{run_writes, run_begins, told_by}
use Rattle.iom_telling.proofs.script.tell_run.Goals as goal

pub returns-in-Ok-clause-told : goal.returns-in-Ok-clause-told
returns-in-Ok-clause-told g c =
    let teller : Teller g.row.W.Denot g.row.D.Denot g.D.Disk = record { world = c.args.world; before = c.args.before; lines = c.new-lines.result; fault = None; explains = c.args.explains; alloc = c.args.alloc } in
    let all = run_writes g.W.Write.contents g.D.Disk.shown teller c.tell_all-told.new.teller c.args.script.now c.in-Ok.ensures.told in
    let name = c.lines_of-told_lines.ensures.same_writer ∙ all.0.0 ∙ c.new-lines.ensures.same_writer in
    told_by g.W.Write.contents (λ old new. WritesRun (shown_of g.D.Disk.shown c.args.world) c.args.explains c.args.buffer c.args.script.now old new)
    c.args.writer.now c.new-lines.result.writer.now c.lines_of-told_lines.result.writer.now _ c.new-lines.ensures.contents (search (rules, name, c.writer-1.given.1))
    (told_by g.W.Write.contents (λ old new. WritesRun (shown_of g.D.Disk.shown c.args.world) c.args.explains c.args.buffer c.args.script.now old new)
    c.new-lines.result.writer.now c.new-lines.result.writer.now c.tell_all-told.new.teller.lines.writer.now c.lines_of-told_lines.result.writer.now refl (sym c.lines_of-told_lines.ensures.contents)
    (subst (λ (b : List ℕ). WritesRun (shown_of g.D.Disk.shown c.args.world) c.args.explains b c.args.script.now (g.W.Write.contents c.new-lines.result.writer.now)
    (g.W.Write.contents c.tell_all-told.new.teller.lines.writer.now)) c.new-lines.ensures.buffer all.1))

pub returns-in-Err-clause-failed : goal.returns-in-Err-clause-failed
returns-in-Err-clause-failed g c =
    let teller : Teller g.row.W.Denot g.row.D.Denot g.D.Disk = record { world = c.args.world; before = c.args.before; lines = c.new-lines.result; fault = None; explains = c.args.explains; alloc = c.args.alloc } in
    let all = run_begins g.W.Write.contents g.D.Disk.shown teller c.tell_all-told.new.teller c.args.script.now c.in-Err.ensures.failed in
    let name = c.lines_of-told_lines.ensures.same_writer ∙ all.0.0 ∙ c.new-lines.ensures.same_writer in
    told_by g.W.Write.contents (λ old new. BeginsRun (shown_of g.D.Disk.shown c.args.world) c.args.explains c.args.buffer c.args.script.now old new)
    c.args.writer.now c.new-lines.result.writer.now c.lines_of-told_lines.result.writer.now _ c.new-lines.ensures.contents (search (rules, name, c.writer-1.given.1))
    (told_by g.W.Write.contents (λ old new. BeginsRun (shown_of g.D.Disk.shown c.args.world) c.args.explains c.args.buffer c.args.script.now old new)
    c.new-lines.result.writer.now c.new-lines.result.writer.now c.tell_all-told.new.teller.lines.writer.now c.lines_of-told_lines.result.writer.now refl (sym c.lines_of-told_lines.ensures.contents)
    (subst (λ (b : List ℕ). BeginsRun (shown_of g.D.Disk.shown c.args.world) c.args.explains b c.args.script.now (g.W.Write.contents c.new-lines.result.writer.now)
    (g.W.Write.contents c.tell_all-told.new.teller.lines.writer.now)) c.new-lines.ensures.buffer all.1))
