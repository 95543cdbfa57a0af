-- A script is told, or nothing is for want of memory.
use Rattle.std.proofs.Common.{◌∙◌, ℕ, List, OnOk, OnErr, subst}
use Rattle.std.proofs.lemmas.Result.{err_from_is_err_and}
use Rattle.iom_block_devices.specs.Shown.{states_of}
use Rattle.iom_world.specs.Shown.{shown_of}
use Rattle.iom_telling.specs.Tellers.{BeginsRun, WritesRun}
use Rattle.iom_telling.proofs.ScriptLemmas.{told_script, untold}
use Rattle.iom_telling.proofs.script.tell.Goals as goal

pub returns-in_err-buffer : goal.returns-in_err-buffer
returns-in_err-buffer g c =
    let fault = err_from_is_err_and c.from_residual.result c.from_residual.ensures.1 in
    untold (states_of g.D.Disk.shown c.args.disks.items) c.args.explains c.args.script.now c.in-Some.size _ c.from_residual.result fault.0 c.in-Some.is fault.1 (fault.2 ∙ c.in_err-buffer.ensures.fault)

pub returns-in_err-before : goal.returns-in_err-before
returns-in_err-before g c =
    let fault = err_from_is_err_and c.from_residual-in_err-before.result c.from_residual-in_err-before.ensures.1 in
    untold (states_of g.D.Disk.shown c.args.disks.items) c.args.explains c.args.script.now c.in-Some.size _ c.from_residual-in_err-before.result fault.0 c.in-Some.is fault.1 (fault.2 ∙ c.in_err-before.ensures.fault)

pub returns-in_err-world : goal.returns-in_err-world
returns-in_err-world g c =
    let fault = err_from_is_err_and c.from_residual-in_err-world.result c.from_residual-in_err-world.ensures.1 in
    untold (states_of g.D.Disk.shown c.args.disks.items) c.args.explains c.args.script.now c.in-Some.size _ c.from_residual-in_err-world.result fault.0 c.in-Some.is fault.1 (fault.2 ∙ c.in_err-world.ensures.fault)

pub returns : goal.returns
returns g c =
    let old = g.W.Write.contents c.args.writer.now in
    let new = g.W.Write.contents c.tell_run.new.writer in
    let first = shown_of g.D.Disk.shown c.in_ok-world.world in
    told_script (states_of g.D.Disk.shown c.args.disks.items) c.args.explains c.args.script.now c.in-Some.size c.as_slice.result.now c.tell_run.result old new first c.in-Some.is c.as_slice.ensures
    c.in_ok-world.ensures.begins
    (subst (λ (b : List ℕ). OnOk c.tell_run.result (WritesRun first c.args.explains b c.as_slice.result.now old new)) c.in_ok-buffer.ensures.text c.tell_run.ensures.told)
    (subst (λ (b : List ℕ). OnErr c.tell_run.result (BeginsRun first c.args.explains b c.as_slice.result.now old new)) c.in_ok-buffer.ensures.text c.tell_run.ensures.failed)
