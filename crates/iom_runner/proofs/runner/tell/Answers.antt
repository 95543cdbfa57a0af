-- A script is told, or nothing is for want of memory.
use Rattle.std.proofs.Common.{◌∙◌, refl}
use Rattle.std.proofs.lemmas.Result.{err_from_is_err_and}
use Rattle.iom_runner.specs.Disks.{setting_of}
use Rattle.iom_runner.proofs.TextLemmas.{untold, told_script}
use Rattle.iom_runner.proofs.runner.tell.Goals as goal

pub returns-in_err-buffer : goal.returns-in_err-buffer
returns-in_err-buffer g c =
    let fault = err_from_is_err_and c.from_residual.result c.from_residual.ensures.1 in
    untold (setting_of g.D.Disk.shown c.args.disks.items c.args.counts) c.args.script.now c.in-Some.size _ c.from_residual.result fault.0 c.in-Some.is fault.1 (fault.2 ∙ c.in_err-buffer.ensures.fault)

pub returns-in_err-world : goal.returns-in_err-world
returns-in_err-world g c =
    let fault = err_from_is_err_and c.from_residual-in_err-world.result c.from_residual-in_err-world.ensures.1 in
    untold (setting_of g.D.Disk.shown c.args.disks.items c.args.counts) c.args.script.now c.in-Some.size _ c.from_residual-in_err-world.result fault.0 c.in-Some.is fault.1 (fault.2 ∙ c.in_err-world.ensures.fault)

pub returns : goal.returns
returns g c =
    let begins = c.in_ok-world.ensures.begins in
    let reply = c.tell_run.ensures in
    let size = c.in-Some.size in
    let setting = setting_of g.D.Disk.shown c.args.disks.items c.args.counts in
    told_script setting c.args.script.now size _ c.tell_run.result _ _ c.in-Some.is c.as_slice.ensures (reply.reply setting size begins refl) (reply.front setting size begins refl) (reply.so_far setting size begins refl)
    reply.fault
