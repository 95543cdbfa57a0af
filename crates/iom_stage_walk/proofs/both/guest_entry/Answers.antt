-- An entry of the guest's tables is read where the second stage leads its address.
use Rattle.std.proofs.Common.{◌∙◌, sym, ap}
use Rattle.iom_base.specs.Sizes.{levels_of}
use Rattle.iom_stage_walk.specs.Entries.{entries, slot}
use Rattle.iom_stage_walk.proofs.GuestSteps.{read_ok, read_err}
use Rattle.iom_stage_walk.proofs.Loads.{entry_inside}
use Rattle.iom_stage_walk.proofs.both.guest_entry.Goals as goal

pub returns-in-Ok-clause-ok : goal.returns-in-Ok-clause-ok
returns-in-Ok-clause-ok g c =
    let frames = g.B.Bytes.frames_of c.args.memory.now in
    read_ok (levels_of c.args.size) frames c.args.second c.args.table c.args.index c.from.result c.in-Ok.led.frame c.in-Ok.led.rights c.entry_at.result c.from.ensures c.requires.index
    c.in-Ok.ensures.ok
    (c.entry_at.ensures.value ∙ ap (λ n. entries frames (slot n c.args.index)) c.from-in-Ok.ensures)

pub returns-in-Err-clause-err : goal.returns-in-Err-clause-err
returns-in-Err-clause-err g c =
    read_err (levels_of c.args.size) (g.B.Bytes.frames_of c.args.memory.now) c.args.second c.args.table c.args.index c.from.result c.args.original c.report.result c.from.ensures
    (c.in-Err.cause, c.in-Err.ensures.err, c.report.ensures)

pub returns-in-Ok-clause-inside : goal.returns-in-Ok-clause-inside
returns-in-Ok-clause-inside g c =
    let frames = g.B.Bytes.frames_of c.args.memory.now in
    let same = c.entry_at.ensures.value ∙ ap (λ n. entries frames (slot n c.args.index)) c.from-in-Ok.ensures in
    λ outside. entry_inside frames c.in-Ok.led.frame c.args.index c.in-Ok.ensures.ok.inside c.requires.index (sym same ∙ outside)
