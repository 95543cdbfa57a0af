use Rattle.std.proofs.Common.{◌≡◌, ◌+◌, min, arith}
use Rattle.iom_table_survey.proofs.AddLemmas.{adds_no_run, adds_run_next, adds_run}
use Rattle.iom_table_survey.proofs.frame_row.FrameRow.insert_run.Goals as goal

pub loop-place-init : goal.loop-place-init
loop-place-init c = adds_no_run c.args.self.now c.args.first c.min-place.result c.min-place.ensures

pub loop-place-preserved : goal.loop-place-preserved
loop-place-preserved c =
    adds_run_next c.args.self.now c.loop-place.self c.insert.new.self (min c.args.first 4096) c.loop-place.place (omega arith) c.loop-place.invariant c.insert.ensures

pub returns : goal.returns
returns c =
    let some = c.requires.some in
    let last : c.loop-place.place ≡ min (c.args.first + c.args.count) 4097 = omega arith in
    adds_run c.args.self.now c.loop-place.self c.args.first c.args.count c.loop-place.place c.requires.some last c.loop-place.invariant
