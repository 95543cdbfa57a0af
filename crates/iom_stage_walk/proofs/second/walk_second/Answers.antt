-- A walk's answer is the end of the path through the second stage, exactly.
use Rattle.std.proofs.Common.{Err, false}
use Rattle.iom_base.specs.Sizes.{levels_of}
use Rattle.iom_stage_walk.specs.Second.{ReachesSecond, StopsSecond}
use Rattle.iom_stage_walk.proofs.Ends.{exactly_ok, exactly_err}
use Rattle.iom_stage_walk.proofs.OneSecond.{one_walked_second, one_fault_leading, leads_or_faults}
use Rattle.iom_stage_walk.proofs.second.walk_second.Goals as goal

pub returns-in-Err-clause-reached : goal.returns-in-Err-clause-reached
returns-in-Err-clause-reached g c =
    let frames = g.B.Bytes.frames_of c.args.memory.now in
    let kind = c.args.kind in
    let levels = levels_of c.args.size in
    exactly_ok (ReachesSecond levels frames c.args.root c.args.address kind) (StopsSecond levels frames c.args.root c.args.address kind)
    (one_walked_second levels frames c.args.root c.args.address kind kind)
    (one_fault_leading levels frames c.args.root c.args.address kind kind false)
    (λ a f p q. leads_or_faults levels frames c.args.root c.args.address kind kind false a.frame a.rights f p.leads q)
    (Err c.report.result) tt (c.in-Err.cause, c.in-Err.ensures.err, c.report.ensures)

pub returns-in-Err-clause-stopped : goal.returns-in-Err-clause-stopped
returns-in-Err-clause-stopped g c =
    let frames = g.B.Bytes.frames_of c.args.memory.now in
    let kind = c.args.kind in
    let levels = levels_of c.args.size in
    exactly_err (ReachesSecond levels frames c.args.root c.args.address kind) (StopsSecond levels frames c.args.root c.args.address kind)
    (one_walked_second levels frames c.args.root c.args.address kind kind)
    (one_fault_leading levels frames c.args.root c.args.address kind kind false)
    (λ a f p q. leads_or_faults levels frames c.args.root c.args.address kind kind false a.frame a.rights f p.leads q)
    (Err c.report.result) tt (c.in-Err.cause, c.in-Err.ensures.err, c.report.ensures)
