-- A walk's answer is the end of the path through both stages, exactly.
use Rattle.iom_base.specs.Sizes.{levels_of}
use Rattle.iom_stage_walk.specs.Both.{ReachesBoth, StopsBoth}
use Rattle.iom_stage_walk.proofs.Ends.{exactly_ok, exactly_err}
use Rattle.iom_stage_walk.proofs.OneBoth.{one_walked_both, one_fault_both, both_or_stops}
use Rattle.iom_stage_walk.proofs.both.walk_both.Goals as goal

pub returns-clause-reached : goal.returns-clause-reached
returns-clause-reached g c =
    let frames = g.B.Bytes.frames_of c.args.memory.now in
    let above = levels_of c.args.first_size in
    let below = levels_of c.args.second_size in
    exactly_ok (ReachesBoth above below frames c.args.first.number c.args.second c.args.address c.args.kind) (StopsBoth above below frames c.args.first.number c.args.second c.args.address c.args.kind)
    (one_walked_both above below frames c.args.first.number c.args.second c.args.address c.args.kind c.args.kind)
    (one_fault_both above below frames c.args.first.number c.args.second c.args.address c.args.kind)
    (both_or_stops above below frames c.args.first.number c.args.second c.args.address c.args.kind)
    c.walk_both_sized.result c.walk_both_sized.ensures.ok c.walk_both_sized.ensures.err

pub returns-clause-stopped : goal.returns-clause-stopped
returns-clause-stopped g c =
    let frames = g.B.Bytes.frames_of c.args.memory.now in
    let above = levels_of c.args.first_size in
    let below = levels_of c.args.second_size in
    exactly_err (ReachesBoth above below frames c.args.first.number c.args.second c.args.address c.args.kind) (StopsBoth above below frames c.args.first.number c.args.second c.args.address c.args.kind)
    (one_walked_both above below frames c.args.first.number c.args.second c.args.address c.args.kind c.args.kind)
    (one_fault_both above below frames c.args.first.number c.args.second c.args.address c.args.kind)
    (both_or_stops above below frames c.args.first.number c.args.second c.args.address c.args.kind)
    c.walk_both_sized.result c.walk_both_sized.ensures.ok c.walk_both_sized.ensures.err
