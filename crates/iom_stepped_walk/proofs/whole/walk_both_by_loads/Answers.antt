-- All loads of one memory are the whole walk.
use Rattle.std.proofs.Common.{◌+◌, ◌*◌, length}
use Rattle.iom_base.specs.Sizes.{levels_of}
use Rattle.iom_stage_walk.specs.Both.{ReachesBoth, StopsBoth}
use Rattle.iom_walk_loads.proofs.BoundLemmas.{walks_end}
use Rattle.iom_walk_loads.proofs.WholeLemmas.{both_is_whole}
use Rattle.iom_walk_loads.specs.Tables.{both_walk}
use Rattle.iom_stepped_walk.proofs.FinishLemmas.{answers, few, few_loads}
use Rattle.iom_stepped_walk.specs.Positions.{remains}
use Rattle.iom_stepped_walk.proofs.whole.walk_both_by_loads.Goals as goal

pub finish-requires : goal.finish-requires
finish-requires g c =
    let m = g.B.Bytes.frames_of c.args.memory.now in
    let n = levels_of c.args.first_size * (levels_of c.args.second_size + 1) + levels_of c.args.second_size in
    few (remains (length m) c.begin_both.result) (both_walk (length m) (levels_of c.args.first_size) (levels_of c.args.second_size) c.args.first.number c.args.second.number c.args.address c.args.kind) n (few_loads c.args.first_size c.args.second_size)
    ((walks_end (length m) (levels_of c.args.first_size) (levels_of c.args.second_size) c.args.first.number c.args.second.number c.args.address c.args.kind).2) (c.begin_both.ensures (length m))

pub returns-clause-reached : goal.returns-clause-reached
returns-clause-reached g c =
    let m = g.B.Bytes.frames_of c.args.memory.now in
    (answers m (remains (length m) c.begin_both.result) (both_walk (length m) (levels_of c.args.first_size) (levels_of c.args.second_size) c.args.first.number c.args.second.number c.args.address c.args.kind) c.finish.result
    (ReachesBoth (levels_of c.args.first_size) (levels_of c.args.second_size) m c.args.first.number c.args.second.number c.args.address c.args.kind) (StopsBoth (levels_of c.args.first_size) (levels_of c.args.second_size) m c.args.first.number c.args.second.number c.args.address c.args.kind)
    c.finish.ensures (c.begin_both.ensures (length m)) (both_is_whole m (levels_of c.args.first_size) (levels_of c.args.second_size) c.args.first.number c.args.second.number c.args.address c.args.kind)).0

pub returns-clause-stopped : goal.returns-clause-stopped
returns-clause-stopped g c =
    let m = g.B.Bytes.frames_of c.args.memory.now in
    (answers m (remains (length m) c.begin_both.result) (both_walk (length m) (levels_of c.args.first_size) (levels_of c.args.second_size) c.args.first.number c.args.second.number c.args.address c.args.kind) c.finish.result
    (ReachesBoth (levels_of c.args.first_size) (levels_of c.args.second_size) m c.args.first.number c.args.second.number c.args.address c.args.kind) (StopsBoth (levels_of c.args.first_size) (levels_of c.args.second_size) m c.args.first.number c.args.second.number c.args.address c.args.kind)
    c.finish.ensures (c.begin_both.ensures (length m)) (both_is_whole m (levels_of c.args.first_size) (levels_of c.args.second_size) c.args.first.number c.args.second.number c.args.address c.args.kind)).1
