-- All loads of one memory are the whole walk.
use Rattle.std.proofs.Common.{length}
use Rattle.iom_base.specs.Sizes.{levels_of}
use Rattle.iom_stage_walk.specs.Second.{ReachesSecond, StopsSecond}
use Rattle.iom_walk_loads.proofs.BoundLemmas.{walks_end}
use Rattle.iom_walk_loads.proofs.WholeLemmas.{second_is_whole}
use Rattle.iom_walk_loads.specs.Tables.{second_walk}
use Rattle.iom_stepped_walk.proofs.FinishLemmas.{answers, few, few_levels}
use Rattle.iom_stepped_walk.specs.Positions.{remains}
use Rattle.iom_stepped_walk.proofs.whole.walk_second_by_loads.Goals as goal

pub finish-requires : goal.finish-requires
finish-requires g c =
    let m = g.B.Bytes.frames_of c.args.memory.now in
    few (remains (length m) c.begin_second.result) (second_walk (length m) (levels_of c.args.size) c.args.root.number c.args.address c.args.kind) (levels_of c.args.size) (few_levels c.args.size)
    ((walks_end (length m) 0 (levels_of c.args.size) 0 c.args.root.number c.args.address c.args.kind).1) (c.begin_second.ensures (length m))

pub returns-clause-reached : goal.returns-clause-reached
returns-clause-reached g c =
    let m = g.B.Bytes.frames_of c.args.memory.now in
    (answers m (remains (length m) c.begin_second.result) (second_walk (length m) (levels_of c.args.size) c.args.root.number c.args.address c.args.kind) c.finish.result
    (ReachesSecond (levels_of c.args.size) m c.args.root.number c.args.address c.args.kind) (StopsSecond (levels_of c.args.size) m c.args.root.number c.args.address c.args.kind)
    c.finish.ensures (c.begin_second.ensures (length m)) (second_is_whole m (levels_of c.args.size) c.args.root.number c.args.address c.args.kind)).0

pub returns-clause-stopped : goal.returns-clause-stopped
returns-clause-stopped g c =
    let m = g.B.Bytes.frames_of c.args.memory.now in
    (answers m (remains (length m) c.begin_second.result) (second_walk (length m) (levels_of c.args.size) c.args.root.number c.args.address c.args.kind) c.finish.result
    (ReachesSecond (levels_of c.args.size) m c.args.root.number c.args.address c.args.kind) (StopsSecond (levels_of c.args.size) m c.args.root.number c.args.address c.args.kind)
    c.finish.ensures (c.begin_second.ensures (length m)) (second_is_whole m (levels_of c.args.size) c.args.root.number c.args.address c.args.kind)).1
