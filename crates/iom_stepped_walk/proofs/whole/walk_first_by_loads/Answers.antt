-- All loads of one memory are the whole walk.
use Rattle.std.proofs.Common.{length}
use Rattle.iom_base.specs.Sizes.{levels_of}
use Rattle.iom_stage_walk.specs.Paths.{ReachesFirst, StopsFirst}
use Rattle.iom_walk_loads.proofs.BoundLemmas.{walks_end}
use Rattle.iom_walk_loads.proofs.WholeLemmas.{first_is_whole}
use Rattle.iom_walk_loads.specs.Tables.{first_walk}
use Rattle.iom_stepped_walk.proofs.FinishLemmas.{answers, few, few_levels}
use Rattle.iom_stepped_walk.specs.Positions.{remains}
use Rattle.iom_stepped_walk.proofs.whole.walk_first_by_loads.Goals as goal

pub finish-requires : goal.finish-requires
finish-requires g c =
    let m = g.B.Bytes.frames_of c.args.memory.now in
    few (remains (length m) c.begin_first.result) (first_walk (length m) (levels_of c.args.size) c.args.root.number c.args.address c.args.kind) (levels_of c.args.size) (few_levels c.args.size)
    ((walks_end (length m) (levels_of c.args.size) 0 c.args.root.number 0 c.args.address c.args.kind).0) (c.begin_first.ensures (length m))

pub returns-clause-reached : goal.returns-clause-reached
returns-clause-reached g c =
    let m = g.B.Bytes.frames_of c.args.memory.now in
    (answers m (remains (length m) c.begin_first.result) (first_walk (length m) (levels_of c.args.size) c.args.root.number c.args.address c.args.kind) c.finish.result
    (ReachesFirst (levels_of c.args.size) m c.args.root.number c.args.address c.args.kind) (StopsFirst (levels_of c.args.size) m c.args.root.number c.args.address c.args.kind)
    c.finish.ensures (c.begin_first.ensures (length m)) (first_is_whole m (levels_of c.args.size) c.args.root.number c.args.address c.args.kind)).0

pub returns-clause-stopped : goal.returns-clause-stopped
returns-clause-stopped g c =
    let m = g.B.Bytes.frames_of c.args.memory.now in
    (answers m (remains (length m) c.begin_first.result) (first_walk (length m) (levels_of c.args.size) c.args.root.number c.args.address c.args.kind) c.finish.result
    (ReachesFirst (levels_of c.args.size) m c.args.root.number c.args.address c.args.kind) (StopsFirst (levels_of c.args.size) m c.args.root.number c.args.address c.args.kind)
    c.finish.ensures (c.begin_first.ensures (length m)) (first_is_whole m (levels_of c.args.size) c.args.root.number c.args.address c.args.kind)).1
