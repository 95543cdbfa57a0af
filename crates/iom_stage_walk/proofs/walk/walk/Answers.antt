-- The loop that goes down the levels keeps where the path leads.
use Rattle.std.proofs.Common.{◌∙◌, sym}
use Rattle.iom_stage_walk.specs.Entries.{entries}
use Rattle.iom_stage_walk.proofs.Steps.{reaches_down, level_down, level_leaf, stops_down, leaf_ok, leaf_err}
use Rattle.iom_stage_walk.proofs.walk.walk.Goals as goal

pub returns-in-Some-clause-ok : goal.returns-in-Some-clause-ok
returns-in-Some-clause-ok g c =
    let e = entries (g.B.Bytes.frames_of c.args.memory.now) in
    c.loop-k.invariant.reach _ _
    (leaf_ok e c.args.kind c.args.faults.page c.args.faults.access c.loop-k.table c.loop-k.k 0 c.args.indices.now c.loop-k-test.true c.in-Leaf.base c.in-Leaf.rights _ _ c.in-Leaf.ensures.value c.in-Some.ensures.some)

pub returns-in-Some-clause-level : goal.returns-in-Some-clause-level
returns-in-Some-clause-level g c =
    let e = entries (g.B.Bytes.frames_of c.args.memory.now) in
    c.in-Some.ensures.level
    ∙ sym (c.loop-k.invariant.level ∙ level_leaf e c.args.kind c.args.faults.page c.args.faults.access c.loop-k.table c.loop-k.k 0 c.args.indices.now c.loop-k-test.true c.in-Leaf.base c.in-Leaf.rights c.in-Leaf.ensures.value)

pub returns-in-None-clause-err : goal.returns-in-None-clause-err
returns-in-None-clause-err g c =
    let e = entries (g.B.Bytes.frames_of c.args.memory.now) in
    c.loop-k.invariant.stop _
    (leaf_err e c.args.kind c.args.faults.page c.args.faults.access c.loop-k.table c.loop-k.k 0 c.args.indices.now c.loop-k-test.true c.in-Leaf.base c.in-Leaf.rights c.in-Leaf.ensures.value c.in-None.ensures.none)

pub loop-k-preserved : goal.loop-k-preserved
loop-k-preserved g c =
    let e = entries (g.B.Bytes.frames_of c.args.memory.now) in
    record {
      reach = λ frame given h. c.loop-k.invariant.reach frame given (reaches_down e c.args.kind c.args.faults.page c.args.faults.access c.loop-k.table c.loop-k.k 0 c.args.indices.now c.loop-k-test.true c.in-Pointer.next frame given c.in-Pointer.ensures.value h);
      level = c.loop-k.invariant.level ∙ level_down e c.args.kind c.args.faults.page c.args.faults.access c.loop-k.table c.loop-k.k 0 c.args.indices.now c.loop-k-test.true c.in-Pointer.next c.in-Pointer.ensures.value;
      stop = λ cause h. c.loop-k.invariant.stop cause (stops_down e c.args.kind c.args.faults.page c.args.faults.access c.loop-k.table c.loop-k.k 0 c.args.indices.now c.loop-k-test.true c.in-Pointer.next cause c.in-Pointer.ensures.value h);
    }
