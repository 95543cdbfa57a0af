-- What is left ends as the whole does, within as many loads as are left.
use Rattle.std.proofs.Common.{◌≡◌, ◌-◌, length}
use Rattle.iom_walk_loads.specs.Loads.{EndsWithin, made_from}
use Rattle.iom_stepped_walk.specs.Positions.{remains}
use Rattle.iom_stepped_walk.proofs.whole.finish.Given as goal

abbrev pub invariant-loop-made : goal.invariant-loop-made
invariant-loop-made g l =
    let m = g.B.Bytes.frames_of l.memory in
    record {
      same : made_from m (remains (length m) l.progress) ≡ made_from m (remains (length m) l.fn.begun);
      bounded : EndsWithin (24 - l._made) (remains (length m) l.progress);
    }
