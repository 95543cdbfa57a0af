-- What is left ends as the whole does, within as many loads as are left.
use Rattle.std.proofs.Common.{◌≡◌, ◌-◌}
use Rattle.iom_walk_loads.specs.Loads.{EndsWithin, made_from}
use Rattle.iom_stepped_walk.specs.Directories.{still_locating}
use Rattle.iom_stepped_walk.proofs.whole.finish_locating.Given as goal

abbrev pub invariant-loop-made : goal.invariant-loop-made
invariant-loop-made g l =
    let m = g.B.Bytes.frames_of l.memory in
    record {
      same : made_from m (still_locating l.progress) ≡ made_from m (still_locating l.fn.begun);
      bounded : EndsWithin (3 - l._made) (still_locating l.progress);
    }
