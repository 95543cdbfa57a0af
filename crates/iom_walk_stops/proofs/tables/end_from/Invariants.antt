-- What remains is what so many loads of this memory leave, and it ends within as many as are left.
use Rattle.std.proofs.Common.{◌≡◌, ◌-◌, length, replicate}
use Rattle.iom_walk_loads.specs.Loads.{EndsWithin, after_loads}
use Rattle.iom_stepped_walk.specs.Positions.{rest_of}
use Rattle.iom_walk_stops.proofs.tables.end_from.Given as goal

abbrev pub invariant-loop-made : goal.invariant-loop-made
invariant-loop-made g l =
    let m = g.B.Bytes.frames_of l.memory in
    record {
      stands : rest_of (length m) l.walk ≡ after_loads (replicate l._made m) (rest_of (length m) l.fn.begun);
      bounded : EndsWithin (24 - l._made) (rest_of (length m) l.walk);
    }
