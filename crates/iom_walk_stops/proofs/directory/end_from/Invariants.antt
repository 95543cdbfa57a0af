-- What remains is what so many loads of this memory leave, and it ends within as many as are left.
use Rattle.std.proofs.Common.{◌≡◌, ◌-◌, replicate}
use Rattle.iom_walk_loads.specs.Loads.{EndsWithin, after_loads}
use Rattle.iom_stepped_walk.specs.Directories.{directory_rest}
use Rattle.iom_walk_stops.proofs.directory.end_from.Given as goal

abbrev pub invariant-loop-made : goal.invariant-loop-made
invariant-loop-made g l =
    let m = g.B.Bytes.frames_of l.memory in
    record {
      stands : directory_rest l.walk ≡ after_loads (replicate l._made m) (directory_rest l.fn.begun);
      bounded : EndsWithin (3 - l._made) (directory_rest l.walk);
    }
