use Rattle.std.proofs.Common.{◌<◌}
use Rattle.iom_frame_set.specs.Sets.{room}
use Rattle.iom_memory_tests.proofs.frame_set.with_frames.Given as goal

-- there is room for each frame below 6,000
abbrev pub invariant-loop-frame : goal.invariant-loop-frame
invariant-loop-frame l = 5999 < room l.set
