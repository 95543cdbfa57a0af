use Rattle.std.proofs.Common.{◌<◌}
use Rattle.iom_frame_set.specs.Sets.{room}
use Rattle.iom_memory_tests.proofs.frame_set.take_out.Given as goal

-- there is room for each frame of the largest memory
abbrev pub invariant-loop-frame : goal.invariant-loop-frame
invariant-loop-frame l = 4095 < room l.set
