use Rattle.iom_table_frames.proofs.GivingLemmas.{GivesBackBelow}
use Rattle.iom_table_frames.proofs.table_frames.TableFrames.give_back.Given as goal

-- the frames below are given back
abbrev pub invariant-loop-frame : goal.invariant-loop-frame
invariant-loop-frame l = GivesBackBelow l.frame l.owner l.fn.self l.self l.fn.memory l.memory
