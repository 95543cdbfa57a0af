use Rattle.std.proofs.Common.{length}
use Rattle.iom_line_writer.proofs.WritingLemmas.{IsLeft}
use Rattle.iom_line_writer.proofs.writing.write_all.Given as goal

-- what isn't left is written
abbrev pub invariant-loop-rest : goal.invariant-loop-rest
invariant-loop-rest g l = IsLeft (g.W.Write.contents l.fn.writer) (g.W.Write.contents l.writer) l.bytes l.rest

abbrev pub decreases-loop-rest : goal.decreases-loop-rest
decreases-loop-rest g l = length l.rest
