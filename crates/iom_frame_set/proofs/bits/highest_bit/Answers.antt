use Rattle.std.proofs.Common.{arith}
use Rattle.iom_frame_set.proofs.BitLemmas.{highest_of}
use Rattle.iom_frame_set.proofs.bits.highest_bit.Goals as goal

pub returns : goal.returns
returns c = highest_of c.args.word c.if-word-eq0.false (omega arith)
