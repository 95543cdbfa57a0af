use Rattle.std.proofs.Common.{arith}
use Rattle.std.proofs.lemmas.Nat.Bits.{bit_at_ones}
use Rattle.iom_frame_set.proofs.BitLemmas.{ones_are_below}
use Rattle.iom_frame_set.proofs.bits.ones_below.Goals as goal

pub returns-then-place-ge-BITS : goal.returns-then-place-ge-BITS
returns-then-place-ge-BITS c k within = (λ _. omega arith, λ _. bit_at_ones 64 k within)

pub returns-else-place-ge-BITS : goal.returns-else-place-ge-BITS
returns-else-place-ge-BITS c k within = ones_are_below c.args.place k (omega arith)
