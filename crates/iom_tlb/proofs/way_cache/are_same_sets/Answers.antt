-- Lists as long are one where they are the same at each place.
use Rattle.std.proofs.Common.{ext_get_or, refl, arith}
use Rattle.iom_tlb.specs.Ways.{no_ways}
use Rattle.iom_tlb.proofs.way_cache.are_same_sets.Goals as goal

pub returns : goal.returns
returns c = (
  λ reply. ext_get_or no_ways c.args.one.now c.args.other.now c.if-one-other.false (λ number less. c.loop-number.invariant number (omega (arith, less, c.loop-number-test.false))),
  λ same. refl,
)
