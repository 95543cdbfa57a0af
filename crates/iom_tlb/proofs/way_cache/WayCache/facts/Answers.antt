use Rattle.std.proofs.Common.{subst, arith}
use Rattle.iom_tlb.specs.Places.{HavePlaces}
use Rattle.iom_tlb.proofs.PlaceLemmas.{in_place}
use Rattle.iom_tlb.proofs.way_cache.WayCache.facts.Goals as goal

pub returns : goal.returns
returns c = subst HavePlaces c.self.view_is (in_place c.self.inside.sets.items (λ number less. c.loop-number.invariant number (omega (arith, less, c.loop-number-test.false))))
