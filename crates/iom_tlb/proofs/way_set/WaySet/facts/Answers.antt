use Rattle.std.proofs.Common.{subst}
use Rattle.iom_tlb.specs.WayCalls.{AreWays}
use Rattle.iom_tlb.proofs.PlaceLemmas.{in_way}
use Rattle.iom_tlb.proofs.way_set.WaySet.facts.Goals as goal

pub returns : goal.returns
returns c = in_way _ (subst AreWays c.self.view_is c.self.invariant)
