use Rattle.std.proofs.Common.{sym, subst}
use Rattle.iom_tlb.specs.Places.{IsInWay}
use Rattle.iom_tlb.specs.Ways.{Ways}
use Rattle.iom_tlb.proofs.PlaceLemmas.{stands, in_its_way, read_there}
use Rattle.iom_tlb.proofs.way_set.WaySet.page_at.Goals as goal

pub returns-clause-cached : goal.returns-clause-cached
returns-clause-cached c =
    rw (sym c.self.view_is) (in_its_way _ c.self.invariant c.args.way c.in_ok-space.space _ c.requires
    (stands _ c.self.invariant c.args.way _ c.requires c.space_of.ensures.space c.space_of.ensures.empty c.in_ok-space.space c.in_ok-space.was))

pub returns-clause-stands : goal.returns-clause-stands
returns-clause-stands c = λ cached is.
    read_there _ c.args.way c.space_of.result _ c.space_of.ensures.space cached (subst (λ (ways : Ways). IsInWay ways c.args.way cached) (sym c.self.view_is) is)
    c.in_ok-space.space c.in_ok-space.was
