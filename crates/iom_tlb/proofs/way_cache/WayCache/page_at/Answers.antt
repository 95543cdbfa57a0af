use Rattle.std.proofs.Common.{◌≡◌, ◌/◌, ◌%◌, Some, List, IfSome, get_or, subst, arith}
use Rattle.std.proofs.lemmas.List.{get_or_read}
use Rattle.iom_tlb.specs.Places.{IsInWay, IsCached}
use Rattle.iom_tlb.specs.Ways.{Ways, in_set, no_ways}
use Rattle.iom_tlb.proofs.PlaceLemmas.{cached_there}
use Rattle.iom_tlb.proofs.way_cache.WayCache.page_at.Goals as goal

pub returns-clause-cached : goal.returns-clause-cached
returns-clause-cached c =
    let sets = c.self.inside.sets.items in
    let same : c.index-set.result.now ≡ get_or sets (c.args.place / 8) no_ways =
    get_or_read sets (c.args.place / 8) c.index-set.result.now (omega (arith, c.requires, c.self.invariant.0.0)) c.index-set.ensures no_ways in
    subst (λ (all : List Ways). IfSome c.page_at.result (IsCached all)) c.self.view_is
    (cached_there sets (c.args.place / 8) (c.args.place % 8) c.page_at.result (c.self.invariant.0.1 (c.args.place / 8))
    (subst (λ (ways : Ways). IfSome c.page_at.result (λ cached. IsInWay ways (c.args.place % 8) cached × (in_set ways (cached.space, cached.page) ≡ Some cached.translation))) same c.page_at.ensures.cached))
