use Rattle.std.proofs.Common.{arith}
use Rattle.iom_pointed_board.proofs.CachedLemmas.{none_served}
use Rattle.iom_pointed_board.proofs.cached.cached_translation.Goals as goal

pub returns : goal.returns
returns c =
    none_served c.args.cache.now c.args.space c.args.page c.args.kind c.facts.ensures
    (λ k low own at same on. c.loop-place.invariant k (omega (arith, low, c.loop-place-test.false)) own at same on)
