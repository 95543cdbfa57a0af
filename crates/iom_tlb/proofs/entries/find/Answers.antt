use Rattle.std.proofs.Common.{◌∙◌, ap}
use Rattle.lru.specs.LruCache.{LruCache}
use Rattle.iom_tlb.proofs.PlainLemmas.{looked, looked_order}
use Rattle.iom_tlb.proofs.entries.find.Goals as goal

pub returns-clause-unchanged : goal.returns-clause-unchanged
returns-clause-unchanged c = rw c.promote.ensures.entries (looked c.args.key c.args.entries.now.entries c.len.ensures.valid.0)

pub returns-clause-order : goal.returns-clause-order
returns-clause-order c =
    ap (λ (cache : LruCache _ _). cache.entries) c.promote.ensures.entries ∙ looked_order c.args.key c.args.entries.now.entries c.len.ensures.valid.0
