-- Where a leaf spans every page, all lie in one.
use Rattle.std.proofs.Common.{◌∙◌}
use Rattle.std.proofs.lemmas.Bool.{le-leb}
use Rattle.iom_tlb.proofs.LargeLemmas.{one_leaf}
use Rattle.iom_tlb.proofs.cover.is_same_leaf.Goals as goal

pub returns-then-order-ge64 : goal.returns-then-order-ge64
returns-then-order-ge64 c =
    le-leb 64 c.args.order c.if-order-ge64.true ∙ one_leaf c.args.order c.args.page c.args.other c.if-order-ge64.true c.ranges.page.fits c.ranges.other.fits
