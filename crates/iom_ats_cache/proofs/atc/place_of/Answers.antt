use Rattle.std.proofs.Common.{rules, tests}
use Rattle.std.proofs.lemmas.Iterator.{YieldsList-from_slice}
use Rattle.std.proofs.lemmas.Iterator.Search.{position_from_yields_List}
use Rattle.iom_ats_cache.specs.Cache.{range_covers}
use Rattle.iom_fabric.specs.declared.message.Range.TheVariants as range
use Rattle.iom_ats_cache.proofs.atc.place_of.Goals as goal

pub returns : goal.returns
returns c = position_from_yields_List (λ entry. range_covers (range.Page c.args.page) entry.page) _ _ _ c.position.ensures.ran (YieldsList-from_slice c.args.entries.now cc) (λ x b q k. search (rules, tests))
