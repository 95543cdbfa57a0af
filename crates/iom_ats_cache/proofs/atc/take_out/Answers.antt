use Rattle.iom_fabric.specs.declared.message.Range.TheVariants as range
use Rattle.iom_ats_cache.proofs.EntryLemmas.{distinct_outside, outside_everything}
use Rattle.iom_ats_cache.proofs.atc.take_out.Goals as goal

pub returns-in-Page-clause-distinct : goal.returns-in-Page-clause-distinct
returns-in-Page-clause-distinct c distinct = rw c.take_page.ensures (distinct_outside (range.Page c.in-Page.page) c.args.entries.now.items distinct)

pub returns-in-Everything-clause-left : goal.returns-in-Everything-clause-left
returns-in-Everything-clause-left c = rw (c.in-Everything.is, outside_everything c.args.entries.now.items) c.clear.ensures
