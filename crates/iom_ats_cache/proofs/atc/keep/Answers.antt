use Rattle.std.proofs.Common.{rules, arith}
use Rattle.iom_ats_cache.proofs.EntryLemmas.{distinct_with_entry}
use Rattle.iom_ats_cache.proofs.atc.keep.Goals as goal

pub returns-clause-kept : goal.returns-clause-kept
returns-clause-kept c = first_of (search rules, grind arith)

pub returns-clause-distinct : goal.returns-clause-distinct
returns-clause-distinct c distinct = rw (returns-clause-kept c) (distinct_with_entry c.args.entries.now.items c.args.entry distinct)
