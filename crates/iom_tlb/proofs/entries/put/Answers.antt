use Rattle.iom_tlb.proofs.PlainLemmas.{kept, kept_order}
use Rattle.iom_tlb.proofs.entries.put.Goals as goal

pub returns-clause-kept : goal.returns-clause-kept
returns-clause-kept c = kept c.put.result c.args.entries.now c.put.new.self c.args.key c.args.translation c.len.ensures.valid c.put.ensures.entries c.put.ensures.err c.put.ensures.succeeds

pub returns-clause-order : goal.returns-clause-order
returns-clause-order c =
    kept_order c.put.result c.args.entries.now c.put.new.self c.args.key c.args.translation c.len.ensures.valid c.requires c.put.ensures.entries c.put.ensures.err
    c.put.ensures.succeeds
