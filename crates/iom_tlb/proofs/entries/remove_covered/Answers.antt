use Rattle.std.proofs.Common.{◌∙◌}
use Rattle.iom_tlb.proofs.PlainLemmas.{fewer, dropped, same_others, others_left}
use Rattle.iom_tlb.proofs.entries.remove_covered.Goals as goal

pub loop-key-smaller : goal.loop-key-smaller
loop-key-smaller c = rw c.pop.ensures.entries (fewer c.args.cover.now c.loop-key.entries.entries c.in-Some.key c.in-Some.ensures)

pub loop-key-preserved : goal.loop-key-preserved
loop-key-preserved c = rw c.pop.ensures.entries (record {
  others = same_others c.args.cover.now c.loop-key.entries.entries c.in-Some.key c.len-in-Some.ensures.valid.0 c.in-Some.ensures ∙ c.loop-key.invariant.others;
  capacity = c.loop-key.invariant.capacity;
})

pub returns-clause-order : goal.returns-clause-order
returns-clause-order c =
    others_left c.args.cover.now c.args.entries.now.entries c.loop-key.entries.entries (rw c.in_default.is at c.first_covered.ensures) c.loop-key.invariant.others

pub returns-clause-dropped : goal.returns-clause-dropped
returns-clause-dropped c = dropped c.args.cover.now c.args.entries.now.entries c.loop-key.entries.entries c.len.ensures.valid.0 (returns-clause-order c)
