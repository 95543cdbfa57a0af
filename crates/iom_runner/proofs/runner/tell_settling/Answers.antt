-- The world settles, and the line tells it.
use Rattle.std.proofs.Common.{inr, arith}
use Rattle.iom_world.specs.Shown.{shown_of}
use Rattle.iom_runner.proofs.AlongLemmas.{settling_happens}
use Rattle.iom_runner.proofs.runner.tell_settling.Goals as goal

pub returns-clause-reply : goal.returns-clause-reply
returns-clause-reply g c =
    let counts = c.trace_for-trace.ensures in (
      inr c.settle-answer.result,
      c.trace_for-trace.result,
      settling_happens (shown_of g.D.Disk.shown) (λ world. (world.invariants.known.own_ids, world.invariants.known.iommu)) c.args.world.now c.settle-answer.new.self c.settle-answer.result c.trace_for-trace.result c.settle-answer.ensures.settled counts.counts,
      counts.wanted,
      c.put_settled.ensures.taken,
      c.put_settled.ensures.failed,
    )

pub returns-clause-counted : goal.returns-clause-counted
returns-clause-counted g c = let few = c.settle-answer.ensures.counted in omega (arith, few)
