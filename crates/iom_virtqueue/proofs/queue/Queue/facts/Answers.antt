use Rattle.std.proofs.Common.{◌≢◌, subst}
use Rattle.iom_virtqueue.specs.Queues.{QueueState, IsChainSoFar, wanted}
use Rattle.iom_virtqueue.specs.Accesses.{nothing, LiesInPage}
use Rattle.iom_virtqueue.specs.Layouts.{IsLayout}
use Rattle.iom_virtqueue.specs.contracts.queue.Queue.{the_view}
use Rattle.iom_virtqueue.proofs.PageLemmas.{wanted-within}
use Rattle.iom_virtqueue.proofs.queue.Queue.facts.Goals as goal

pub returns : goal.returns
returns c = record {
  layout = subst (λ (q : QueueState). IsLayout q.layout) c.self.view_is c.self.invariant.0;
  within = subst (λ (q : QueueState). wanted q ≢ nothing → LiesInPage (wanted q)) c.self.view_is (wanted-within (the_view c.self.inside) c.self.invariant.0 c.self.invariant.1);
  invariants = subst (λ (q : QueueState). IsChainSoFar q) c.self.view_is c.self.invariant.1;
}
