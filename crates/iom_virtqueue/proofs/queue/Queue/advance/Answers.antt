use Rattle.std.proofs.Common.{◌≡◌, ◌<◌, ◌∙◌, subst, sym, Some, None}
use Rattle.iom_virtqueue.specs.Descriptors.{number_at}
use Rattle.iom_virtqueue.specs.Queues.{QueueState, chain_fault_of}
use Rattle.iom_virtqueue.specs.contracts.queue.Queue.{the_view}
use Rattle.iom_virtqueue.specs.Chains.{IsTrail, fault_at}
use Rattle.iom_virtqueue.specs.declared.descriptor.Link.{Link}
use Rattle.iom_virtqueue.proofs.ChainLemmas.{ended}
use Rattle.iom_virtqueue.proofs.QueueLemmas.{begun, goes_on, entry_below, table_trail, table_none, table_room}
use Rattle.iom_virtqueue.proofs.queue.Queue.advance.Goals as goal
use Rattle.iom_virtqueue.proofs.queue.Queue.advance.Goals.{then-has_next, else-has_next}

pub invariant_of-self-in-RingEntry : goal.invariant_of-self-in-RingEntry
invariant_of-self-in-RingEntry c =
    let q : QueueState = the_view c.self.inside in
    let none : chain_fault_of q c.args.bytes.now ≡ None = subst (λ (r : QueueState). chain_fault_of r c.args.bytes.now ≡ None) (sym c.self.view_is) c.requires.none in
    let lt : number_at 2 0 c.args.bytes.now < c.self.inside.layout.size = entry_below q c.args.bytes.now c.in-RingEntry.is none in
    (c.self.invariant.0, rw (c.clear.ensures, c.le16-self-inside.ensures) (begun c.self.inside.layout.size (number_at 2 0 c.args.bytes.now) lt))

pub invariant_of-self-in-Table : goal.invariant_of-self-in-Table
invariant_of-self-in-Table c =
    let q : QueueState = the_view c.self.inside in
    let none : chain_fault_of q c.args.bytes.now ≡ None = subst (λ (r : QueueState). chain_fault_of r c.args.bytes.now ≡ None) (sym c.self.view_is) c.requires.none in
    let link : Link = record { index = c.in-Table.index; descriptor = c.decode-descriptor.result } in
    let trail : IsTrail q.layout.size q.head q.chain (Some link.index) = table_trail q c.in-Table.index c.in-Table.is c.self.invariant.1 in
    let clear : fault_at q.layout.size q.chain link ≡ None = rw c.decode-descriptor.ensures (table_none q c.in-Table.index c.args.bytes.now c.in-Table.is none) in
    elim c.if-has_next.branch [
      | then-has_next w ↦ rw (w.self-is, c.push.ensures) (c.self.invariant.0, goes_on q.layout.size q.head q.chain link trail clear (sym c.has_next.ensures ∙ w.if-has_next.true))
      | else-has_next w ↦ rw (w.self-is, c.push.ensures) (c.self.invariant.0, ended q.layout.size q.head q.chain link trail clear (sym c.has_next.ensures ∙ w.if-has_next.false))
    ]

pub push-requires-clause-readable : goal.push-requires-clause-readable
push-requires-clause-readable c = (table_room (the_view c.self.inside) c.in-Table.index c.self.invariant.0.most c.in-Table.is c.self.invariant.1).0

pub push-requires-clause-writable : goal.push-requires-clause-writable
push-requires-clause-writable c = (table_room (the_view c.self.inside) c.in-Table.index c.self.invariant.0.most c.in-Table.is c.self.invariant.1).1
