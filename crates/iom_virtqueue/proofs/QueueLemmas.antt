-- What holds of a queue after a descriptor was read.
use Rattle.std.proofs.Common.{◌≡◌, ℕ, ◌<◌, ◌≤◌, Bool, true, false, List, length, Some, None, cond, refl, subst, nat_le, arith}
use Rattle.std.specs.List.{IsDistinct}
use Rattle.iom_virtqueue.specs.declared.descriptor.Link.{Link}
use Rattle.iom_virtqueue.specs.Descriptors.{has_next, next_of, number_at, descriptor_of}
use Rattle.iom_virtqueue.specs.Chains.{Chain, no_links, with_link, IsTrail, fault_at}
use Rattle.iom_virtqueue.specs.Queues.{QueueState, IsChainSoFar, IsChainSoFarIn, fault_in, chain_fault_of}
use Rattle.iom_virtqueue.proofs.ChainLemmas.{grown, room}
use Rattle.iom_virtqueue.specs.declared.fault.ChainFault.TheVariants.{BadIndex}
use Rattle.iom_virtqueue.specs.declared.phase.Phase.TheVariants.{RingEntry, Table}
use Rattle.std.proofs.lemmas.Bool.{leb-false}
use Rattle.std.proofs.lemmas.List.Elements.{All-nil}

-- a chain of which nothing was read yet
pub begun : (size head : ℕ) → head < size → IsTrail size head no_links (Some head)
unfolding IsDistinct
begun size head lt = record {
  leads = refl;
  distinct = tt;
  in_table = All-nil _;
  goes_on = (lt, refl);
  readable = All-nil _;
  writable = All-nil _;
  direct = All-nil _;
  readable_bytes = omega arith;
  writable_bytes = omega arith;
}

-- the chain goes on
pub goes_on : (size head : ℕ) (chain : Chain) (link : Link) → IsTrail size head chain (Some link.index) → fault_at size chain link ≡ None → has_next link.descriptor ≡ true
    → IsTrail size head (with_link chain link) (Some link.descriptor.next)
goes_on size head chain link trail none more =
    let end : next_of link.descriptor ≡ Some link.descriptor.next = rw more refl in
    subst (λ to. IsTrail size head (with_link chain link) to) end (grown size head chain link trail none)

below_size : (size n : ℕ) (over : Bool) → nat_le size n ≡ over → cond over (Some BadIndex) None ≡ None → n < size
below_size size n true e h = cc
below_size size n false e h = leb-false size n e

-- the head that was read
pub entry_below : (q : QueueState) (bytes : List ℕ) → q.phase ≡ RingEntry → chain_fault_of q bytes ≡ None → number_at 2 0 bytes < q.layout.size
entry_below q bytes e none = below_size q.layout.size (number_at 2 0 bytes) (nat_le q.layout.size (number_at 2 0 bytes)) refl (subst (λ p. fault_in p q bytes ≡ None) e none)

pub table_trail : (q : QueueState) (index : ℕ) → q.phase ≡ Table index → IsChainSoFar q → IsTrail q.layout.size q.head q.chain (Some index)
table_trail q index e invariants = subst (λ p. IsChainSoFarIn p q) e invariants

pub table_none : (q : QueueState) (index : ℕ) (bytes : List ℕ) → q.phase ≡ Table index → chain_fault_of q bytes ≡ None → fault_at q.layout.size q.chain (record { index = index; descriptor = descriptor_of bytes }) ≡ None
table_none q index bytes e none = subst (λ p. fault_in p q bytes ≡ None) e none

pub table_room : (q : QueueState) (index : ℕ) → q.layout.size ≤ 256 → q.phase ≡ Table index → IsChainSoFar q → (length q.chain.readable < 256) × (length q.chain.writable < 256)
table_room q index most e invariants = room q.layout.size q.head q.chain index most (table_trail q index e invariants)
