-- What is known of a queue between two accesses (virtio 1.2, sections 2.7.6 and 2.7.8).
use Rattle.std.specs.Prelude.{◌≡◌, ℕ, ◌+◌, ◌*◌, ◌-◌, ◌%◌, ◌^◌, ◌<◌, ◌≤◌, ◌==◌, nat_lt, nat_le, min, List, ◌++◌, length, take, drop, Option, Some, None, if◌then◌else◌}
use Rattle.byteorder.specs.Endian.{little_bytes}
use Rattle.iom_virtqueue.specs.declared.fault.ChainFault.{ChainFault}
use Rattle.iom_virtqueue.specs.declared.fault.ChainFault.TheVariants.{BadIndex}
use Rattle.iom_virtqueue.specs.declared.layout.Layout.{Layout}
use Rattle.iom_virtqueue.specs.Accesses.{Access, nothing, reads, writes, wrapped, cut}
use Rattle.iom_virtqueue.specs.declared.phase.Phase.{Phase}
use Rattle.iom_virtqueue.specs.declared.phase.Phase.TheVariants.{AvailableIndex, RingEntry, Table, Served, UsedElement, UsedIndex, Faulted}
use Rattle.iom_virtqueue.specs.Descriptors.{number_at, descriptor_of, next_of}
use Rattle.iom_virtqueue.specs.Chains.{Chain, no_links, with_link, fault_at, IsTrail, IsChain}

-- a queue as it is seen: where it lies, how many requests were finished since it was set (modulo 2^16), what is wanted next, and the request in work
pub record QueueState : Type 0 where
  pub layout : Layout
  pub finished : ℕ
  pub phase : Phase
  pub head : ℕ
  pub chain : Chain
  pub written : ℕ

-- struct virtq_avail: flags, idx, ring
abbrev pub available_idx : QueueState → ℕ
available_idx q = wrapped (q.layout.available_ring + 2)

abbrev pub ring_entry : QueueState → ℕ
ring_entry q = wrapped (q.layout.available_ring + (4 + 2 * (q.finished % q.layout.size)))

abbrev pub table_entry : QueueState → ℕ → ℕ
table_entry q index = wrapped (q.layout.descriptor_table + 16 * index)

-- struct virtq_used: flags, idx, ring of (id, len)
abbrev pub used_idx : QueueState → ℕ
used_idx q = wrapped (q.layout.used_ring + 2)

abbrev pub used_element : QueueState → ℕ → ℕ
used_element q done = wrapped (q.layout.used_ring + (4 + 8 * (q.finished % q.layout.size) + done))

abbrev pub element_bytes : QueueState → List ℕ
element_bytes q = little_bytes 4 q.head ++ little_bytes 4 q.written

abbrev pub more_finished : ℕ → ℕ
more_finished count = (count + 1) % 65536

-- how many requests the avail idx counts that aren't finished; both count modulo 2^16
abbrev pub new_requests : ℕ → ℕ → ℕ
new_requests idx finished = (idx + 65536 - finished) % 65536

-- how many bytes of the used element are written next
abbrev pub element_piece : QueueState → ℕ → ℕ
element_piece q done = cut (used_element q done) (8 - done)

-- which access is wanted
abbrev pub wanted_in : Phase → QueueState → Access
wanted_in AvailableIndex q = reads (available_idx q) 2
wanted_in RingEntry q = reads (ring_entry q) 2
wanted_in (Table index) q = reads (table_entry q index) 16
wanted_in Served q = nothing
wanted_in (UsedElement done) q = writes (used_element q done) (take (element_piece q done) (drop done (element_bytes q)))
wanted_in UsedIndex q = writes (used_idx q) (little_bytes 2 (more_finished q.finished))
wanted_in Faulted q = nothing

abbrev pub wanted : QueueState → Access
wanted q = wanted_in q.phase q

-- a queue that was just set
abbrev pub fresh_queue : Layout → QueueState
fresh_queue layout = record { layout = layout; finished = 0; phase = AvailableIndex; head = 0; chain = no_links; written = 0 }

-- the fault that these bytes show, where they were read for the wanted access
abbrev pub fault_in : Phase → QueueState → List ℕ → Option ChainFault
fault_in AvailableIndex q bytes = if nat_lt q.layout.size (new_requests (number_at 2 0 bytes) q.finished) then Some BadIndex else None
fault_in RingEntry q bytes = if nat_le q.layout.size (number_at 2 0 bytes) then Some BadIndex else None
fault_in (Table index) q bytes = fault_at q.layout.size q.chain (record { index = index; descriptor = descriptor_of bytes })
fault_in _ q bytes = None

abbrev pub chain_fault_of : QueueState → List ℕ → Option ChainFault
chain_fault_of q bytes = fault_in q.phase q bytes

abbrev pub goes_on_at : Option ℕ → Phase
goes_on_at (Some next) = Table next
goes_on_at None = Served

abbrev pub with_phase : QueueState → Phase → QueueState
with_phase q phase = record q { phase = phase }

-- what is known once the wanted access was made, where its bytes show no fault
abbrev pub after_in : Phase → QueueState → List ℕ → QueueState
after_in AvailableIndex q bytes = with_phase q (if new_requests (number_at 2 0 bytes) q.finished == 0 then AvailableIndex else RingEntry)
after_in RingEntry q bytes = record q { phase = Table (number_at 2 0 bytes); head = number_at 2 0 bytes; chain = no_links }
after_in (Table index) q bytes = record q { phase = goes_on_at (next_of (descriptor_of bytes)); chain = with_link q.chain (record { index = index; descriptor = descriptor_of bytes }) }
after_in Served q bytes = q
after_in (UsedElement done) q bytes = with_phase q (if done + element_piece q done == 8 then UsedIndex else UsedElement (done + element_piece q done))
after_in UsedIndex q bytes = record q { phase = AvailableIndex; finished = more_finished q.finished }
after_in Faulted q bytes = q

abbrev pub after_fault : Option ChainFault → QueueState → List ℕ → QueueState
after_fault None q bytes = after_in q.phase q bytes
after_fault (Some fault) q bytes = with_phase q Faulted

abbrev pub after : QueueState → List ℕ → QueueState
after q bytes = after_fault (chain_fault_of q bytes) q bytes

-- what holds of the request in work: what was read of it is the beginning of a chain, and before it is served the whole of one
abbrev pub IsChainSoFarIn : Phase → QueueState → Type 0
IsChainSoFarIn AvailableIndex q = Unit {0}
IsChainSoFarIn RingEntry q = Unit {0}
IsChainSoFarIn (Table index) q = IsTrail q.layout.size q.head q.chain (Some index)
IsChainSoFarIn Served q = IsChain q.layout.size q.head q.chain
IsChainSoFarIn (UsedElement done) q = IsChain q.layout.size q.head q.chain × (done < 8)
IsChainSoFarIn UsedIndex q = IsChain q.layout.size q.head q.chain
IsChainSoFarIn Faulted q = Unit {0}

abbrev pub IsChainSoFar : QueueState → Type 0
IsChainSoFar q = IsChainSoFarIn q.phase q
