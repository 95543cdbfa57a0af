-- The accesses of a request come in their order.
use Rattle.std.proofs.Common.{◌≡◌, ◌≢◌, ◌∙◌, inl, inr, ℕ, ◌+◌, ◌==◌, Bool, true, false, cond, nat_le, List, length, Option, Some, None, refl, sym, ap, subst}
use Rattle.iom_virtqueue.specs.declared.phase.Phase.{Phase}
use Rattle.iom_virtqueue.specs.declared.phase.Phase.TheVariants.{AvailableIndex, RingEntry, Table, Served, UsedElement, UsedIndex, Faulted}
use Rattle.iom_virtqueue.specs.Chains.{Chain, byte_count}
use Rattle.iom_virtqueue.specs.Descriptors.{descriptor_of, next_of, number_at}
use Rattle.iom_virtqueue.specs.Queues.{QueueState, after_fault, after_in, element_piece, goes_on_at, new_requests}
use Rattle.iom_virtio_blk.specs.declared.front.Front.{Front}
use Rattle.iom_virtio_blk.specs.declared.request.Plan.{Plan}
use Rattle.iom_virtio_blk.specs.declared.request.Plan.TheVariants.{ReadDisk, WriteDisk, FlushDisk, End}
use Rattle.iom_virtio_blk.specs.declared.request.RequestStatus.TheVariants.{Ok, IoError}
use Rattle.iom_virtio_blk.specs.declared.serving.Serving.{Serving}
use Rattle.iom_virtio_blk.specs.declared.serving.Job.{Job}
use Rattle.iom_virtio_blk.specs.declared.serving.Job.TheVariants.{Header, Reading, Writing, Ending}
use Rattle.iom_virtio_blk.specs.declared.step.Step.TheVariants.{Finished, Wants}
use Rattle.iom_virtio_blk.specs.declared.want.WantedAccess.{WantedAccess}
use Rattle.iom_virtio_blk.specs.Disks.{sector_count}
use Rattle.iom_virtio_blk.specs.Serving.{begun_serving, data_in, data_out, piece_in, piece_len}
use Rattle.iom_virtio_blk.specs.Blocks.{buffer_in, planned, queue_in, sector_in, serving_in}
use Rattle.iom_virtio_blk.specs.Steps.{Device, GoesOnIn, ServesWithDisk, BlockDeviceSteps, TakesQueue, UsesIn, serving_from, settled}
use Rattle.iom_virtio_blk.specs.Order.{Purpose, avail_idx, ring_entry, descriptor, header, sectors, used_element, used_idx, Follows, purpose_at, purpose_in, purpose_of}

-- what comes next
record IsNext (old : Purpose) (phase : Phase) (job : Job) : Type 0 where
  next : Purpose
  is : purpose_in phase job ≡ Some next
  follows : Follows old next

-- the queue

after_descriptor : (next : Option ℕ) (s : Serving) → IsNext descriptor (goes_on_at next) (serving_from (goes_on_at next) s).job
after_descriptor None s = record { next = header; is = refl; follows = inl (2, refl, refl) }
after_descriptor (Some index) s = record { next = descriptor; is = refl; follows = inr (inl (refl, refl)) }

after_element : (whole : Bool) (done : ℕ) (s : Serving) → IsNext used_element (cond whole UsedIndex (UsedElement done)) (serving_from (cond whole UsedIndex (UsedElement done)) s).job
after_element true done s = record { next = used_idx; is = refl; follows = inl (6, refl, refl) }
after_element false done s = record { next = used_element; is = refl; follows = inr (inl (refl, refl)) }

the_same : (x y : Purpose) → Some x ≡ Some y → x ≡ y
the_same x y e = cc

queue_moves : (phase : Phase) (q : QueueState) (bytes : List ℕ) (s : Serving) (old : Purpose) → purpose_in phase s.job ≡ Some old → phase ≢ Served
    → (after_in phase q bytes).phase ≢ AvailableIndex → IsNext old (after_in phase q bytes).phase (serving_from (after_in phase q bytes).phase s).job
queue_moves AvailableIndex q bytes s old is other moved =
    subst (λ (p : Purpose). IsNext p (after_in AvailableIndex q bytes).phase (serving_from (after_in AvailableIndex q bytes).phase s).job) (the_same avail_idx old is)
    (by (new_requests (number_at 2 0 bytes) q.finished == 0) moved)
  where
    by : (c : Bool) → (cond c AvailableIndex RingEntry ≢ AvailableIndex) → IsNext avail_idx (cond c AvailableIndex RingEntry) (serving_from (cond c AvailableIndex RingEntry) s).job
    by true never = absurd (never refl)
    by false never = record { next = ring_entry; is = refl; follows = inl (0, refl, refl) }
queue_moves RingEntry q bytes s old is other moved =
    subst (λ (p : Purpose). IsNext p (Table (number_at 2 0 bytes)) s.job) (the_same ring_entry old is)
    (record { next = descriptor; is = refl; follows = inl (1, refl, refl) })
queue_moves (Table index) q bytes s old is other moved =
    subst (λ (p : Purpose). IsNext p (goes_on_at (next_of (descriptor_of bytes))) (serving_from (goes_on_at (next_of (descriptor_of bytes))) s).job)
    (the_same descriptor old is) (after_descriptor (next_of (descriptor_of bytes)) s)
queue_moves Served q bytes s old is other moved = absurd (other refl)
queue_moves (UsedElement done) q bytes s old is other moved =
    subst (λ (p : Purpose). IsNext p (after_in (UsedElement done) q bytes).phase (serving_from (after_in (UsedElement done) q bytes).phase s).job)
    (the_same used_element old is) (after_element (done + element_piece q done == 8) (done + element_piece q done) s)
queue_moves UsedIndex q bytes s old is other moved = absurd (moved refl)
queue_moves Faulted q bytes s old is other moved = absurd (none is)
  where
    none : None ≡ Some old → ⊥
    none e = cc

-- the request

-- one that goes on, or ends
abbrev IsAfter : Purpose → Job → Type 0
IsAfter old job = Follows old (purpose_at job)

ended_after : (old : Purpose) (done : Bool) (s : Serving) → IsAfter old s.job → IsAfter old (Ending IoError) → IsAfter old (settled done s).job
ended_after old true s well failed = well
ended_after old false s well failed = failed

header_then : (plan : Plan) (sector : ℕ) (s : Serving) (chain : Chain) → IsAfter header (begun_serving plan sector s chain).job
header_then ReadDisk sector s chain = by (data_in chain == 0)
  where
    by : (none : Bool) → IsAfter header (cond none (Ending Ok) Reading)
    by true = inr (inr (refl, refl))
    by false = inl (3, refl, refl)
header_then WriteDisk sector s chain = by (data_out chain == 0)
  where
    by : (none : Bool) → IsAfter header (cond none (Ending Ok) Writing)
    by true = inr (inr (refl, refl))
    by false = inl (3, refl, refl)
header_then FlushDisk sector s chain = inr (inr (refl, refl))
header_then (End end) sector s chain = inr (inr (refl, refl))

header_goes : (whole : Bool) (plan : Plan) (sector : ℕ) (s : Serving) (chain : Chain) → s.job ≡ Header → IsAfter header (cond whole (begun_serving plan sector s chain) s).job
header_goes true plan sector s chain job = header_then plan sector s chain
header_goes false plan sector s chain job = subst (λ (j : Job). IsAfter header j) (sym job) (inr (inl (refl, refl)))

data_goes : (enough : Bool) (job : Job) → purpose_at job ≡ sectors → IsAfter sectors (cond enough (Ending Ok) job)
data_goes true job is = inl (4, refl, refl)
data_goes false job is = subst (λ (p : Purpose). Follows sectors p) (sym is) (inr (inl (refl, refl)))

served_next : (job : Job) (b : Front) (done : Bool) (count : Option ℕ) → b.queue.phase ≡ Served → b.serving.job ≡ job
    → IsNext (purpose_at job) (queue_in job b).phase (settled done (serving_in job b count)).job
served_next Header b done count served is = record {
  next = purpose_at (settled done (serving_in Header b count)).job;
  is = ap (λ (p : Phase). purpose_in p (settled done (serving_in Header b count)).job) served;
  follows =
      ended_after header done (serving_in Header b count)
      (header_goes (b.serving.read + length b.got.items == 16) (planned b count) (sector_in (buffer_in Header b)) (record b.serving { read = b.serving.read + length b.got.items }) b.queue.chain is)
      (inr (inr (refl, refl)));
}
served_next Reading b done count served is = record {
  next = purpose_at (settled done (serving_in Reading b count)).job;
  is = ap (λ (p : Phase). purpose_in p (settled done (serving_in Reading b count)).job) served;
  follows =
      ended_after sectors done (serving_in Reading b count)
      (data_goes (nat_le (data_in b.queue.chain) (b.serving.wrote + piece_len (piece_in Reading b.serving b.queue.chain))) Reading refl) (inl (4, refl, refl));
}
served_next Writing b done count served is = record {
  next = purpose_at (settled done (serving_in Writing b count)).job;
  is = ap (λ (p : Phase). purpose_in p (settled done (serving_in Writing b count)).job) served;
  follows =
      ended_after sectors done (serving_in Writing b count)
      (data_goes (nat_le (byte_count b.queue.chain.readable) (b.serving.read + length b.got.items)) Writing refl) (inl (4, refl, refl));
}
served_next (Ending end) b done count served is = record { next = used_element; is = refl; follows = inl (5, refl, refl) }

-- the step

as_new : (old : Purpose) (phase phase_then : Phase) (s s_then : Serving) → phase_then ≡ phase → s_then ≡ s → IsNext old phase s.job → IsNext old phase_then s_then.job
as_new old phase phase_then s s_then same served next =
    subst (λ (p : Phase). IsNext old p s_then.job) (sym same) (subst (λ (t : Serving). IsNext old phase t.job) (sym served) next)

serves_next : (old new : Device) (purpose : Purpose) → old.front.queue.phase ≡ Served → ServesWithDisk old new → purpose_of old.front ≡ Some purpose
    → IsNext purpose new.front.queue.phase new.front.serving.job
serves_next old new purpose served (done, called, front) is =
    let job = old.front.serving.job in
    let own : purpose_at job ≡ purpose = the_same (purpose_at job) purpose (sym (ap (λ (p : Phase). purpose_in p job) served) ∙ is) in
    as_new purpose (queue_in job old.front).phase new.front.queue.phase (settled done (serving_in job old.front (sector_count old.disk))) new.front.serving
    (ap (λ (f : Front). f.queue.phase) front) (ap (λ (f : Front). f.serving) front)
    (subst (λ (p : Purpose). IsNext p (queue_in job old.front).phase (settled done (serving_in job old.front (sector_count old.disk))).job) own
    (served_next job old.front done (sector_count old.disk) served refl))

pub queue_then : (old new : Device) → TakesQueue old new → new.front.queue ≡ after_in old.front.queue.phase old.front.queue old.front.got.items
queue_then old new takes = ap (λ (f : Front). f.queue) takes.2 ∙ ap (λ fault. after_fault fault old.front.queue old.front.got.items) takes.0

serving_then : (old new : Device) → TakesQueue old new
    → new.front.serving ≡ serving_from (after_in old.front.queue.phase old.front.queue old.front.got.items).phase old.front.serving
serving_then old new takes =
    ap (λ (f : Front). f.serving) takes.2
    ∙ ap (λ fault. serving_from (after_fault fault old.front.queue old.front.got.items).phase old.front.serving) takes.0

takes_next : (old new : Device) (purpose : Purpose) → old.front.queue.phase ≢ Served → new.front.queue.phase ≢ AvailableIndex → TakesQueue old new
    → purpose_of old.front ≡ Some purpose → IsNext purpose new.front.queue.phase new.front.serving.job
takes_next old new purpose other moved takes is =
    let q = old.front.queue in
    let then : QueueState = after_in q.phase q old.front.got.items in
    as_new purpose then.phase new.front.queue.phase (serving_from then.phase old.front.serving) new.front.serving
    (ap (λ (k : QueueState). k.phase) (queue_then old new takes)) (serving_then old new takes)
    (queue_moves q.phase q old.front.got.items old.front.serving purpose is other (λ e. moved (ap (λ (k : QueueState). k.phase) (queue_then old new takes) ∙ e)))

uses_next : (old new : Device) (purpose : Purpose) (phase : Phase) → old.front.queue.phase ≡ phase → UsesIn phase old new → new.front.queue.phase ≢ AvailableIndex
    → purpose_of old.front ≡ Some purpose → IsNext purpose new.front.queue.phase new.front.serving.job
uses_next old new purpose Served is used moved own = serves_next old new purpose is used own
uses_next old new purpose AvailableIndex is used moved own = takes_next old new purpose (λ e. apart (sym is ∙ e)) moved used own
  where
    apart : AvailableIndex ≡ Served → ⊥
    apart e = cc
uses_next old new purpose RingEntry is used moved own = takes_next old new purpose (λ e. apart (sym is ∙ e)) moved used own
  where
    apart : RingEntry ≡ Served → ⊥
    apart e = cc
uses_next old new purpose (Table index) is used moved own = takes_next old new purpose (λ e. apart (sym is ∙ e)) moved used own
  where
    apart : Table index ≡ Served → ⊥
    apart e = cc
uses_next old new purpose (UsedElement done) is used moved own = takes_next old new purpose (λ e. apart (sym is ∙ e)) moved used own
  where
    apart : UsedElement done ≡ Served → ⊥
    apart e = cc
uses_next old new purpose UsedIndex is used moved own = takes_next old new purpose (λ e. apart (sym is ∙ e)) moved used own
  where
    apart : UsedIndex ≡ Served → ⊥
    apart e = cc
uses_next old new purpose Faulted is used moved own = takes_next old new purpose (λ e. apart (sym is ∙ e)) moved used own
  where
    apart : Faulted ≡ Served → ⊥
    apart e = cc

pub steps_follow : (old new : Device) (want : WantedAccess) (purpose : Purpose) → BlockDeviceSteps old (Wants want) new → old.front.is_made ≡ true → purpose_of old.front ≡ Some purpose
    → (next : Purpose) × (purpose_of new.front ≡ Some next) × Follows purpose next
steps_follow old new want purpose steps made own =
    let used = subst (λ (m : Bool). GoesOnIn m old new) made steps.4 in
    let on = uses_next old new purpose old.front.queue.phase refl used (steps.3 made) own in
    (on.next, on.is, on.follows)

pub finishes_last : (old new : Device) (head len : ℕ) → BlockDeviceSteps old (Finished head len) new → (purpose_of old.front ≡ Some used_idx) × (purpose_of new.front ≡ Some avail_idx)
finishes_last old new head len steps = (
  ap (λ (p : Phase). purpose_in p old.front.serving.job) steps.1,
  ap (λ (p : Phase). purpose_in p new.front.serving.job)
      (ap (λ (k : QueueState). k.phase) (queue_then old new steps.4) ∙ ap (λ (p : Phase). (after_in p old.front.queue old.front.got.items).phase) steps.1),
)
