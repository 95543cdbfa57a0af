-- What a device wants, and what the bytes that came are.
use Rattle.std.proofs.Common.{◌≡◌, ◌≢◌, ℕ, ◌+◌, ◌-◌, ◌%◌, ◌<◌, ◌≤◌, List, length, take, drop, Option, Some, None, refl, sym, subst, arith, length-take, length-drop}
use Rattle.iom_virtqueue.specs.declared.spans.Piece.{Piece}
use Rattle.iom_virtqueue.specs.declared.phase.Phase.{Phase}
use Rattle.iom_virtqueue.specs.declared.phase.Phase.TheVariants.{AvailableIndex, RingEntry, Table, Served, UsedElement, UsedIndex, Faulted}
use Rattle.iom_virtqueue.specs.Chains.{Chain, byte_count}
use Rattle.iom_virtqueue.specs.Accesses.{Access, nothing, AreOf, LiesInPage}
use Rattle.iom_virtqueue.specs.Queues.{QueueState, wanted, wanted_in as queue_wants}
use Rattle.iom_virtqueue.proofs.SpanLemmas.{IsCut, piece_of-within, piece_of-cut, piece_of-there}
use Rattle.iom_virtio_blk.specs.declared.front.Front.{Front}
use Rattle.iom_virtio_blk.specs.declared.serving.Serving.{Serving}
use Rattle.iom_virtio_blk.specs.declared.serving.Job.{Job}
use Rattle.iom_virtio_blk.specs.declared.serving.Job.TheVariants.{Header, Reading, Writing, Ending}
use Rattle.iom_virtio_blk.specs.Serving.{access_at, access_in, piece_in, piece_len, IsUnderWayIn, IsUnderWay}
use Rattle.iom_virtio_blk.specs.Blocks.{wants_in, wanted_by, replied}
use Rattle.iom_virtio_blk.specs.declared.step.Reply.TheVariants.{Accepted}

-- the bytes of data are some, among those of the chain, and of one sector
pub record IsData (b : Front) : Type 0 where
  pub some : 1 ≤ length b.got.items
  pub within : b.serving.read + length b.got.items ≤ byte_count b.queue.chain.readable
  pub few : (b.serving.read - 16) % 512 + length b.got.items ≤ 512

pub data_came : (b : Front) → AreOf b.got.items (wanted_by b) → b.queue.phase ≡ Served → b.serving.job ≡ Writing → IsData b
data_came b made phase job =
    let served : AreOf b.got.items (wants_in Served b) = subst (λ (p : Phase). AreOf b.got.items (wants_in p b)) phase made in
    let taken : AreOf b.got.items (access_at Writing b.serving b.buffer (piece_in Writing b.serving b.queue.chain)) = subst (λ (j : Job). AreOf b.got.items (access_at j b.serving b.buffer (piece_in j b.serving b.queue.chain))) job served in
    by (piece_in Writing b.serving b.queue.chain) refl taken where
      by : (piece : Option Piece) → piece_in Writing b.serving b.queue.chain ≡ piece → AreOf b.got.items (access_at Writing b.serving b.buffer piece) → IsData b
      by None e are = absurd are
      by (Some piece) e are =
          let within = piece_of-within b.queue.chain.readable b.serving.read (512 - (b.serving.read - 16) % 512) piece e in
          let cut : IsCut (512 - (b.serving.read - 16) % 512) piece = piece_of-cut b.queue.chain.readable b.serving.read (512 - (b.serving.read - 16) % 512) piece (omega arith) e in
          record { some = omega (arith, cut.some); within = omega arith; few = omega (arith, cut.not_more) }

-- a piece of a sector is not more than the rest of the sector
pub piece-few : (s : Serving) (chain : Chain) → piece_len (piece_in Reading s chain) ≤ 512 - s.wrote % 512
piece-few s chain = by (piece_in Reading s chain) refl where
  by : (piece : Option Piece) → piece_in Reading s chain ≡ piece → piece_len piece ≤ 512 - s.wrote % 512
  by None e = omega arith
  by (Some piece) e = let cut : IsCut (512 - s.wrote % 512) piece = piece_of-cut chain.writable s.wrote (512 - s.wrote % 512) piece (omega arith) e in cut.not_more

-- part of a sector, as a write, lies in the page of its piece
sector_part : (s : Serving) (buffer : List ℕ) (piece : Piece) → IsCut (512 - s.wrote % 512) piece → length buffer ≡ 512 → LiesInPage (access_at Reading s buffer (Some piece))
sector_part s buffer piece cut long =
    let some = cut.some in let few = cut.not_more in let page = cut.page in
    let same : length (take piece.len (drop (s.wrote % 512) buffer)) ≡ piece.len = simp (length-take, length-drop) (rw long (omega arith)) in
    (rw same some, rw same page)

-- while a request is served there is an access that it wants, within one page
pub access-within : (s : Serving) (chain : Chain) (buffer : List ℕ) → IsUnderWay s chain → 16 ≤ byte_count chain.readable → 1 ≤ byte_count chain.writable → length buffer ≡ 512 → LiesInPage (access_in s buffer chain)
access-within s chain buffer under_way header status long = by s.job under_way where
  by : (job : Job) → IsUnderWayIn job s chain → LiesInPage (access_at job s buffer (piece_in job s chain))
  by Header u =
      let lt : s.read < byte_count chain.readable = (let few : s.read < 16 = u.0 in omega arith) in
      let there = piece_of-there chain.readable s.read (16 - s.read) lt in
      let cut = piece_of-cut chain.readable s.read (16 - s.read) there.0 (let few : s.read < 16 = u.0 in omega arith) there.1 in
      subst (λ (found : Option Piece). LiesInPage (access_at Header s buffer found)) (sym there.1) (cut.some, cut.page)
  by Reading u =
      let lt : s.wrote < byte_count chain.writable = (let few : s.wrote < byte_count chain.writable - 1 = u.0 in omega arith) in
      let there = piece_of-there chain.writable s.wrote (512 - s.wrote % 512) lt in
      let cut = piece_of-cut chain.writable s.wrote (512 - s.wrote % 512) there.0 (omega arith) there.1 in
      subst (λ (found : Option Piece). LiesInPage (access_at Reading s buffer found)) (sym there.1) (sector_part s buffer there.0 cut long)
  by Writing u =
      let there = piece_of-there chain.readable s.read (512 - (s.read - 16) % 512) u.1 in
      let cut = piece_of-cut chain.readable s.read (512 - (s.read - 16) % 512) there.0 (omega arith) there.1 in
      subst (λ (found : Option Piece). LiesInPage (access_at Writing s buffer found)) (sym there.1) (cut.some, cut.page)
  by (Ending end) u =
      let there = piece_of-there chain.writable (byte_count chain.writable - 1) 1 (omega arith) in
      let cut = piece_of-cut chain.writable (byte_count chain.writable - 1) 1 there.0 (omega arith) there.1 in
      subst (λ (found : Option Piece). LiesInPage (access_at (Ending end) s buffer found)) (sym there.1) (omega arith, let some = cut.some in let page = cut.page in omega arith)

-- what a queue wants is an access, but while its chain is served and after a fault
wants_some : (q : QueueState) → q.phase ≢ Served → q.phase ≢ Faulted → wanted q ≢ nothing
wants_some q served faulted = by q.phase refl where
  by : (p : Phase) → q.phase ≡ p → queue_wants p q ≢ nothing
  by AvailableIndex e = λ same. cc
  by RingEntry e = λ same. cc
  by (Table index) e = λ same. cc
  by Served e = absurd (served e)
  by (UsedElement done) e = λ same. cc
  by UsedIndex e = λ same. cc
  by Faulted e = absurd (faulted e)

other_phase : (b : Front) → b.queue.phase ≢ Served → wanted_by b ≡ wanted b.queue
other_phase b other = by b.queue.phase refl where
  by : (p : Phase) → b.queue.phase ≡ p → wants_in p b ≡ wanted b.queue
  by AvailableIndex e = refl
  by RingEntry e = refl
  by (Table index) e = refl
  by Served e = absurd (other e)
  by (UsedElement done) e = refl
  by UsedIndex e = refl
  by Faulted e = refl

-- the access that the device wants, from what holds of its queue
pub queue-within : (b : Front) → b.queue.phase ≢ Served → b.queue.phase ≢ Faulted → (wanted b.queue ≢ nothing → LiesInPage (wanted b.queue)) → LiesInPage (wanted_by b)
queue-within b served faulted within = rw (other_phase b served) (within (wants_some b.queue served faulted))

pub served-within : (b : Front) → b.queue.phase ≡ Served → LiesInPage (access_in b.serving b.buffer b.queue.chain) → LiesInPage (wanted_by b)
served-within b phase within = subst (λ (p : Phase). LiesInPage (wants_in p b)) (sym phase) within

-- the bytes of a wanted access are those of the access that was accepted
pub accepted_bytes : (b : Front) (number : ℕ) (access : Access) (bytes : List ℕ) → access ≡ wanted_by b → AreOf bytes access → AreOf bytes (wanted_by (replied (Accepted number) b))
accepted_bytes b number access bytes is are = by b.queue.phase (subst (λ (a : Access). AreOf bytes a) is are) where
  by : (p : Phase) → AreOf bytes (wants_in p b) → AreOf bytes (wants_in p (replied (Accepted number) b))
  by AvailableIndex a = a
  by RingEntry a = a
  by (Table index) a = a
  by Served a = a
  by (UsedElement done) a = a
  by UsedIndex a = a
  by Faulted a = a
