-- Each access that a queue wants lies within one page.
use Rattle.std.proofs.Common.{◌≡◌, ◌≢◌, refl, ℕ, ◌+◌, ◌-◌, ◌*◌, ◌%◌, ◌<◌, ◌≤◌, ◌∙◌, min, length, take, drop, arith, length-append, length-take, length-drop}
use Rattle.std.proofs.Math.Pow.{mod-mod-pow}
use Rattle.iom_virtqueue.specs.declared.phase.Phase.{Phase}
use Rattle.iom_virtqueue.specs.declared.phase.Phase.TheVariants.{AvailableIndex, RingEntry, Table, Served, UsedElement, UsedIndex, Faulted}
use Rattle.iom_virtqueue.specs.Accesses.{nothing, LiesInPage, wrapped}
use Rattle.iom_virtqueue.specs.Layouts.{IsLayout}
use Rattle.iom_virtqueue.specs.Queues.{QueueState, IsChainSoFarIn, IsChainSoFar, wanted_in, wanted, element_piece, used_element, element_bytes}

below_page : (a : ℕ) → a % 4096 < 4096
below_page a = omega arith

two_fit : (x : ℕ) → x < 4096 → x % 2 ≡ 0 → x + 2 ≤ 4096
two_fit x lt even = omega arith

sixteen_fit : (x : ℕ) → x < 4096 → x % 16 ≡ 0 → x + 16 ≤ 4096
sixteen_fit x lt even = omega arith

-- two bytes at an even address
even_within : (a : ℕ) → a % 2 ≡ 0 → wrapped a % 4096 + 2 ≤ 4096
even_within a even = two_fit (wrapped a % 4096) (below_page (wrapped a)) (mod-mod-pow (wrapped a) 11 1 ∙ mod-mod-pow a 63 1 ∙ even)

-- sixteen bytes at a multiple of sixteen
sixteen_within : (a : ℕ) → a % 16 ≡ 0 → wrapped a % 4096 + 16 ≤ 4096
sixteen_within a aligned = sixteen_fit (wrapped a % 4096) (below_page (wrapped a)) (mod-mod-pow (wrapped a) 8 4 ∙ mod-mod-pow a 60 4 ∙ aligned)

entry_even : (a m : ℕ) → a % 2 ≡ 0 → (a + (4 + 2 * m)) % 2 ≡ 0
entry_even a m even = omega arith

idx_even : (a : ℕ) → a % 2 ≡ 0 → (a + 2) % 2 ≡ 0
idx_even a even = omega arith

used_even : (a : ℕ) → a % 4 ≡ 0 → (a + 2) % 2 ≡ 0
used_even a aligned = omega arith

table_aligned : (a i : ℕ) → a % 16 ≡ 0 → (a + 16 * i) % 16 ≡ 0
table_aligned a i aligned = omega arith

-- a cut is within its page, and isn't empty
cut_within : (x n : ℕ) → x < 4096 → 1 ≤ n → (1 ≤ min n (4096 - x)) × (x + min n (4096 - x) ≤ 4096) × (min n (4096 - x) ≤ n)
cut_within x n lt some = (omega arith, omega arith, omega arith)

element_long : (q : QueueState) → length (element_bytes q) ≡ 8
element_long q = simp length-append

piece_long : (q : QueueState) (done : ℕ) → done < 8 → element_piece q done ≤ 8 - done → length (take (element_piece q done) (drop done (element_bytes q))) ≡ element_piece q done
piece_long q done lt le = let long = element_long q in simp (length-take, length-drop) (omega arith)

pub wanted-within : (q : QueueState) → IsLayout q.layout → IsChainSoFar q → wanted q ≢ nothing → LiesInPage (wanted q)
wanted-within q layout invariants = by q.phase invariants where
  by : (p : Phase) → IsChainSoFarIn p q → wanted_in p q ≢ nothing → LiesInPage (wanted_in p q)
  by AvailableIndex s some = (omega arith, even_within (q.layout.available_ring + 2) (idx_even q.layout.available_ring layout.available_ring))
  by RingEntry s some = (omega arith, even_within (q.layout.available_ring + (4 + 2 * (q.finished % q.layout.size))) (entry_even q.layout.available_ring (q.finished % q.layout.size) layout.available_ring))
  by (Table index) s some = (omega arith, sixteen_within (q.layout.descriptor_table + 16 * index) (table_aligned q.layout.descriptor_table index layout.descriptor_table))
  by Served s some = absurd (some refl)
  by (UsedElement done) s some =
      let c = cut_within (used_element q done % 4096) (8 - done) (below_page (used_element q done)) (let lt : done < 8 = s.1 in omega arith) in
      let long : length (take (element_piece q done) (drop done (element_bytes q))) ≡ element_piece q done = piece_long q done s.1 c.2 in
      rw long (c.0, c.1)
  by UsedIndex s some = (omega arith, even_within (q.layout.used_ring + 2) (used_even q.layout.used_ring layout.used_ring))
  by Faulted s some = absurd (some refl)
