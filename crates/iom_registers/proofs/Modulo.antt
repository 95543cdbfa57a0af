-- Indices of a queue, taken modulo its size.
use Rattle.std.proofs.Common.{◌≡◌, ◌%◌, ◌<◌, ℕ, ap, ◌∙◌, arith}
use Rattle.std.proofs.Math.Nat.{mod-eq_of_lt}
use Rattle.iom_registers.specs.Queues.{next_index}

-- an index below the size, taken modulo it once or twice
pub twice : (size index : ℕ) → index < size → index % size % size ≡ index
twice size index below = ap (λ n. n % size) (mod-eq_of_lt below) ∙ mod-eq_of_lt below

-- the next index is below the size again
pub next_below : (size index : ℕ) → index < size → next_index size index < size
next_below size index below = grind (arith, below)

pub next_same : (size index : ℕ) → index < size → next_index size index % size ≡ next_index size index
next_same size index below = mod-eq_of_lt (next_below size index below)
