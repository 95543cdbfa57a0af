-- A disk as it is seen.
use Rattle.std.specs.Prelude.{ℕ, List, Option}

-- a disk as it is seen: which disk it is, by a name that no call changes; the bytes of each sector; how many of its calls failed; and, where that is
-- settled beforehand, which will fail, by how many go well before each of them
pub record DiskState : Type 0 where
  pub name : ℕ
  pub sectors : List (List ℕ)
  pub failures : ℕ
  pub failing : Option (List ℕ)
