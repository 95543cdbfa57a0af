-- What is taken from a reader. `ReadsMore` serves a private contract alone.
use Rattle.std.specs.Prelude.{◌≡◌, ℕ, ◌+◌, ◌≤◌, ◌++◌, List, length, Option, Result, IfErr, IfOk, OnOk}
use Rattle.std.specs.Io.KnownBytes.{Consumes, IsAtEnd}
use Rattle.iom_script_reading.specs.declared.reading.ReadFault.{ReadFault}
use Rattle.iom_script_reading.specs.declared.reading.ReadFault.TheVariants.{Reading}

-- known bytes lose so many at most, from the first on
abbrev pub ConsumesAtMost : ℕ → Option (List ℕ) → Option (List ℕ) → Type 0
ConsumesAtMost most old new = (bytes : List ℕ) × Consumes old new bytes × (length bytes ≤ most)

-- One read: the bytes that the reader loses are appended, so many in all at most, and none come at the end alone. Without memory they are lost; a read
-- that fails loses none.
pub record ReadsMore (old new : Option (List ℕ)) (before after : List ℕ) (result : Result ℕ ReadFault) (most : ℕ) : Type 0 where
  pub bytes : List ℕ
  pub taken : Consumes old new bytes
  pub few : length before + length bytes ≤ most
  pub appended : OnOk result (after ≡ before ++ bytes)
  pub counted : IfOk result (λ count. (length bytes ≡ count) × (count ≡ 0 → IsAtEnd new))
  pub failed : IfErr result (λ fault. fault ≡ Reading → length bytes ≡ 0)
