-- Accesses to memory that are wanted, and the bytes that come of them.
use Rattle.std.specs.Prelude.{◌≡◌, ℕ, ◌+◌, ◌-◌, ◌%◌, ◌^◌, ◌≤◌, min, List, length}
use Rattle.iom_virtqueue.specs.declared.want.Want.{Want}
use Rattle.iom_virtqueue.specs.declared.want.Want.TheVariants.{Nothing, Read, Write}

-- an access that is wanted, or none
pub data Access : Type 0 where
  nothing : Access
  reads : ℕ → ℕ → Access
  writes : ℕ → List ℕ → Access

-- the access that a want names
abbrev pub wanted_access_of : Want → Access
wanted_access_of Nothing = nothing
wanted_access_of (Read address len) = reads address len
wanted_access_of (Write address bytes) = writes address bytes.items

-- addresses wrap (a choice of this model: the standard has no addresses beyond the last)
abbrev pub wrapped : ℕ → ℕ
wrapped address = address % 2 ^ 64

-- how many of so many bytes from an address on lie in its page
abbrev pub cut : ℕ → ℕ → ℕ
cut address len = min len (4096 - address % 4096)

-- there is an access, of some bytes within one page
abbrev pub LiesInPage : Access → Type 0
LiesInPage nothing = ⊥
LiesInPage (reads address len) = (1 ≤ len) × (address % 4096 + len ≤ 4096)
LiesInPage (writes address bytes) = (1 ≤ length bytes) × (address % 4096 + length bytes ≤ 4096)

-- the bytes are those of the wanted access: as many as were to be read, none for a write
abbrev pub AreOf : List ℕ → Access → Type 0
AreOf bytes nothing = ⊥
AreOf bytes (reads address len) = length bytes ≡ len
AreOf bytes (writes address written) = length bytes ≡ 0
