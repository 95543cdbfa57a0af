-- What the calls of a set do to its ways, and what holds of them whatever calls were made.
use Rattle.std.specs.Prelude.{◌≡◌, ◌≢◌, ◌⊎◌, ℕ, ◌+◌, ◌%◌, ◌<◌, Bool, true, false, List, Some, length, get_or, set, slice_get, if◌then◌else◌}
use Rattle.iom_tlb.specs.declared.large_leaves.LargeLeaves.{LargeLeaves}
use Rattle.iom_tlb.specs.declared.space.Space.{Space}
use Rattle.iom_tlb.specs.declared.trans_cache.Translation.{Translation}
use Rattle.iom_tlb.specs.Content.{Key, Translations}
use Rattle.iom_tlb.specs.Covers.{may_be_large}
use Rattle.iom_tlb.specs.Ways.{Ways, no_ways, is_space, space_word, content_of_sets}

-- THE INVARIANT of a set: of its eight ways each is empty or has the word of an address space, and no two have one key
pub record AreWays (ways : Ways) : Type 0 where
  pub eight_spaces : length ways.spaces ≡ 8
  pub eight_pages : length ways.pages ≡ 8
  pub eight_translations : length ways.translations ≡ 8
  pub counter : ways.next < 8
  pub words : (way : ℕ) → get_or ways.spaces way 0 ≢ 0 → (space : Space) × (is_space space ≡ true) × (space_word space ≡ get_or ways.spaces way 0)
  pub once : (a b : ℕ) → get_or ways.spaces a 0 ≢ 0 → get_or ways.spaces a 0 ≡ get_or ways.spaces b 0 → get_or ways.pages a 0 ≡ get_or ways.pages b 0 → a ≡ b

-- each way that isn't empty has a page of the set of this number
abbrev pub AreAtHome : ℕ → Ways → Type 0
AreAtHome number ways = (way : ℕ) → get_or ways.spaces way 0 ≢ 0 → get_or ways.pages way 0 % 64 ≡ number

-- THE INVARIANT of the sets: 64, and each way's page is at home
abbrev pub AreSets : List Ways → Type 0
AreSets sets = (length sets ≡ 64) × ((number : ℕ) → AreAtHome number (get_or sets number no_ways))

-- a translation from a leaf above 4 KiB is of an address space where one may be
abbrev pub AreMarked : LargeLeaves → Translations → Type 0
AreMarked large content = (key : Key) (cached : Translation) → content key ≡ Some cached → may_be_large large key.0 ≡ false → cached.order ≡ 0

-- THE INVARIANT of the cache
abbrev pub IsWayCache : List Ways → LargeLeaves → Type 0
IsWayCache sets large = AreSets sets × AreMarked large (content_of_sets sets)

-- THE WAY that a new key takes: the lowest that is empty. Or none is, and it is the one at the counter, which goes on by one modulo 8
abbrev pub TakesWay : List ℕ → ℕ → ℕ → ℕ → Type 0
TakesWay spaces counter way next =
    ((way < 8) × (get_or spaces way 0 ≡ 0) × ((lower : ℕ) → lower < way → get_or spaces lower 0 ≢ 0) × (next ≡ counter))
    ⊎ (((other : ℕ) → other < 8 → get_or spaces other 0 ≢ 0) × (way ≡ counter) × (next ≡ (counter + 1) % 8))

-- a way has the word and the page
abbrev pub HasKey : Ways → ℕ → ℕ → ℕ → Type 0
HasKey ways word page way = (get_or ways.spaces way 0 ≡ word) × (get_or ways.pages way 0 ≡ page)

-- a way has the word, the page and the translation now
abbrev pub with_way : Ways → ℕ → ℕ → ℕ → Translation → ℕ → Ways
with_way ways way word page translation next =
    record { spaces = set ways.spaces way word; pages = set ways.pages way page; translations = set ways.translations way translation; next = next }

-- THE RELATION of a keep: the way that has the key takes the translation, and the counter stays. Or none has it, and it takes a way
abbrev pub PutsWay : Ways → ℕ → ℕ → Translation → Ways → Type 0
PutsWay old word page translation new =
    (way : ℕ) × (next : ℕ)
    × (((way < 8) × HasKey old word page way × (next ≡ old.next)) ⊎ (((other : ℕ) → HasKey old word page other → ⊥) × TakesWay old.spaces old.next way next))
    × (new ≡ with_way old way word page translation next)

-- the set of a page takes the translation so, and the other sets stay
abbrev pub PutsInSet : List Ways → Key → Translation → List Ways → Type 0
PutsInSet old key translation new =
    (ways : Ways) × PutsWay (get_or old (key.1 % 64) no_ways) (space_word key.0) key.1 translation ways × (new ≡ set old (key.1 % 64) ways)

-- the counters of all sets begin at 0
abbrev pub AreCountersAtZero : List Ways → Type 0
AreCountersAtZero sets = (number : ℕ) → (get_or sets number no_ways).next ≡ 0

-- ways of a set were emptied, and nothing else: each way has what it had, or is empty. So what stays is in the way in which it was. Page and translation
-- of an emptied way are left, where nothing reads them
pub record OnlyEmptied (old new : Ways) : Type 0 where
  pub empty_or_same : (way : ℕ) → (get_or new.spaces way 0 ≡ 0) ⊎ (get_or new.spaces way 0 ≡ get_or old.spaces way 0)
  pub pages : new.pages ≡ old.pages
  pub translations : new.translations ≡ old.translations
  pub counter : new.next ≡ old.next

-- and so of each set
abbrev pub AreOnlyEmptied : List Ways → List Ways → Type 0
AreOnlyEmptied old new = (number : ℕ) → OnlyEmptied (get_or old number no_ways) (get_or new number no_ways)

-- ways are empty now: each whose key and translation pass the test, and no other that had one
pub record Empties (is_out : Key → Translation → Bool) (pages : List ℕ) (translations : List Translation) (old new : List ℕ) : Type 0 where
  pub as_many : length new ≡ length old
  pub empty_or_same : (way : ℕ) → (get_or new way 0 ≡ 0) ⊎ (get_or new way 0 ≡ get_or old way 0)
  pub tested : (way : ℕ) (space : Space) (cached : Translation) → is_space space ≡ true → get_or old way 0 ≡ space_word space → slice_get translations way ≡ Some cached
      → get_or new way 0 ≡ (if is_out (space, get_or pages way 0) cached then 0 else space_word space)
