-- The places of a cache: eight in each of its 64 sets, one for each way.
use Rattle.std.specs.Prelude.{◌≡◌, ◌<◌, ℕ, ◌/◌, ◌%◌, true, List, Some, get_or, slice_get}
use Rattle.iom_tlb.specs.declared.cached_page.CachedPage.{CachedPage}
use Rattle.iom_tlb.specs.Ways.{Ways, is_space, space_word, in_set, no_ways, content_of_sets}

-- a way has this translation, of this page of this address space
pub record IsInWay (ways : Ways) (way : ℕ) (cached : CachedPage) : Type 0 where
  pub space : is_space cached.space ≡ true
  pub word : slice_get ways.spaces way ≡ Some (space_word cached.space)
  pub page : slice_get ways.pages way ≡ Some cached.page
  pub translation : slice_get ways.translations way ≡ Some cached.translation

-- what a set has stands in one of its ways
abbrev pub HasWays : Ways → Type 0
HasWays ways = (cached : CachedPage) → in_set ways (cached.space, cached.page) ≡ Some cached.translation → (way : ℕ) × (way < 8) × IsInWay ways way cached

-- a place has it: the way of its number modulo 8, in the set of its number divided by 8
abbrev pub IsCachedAt : List Ways → ℕ → CachedPage → Type 0
IsCachedAt sets place cached = IsInWay (get_or sets (place / 8) no_ways) (place % 8) cached

-- the cache answers it
abbrev pub IsCached : List Ways → CachedPage → Type 0
IsCached sets cached = content_of_sets sets (cached.space, cached.page) ≡ Some cached.translation

-- what the cache answers has a place
abbrev pub HavePlaces : List Ways → Type 0
HavePlaces sets = (cached : CachedPage) → IsCached sets cached → (place : ℕ) × (place < 512) × IsCachedAt sets place cached
