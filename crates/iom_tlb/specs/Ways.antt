-- A cache of sets of ways: what it has for each page of each address space.
use Rattle.std.specs.Prelude.{ℕ, ◌+◌, ◌*◌, ◌^◌, ◌%◌, Bool, ◌==◌, ◌&&◌, nat_lt, List, [], ◌∷◌, Option, Some, None, if◌then◌else◌, get_or}
use Rattle.iom_tlb.specs.declared.space.Space.{Space}
use Rattle.iom_tlb.specs.declared.space.Space.TheVariants.{First, Second, Both}
use Rattle.iom_tlb.specs.declared.trans_cache.Translation.{Translation}
use Rattle.iom_tlb.specs.Content.{Translations}

-- whether the numbers of an address space fit the fields of a word: 16 bits of GSCID, 32 of PSCID (the standard's has 20). No other is cached
abbrev pub is_space : Space → Bool
is_space (First pscid) = nat_lt pscid (2 ^ 32)
is_space (Second gscid) = nat_lt gscid (2 ^ 16)
is_space (Both gscid pscid) = nat_lt gscid (2 ^ 16) && nat_lt pscid (2 ^ 32)

-- the word of an address space: its kind, GSCID and PSCID. Of none it is 0, that of an empty way
abbrev pub space_word : Space → ℕ
space_word (First pscid) = 2 ^ 48 + pscid
space_word (Second gscid) = 2 * 2 ^ 48 + gscid * 2 ^ 32
space_word (Both gscid pscid) = 3 * 2 ^ 48 + gscid * 2 ^ 32 + pscid

-- a set: the space words, the pages and the translations of its ways, and the way at its counter
pub record Ways : Type 0 where
  pub spaces : List ℕ
  pub pages : List ℕ
  pub translations : List Translation
  pub next : ℕ

-- the translation of the lowest way that has the word and the page
abbrev pub in_ways : List ℕ → List ℕ → List Translation → ℕ → ℕ → Option Translation
in_ways (space ∷ spaces) (page ∷ pages) (translation ∷ translations) word number =
    if space == word && page == number then Some translation else in_ways spaces pages translations word number
in_ways _ _ _ word number = None

-- what a set has for each page of each address space
abbrev pub in_set : Ways → Translations
in_set ways key = if is_space key.0 then in_ways ways.spaces ways.pages ways.translations (space_word key.0) key.1 else None

-- a set without ways
abbrev pub no_ways : Ways
no_ways = record { spaces = []; pages = []; translations = []; next = 0 }

-- what a cache has: a page is in the set of its number modulo 64
abbrev pub content_of_sets : List Ways → Translations
content_of_sets sets key = in_set (get_or sets (key.1 % 64) no_ways) key
