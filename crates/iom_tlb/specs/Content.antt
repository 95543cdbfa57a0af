-- A sound cache, by its content: what each call does to it (IOMMU specification, section 2.8: what may be cached, and until when).
use Rattle.std.specs.Prelude.{◌≡◌, ◌≢◌, ◌⊎◌, ℕ, Bool, false, Option, Some, None, if◌then◌else◌}
use Rattle.iom_tlb.specs.declared.space.Space.{Space}
use Rattle.iom_tlb.specs.declared.trans_cache.Translation.{Translation}

-- what a translation is found by: a page of an address space
abbrev pub Key : Type 0
Key = Space × ℕ

-- what a cache has for each page of each address space
abbrev pub Translations : Type 0
Translations = Key → Option Translation

-- it has nothing
abbrev pub HasNothing : Translations → Type 0
HasNothing content = (key : Key) → content key ≡ None

-- it has what it had
abbrev pub TranslationsUnchanged : Translations → Translations → Type 0
TranslationsUnchanged old new = (key : Key) → new key ≡ old key

-- it has this translation there. Elsewhere it has what it had, but for at most one place, where it has nothing
pub record Sets (old : Translations) (at : Key) (translation : Translation) (new : Translations) : Type 0 where
  pub kept : new at ≡ Some translation
  pub others : (out : Key) × ((key : Key) → key ≢ at → (new key ≡ old key) ⊎ ((key ≡ out) × (new key ≡ None)))

-- THE RELATION of a keep: it sets the translation. Or it is refused, and all stays: never in a cache that is sure, nor where there is one
-- already, whose place is taken
abbrev pub Keeps : Bool → Translations → Key → Translation → Translations → Type 0
Keeps sure old at translation new = Sets old at translation new ⊎ ((sure ≡ false) × (old at ≡ None) × TranslationsUnchanged old new)

-- what is left of what was there
abbrev pub left_by : {A : Type 0} → (A → Bool) → Option A → Option A
left_by is_out None = None
left_by is_out (Some value) = if is_out value then None else Some value

-- THE RELATION of a drop: what is taken out is exactly that of which the test is true
abbrev pub DropsWhere : (Key → Translation → Bool) → Translations → Translations → Type 0
DropsWhere is_out old new = (key : Key) → new key ≡ left_by (is_out key) (old key)
