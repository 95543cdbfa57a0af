-- A plain cache as the list of its entries, the most recently used first.
use Rattle.std.specs.Prelude.{◌≡◌, ◌⊎◌, Bool, not, List, ◌∷◌, ◌==◌, ◌&&◌, take, filter, None}
use Rattle.std.specs.Map.{lookup}
use Rattle.std.specs.Option.{option_map_or}
use Rattle.iom_tlb.specs.contracts.space.SpacePartialEq.TheImpl as space
use Rattle.iom_tlb.specs.declared.trans_cache.Translation.{Translation}
use Rattle.iom_tlb.specs.Content.{Key, Translations}

-- whether two keys are equal: by the `==` of address spaces, and the page
abbrev pub is_key : Key → Key → Bool
is_key a b = space.ghosts.eq a.0 b.0 && (a.1 == b.1)

-- whether an entry has this key, whatever its translation
abbrev pub has_key : Key → Key → Translation → Bool
has_key key other translation = is_key key other

-- its content: at each key the translation of the entry that has it
abbrev pub content_of : List (Key × Translation) → Translations
content_of entries key = lookup (is_key key) entries

-- WHAT EACH CALL MAKES OF THE LIST

-- a drop: what is covered goes, and the others stay in their order
unfoldable pub after_drop : (Key → Translation → Bool) → List (Key × Translation) → List (Key × Translation)
after_drop is_out entries = filter (λ entry. not (is_out entry.0 entry.1)) entries

-- a look: the entry of the key goes first. Where it has none, all stays
unfoldable pub after_look : Key → List (Key × Translation) → List (Key × Translation)
after_look key entries = option_map_or (λ translation. (key, translation) ∷ after_drop (has_key key) entries) (content_of entries key) entries

-- a keep: the key goes first, with the translation. Of the others 63 stay: all, or where 64 are there, all but the one that was used the longest ago
unfoldable pub after_keep : Key → Translation → List (Key × Translation) → List (Key × Translation)
after_keep key translation entries = (key, translation) ∷ take 63 (after_drop (has_key key) entries)

-- it keeps; or, where the key has nothing yet and there is no memory for it, all stays
abbrev pub KeepsInOrder : List (Key × Translation) → Key → Translation → List (Key × Translation) → Type 0
KeepsInOrder old key translation new = (new ≡ after_keep key translation old) ⊎ ((content_of old key ≡ None) × (new ≡ old))
