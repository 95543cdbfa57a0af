-- That what is cached lies in memory.
use Rattle.std.specs.Prelude.{◌≡◌, ℕ, ◌<◌, Some}
use Rattle.std.proofs.Props.{props}
use Rattle.iom_tlb.specs.declared.trans_cache.Translation.{Translation}
use Rattle.iom_tlb.specs.Content.{Key, Translations}

-- the frames of all these translations are among so many
abbrev pub AreTranslationsIn : ℕ → Translations → Type 0
AreTranslationsIn frames content = (key : Key) (translation : Translation) → content key ≡ Some translation → translation.frame < frames

-- this is a fact: it has one proof at most
pub translations_in_prop : (frames : ℕ) (content : Translations) → IsProp (AreTranslationsIn frames content)
translations_in_prop frames content = hlevel props
