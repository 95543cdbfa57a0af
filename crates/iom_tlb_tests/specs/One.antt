-- The content of a cache of one translation.
use Rattle.std.specs.Prelude.{Option, Some, None, if◌then◌else◌}
use Rattle.iom_tlb.specs.declared.trans_cache.Translation.{Translation}
use Rattle.iom_tlb.specs.Content.{Key, Translations}
use Rattle.iom_tlb.specs.Entries.{is_key}
use Rattle.iom_tlb_tests.specs.declared.one_translation.Kept.{Kept}
use Rattle.iom_tlb_tests.specs.declared.one_translation.OneTranslation.{OneTranslation}

abbrev pub kept_at : Option Kept → Key → Option Translation
kept_at None key = None
kept_at (Some kept) key = if is_key key (kept.space, kept.page) then Some kept.translation else None

abbrev pub content_of_one : OneTranslation → Translations
content_of_one cache key = kept_at cache.only key
