-- A cache answers only what was kept and not taken out since.
use Rattle.std.specs.Prelude.{◌≡◌, ◌≢◌, ◌⊎◌, Bool, true, false, ◌||◌, List, [], ◌∷◌, Option, Some, None}
use Rattle.iom_command_queue.specs.declared.command.Command.TheVariants.{IotinvalVma, IotinvalGvma}
use Rattle.iom_tlb.specs.declared.cover.Cover.{Cover}
use Rattle.iom_tlb.specs.declared.trans_cache.Translation.{Translation}
use Rattle.iom_tlb.specs.Content.{Key, Translations, HasNothing, TranslationsUnchanged, Keeps, DropsWhere}
use Rattle.iom_tlb.specs.Covers.{covers, are_covering}
use Rattle.iom_tlb.specs.Invalidations.{covers_of}

-- a call of a cache: a look with its answer, a keep, a drop
pub data TranslationCacheCall : Type 0 where
  look : Key → Option Translation → TranslationCacheCall
  keep : Key → Translation → TranslationCacheCall
  drop_where : Cover → TranslationCacheCall
  drop_all : TranslationCacheCall

-- what the call does to the content, in a cache that is sure, or isn't
abbrev pub CallsCache : Bool → Translations → TranslationCacheCall → Translations → Type 0
CallsCache sure old (look key found) new = (found ≡ old key) × TranslationsUnchanged old new
CallsCache sure old (keep key translation) new = Keeps sure old key translation new
CallsCache sure old (drop_where cover) new = DropsWhere (covers cover) old new
CallsCache sure old drop_all new = HasNothing new

-- calls one after the other, the newest first
abbrev pub RunsCache : Bool → Translations → List TranslationCacheCall → Translations → Type 0
RunsCache sure old [] new = TranslationsUnchanged old new
RunsCache sure old (call ∷ earlier) new = (between : Translations) × RunsCache sure old earlier between × CallsCache sure between call new

-- the translation was kept there by one of the calls; no later one kept another there, and none took it out
abbrev pub WasKept : Key → Translation → List TranslationCacheCall → Type 0
WasKept key translation [] = ⊥
WasKept key translation (look asked found ∷ earlier) = WasKept key translation earlier
WasKept key translation (keep at other ∷ earlier) = ((at ≡ key) × (other ≡ translation)) ⊎ ((at ≢ key) × WasKept key translation earlier)
WasKept key translation (drop_where cover ∷ earlier) = (covers cover key translation ≡ false) × WasKept key translation earlier
WasKept key translation (drop_all ∷ earlier) = ⊥

-- THE LAW
abbrev pub AnswersOnlyWhatWasKept : Type 0
AnswersOnlyWhatWasKept =
    (sure : Bool) (old : Translations) (calls : List TranslationCacheCall) (new : Translations) → HasNothing old → RunsCache sure old calls new
    → (key : Key) (translation : Translation) → new key ≡ Some translation → WasKept key translation calls

-- IOTINVAL.VMA and IOTINVAL.GVMA, both without any field, cover every translation of every page of every address space
abbrev pub TakeOutEverything : Type 0
TakeOutEverything =
    (key : Key) (translation : Translation)
    → are_covering (covers_of (IotinvalVma None None None)) key translation || are_covering (covers_of (IotinvalGvma None None)) key translation ≡ true
