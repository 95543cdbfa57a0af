-- What a cache answers was kept, call by call; and what the widest commands cover.
use Rattle.std.proofs.Common.{◌≡◌, ◌∙◌, inl, inr, Bool, true, ◌||◌, List, [], ◌∷◌, Some, None, refl, sym}
use Rattle.iom_command_queue.specs.declared.command.Command.TheVariants.{IotinvalVma, IotinvalGvma}
use Rattle.iom_tlb.specs.declared.space.Space.TheVariants.{First, Second, Both}
use Rattle.iom_tlb.specs.declared.cover.Cover.{Cover}
use Rattle.iom_tlb.specs.declared.trans_cache.Translation.{Translation}
use Rattle.iom_tlb.specs.Content.{Key, Translations, HasNothing, Keeps, DropsWhere}
use Rattle.iom_tlb.specs.Covers.{covers, are_covering}
use Rattle.iom_tlb.specs.Invalidations.{covers_of}
use Rattle.iom_tlb.specs.Laws.{TranslationCacheCall, look, keep, drop_where, drop_all, RunsCache, WasKept}
use Rattle.iom_tlb.proofs.ContentLemmas.{found_by_keep, found_before_drop}

module _ (key : Key) (t : Translation) (earlier : List TranslationCacheCall) (old new : Translations) (found : new key ≡ Some t) (before : old key ≡ Some t → WasKept key t earlier) where
  -- where the last call is a keep
  kept : (sure : Bool) (at : Key) (other : Translation) → Keeps sure old at other new → WasKept key t (keep at other ∷ earlier)
  kept sure at other keeps = elim (found_by_keep old new key t found sure at other keeps) [
    | inl now ↦ inl (sym now.0, sym now.1)
    | inr was ↦ inr ((λ same. was.0 (sym same)), before was.1)
  ]

  -- where it is a drop
  dropped : (cover : Cover) → DropsWhere (covers cover) old new → WasKept key t (drop_where cover ∷ earlier)
  dropped cover drops = let was = found_before_drop old new key t found (covers cover) drops in (was.0, before was.1)

pub answers_kept : (sure : Bool) (old : Translations) (calls : List TranslationCacheCall) (new : Translations) → HasNothing old → RunsCache sure old calls new
    → (key : Key) (t : Translation) → new key ≡ Some t → WasKept key t calls
answers_kept sure old [] new empty run key t found = absurd (let e : new key ≡ None = run key ∙ empty key in cc)
answers_kept sure old (look at answer ∷ earlier) new empty run key t found =
    answers_kept sure old earlier run.0 empty run.1 key t (sym (run.2.1 key) ∙ found)
answers_kept sure old (keep at other ∷ earlier) new empty run key t found =
    kept key t earlier run.0 new found (answers_kept sure old earlier run.0 empty run.1 key t) sure at other run.2
answers_kept sure old (drop_where cover ∷ earlier) new empty run key t found =
    dropped key t earlier run.0 new found (answers_kept sure old earlier run.0 empty run.1 key t) cover run.2
answers_kept sure old (drop_all ∷ earlier) new empty run key t found = absurd (let e : new key ≡ None = run.2 key in cc)

pub all_covered : (key : Key) (t : Translation) → are_covering (covers_of (IotinvalVma None None None)) key t || are_covering (covers_of (IotinvalGvma None None)) key t ≡ true
all_covered (First p, page) t = refl
all_covered (Second g, page) t = refl
all_covered (Both g p, page) t = refl
