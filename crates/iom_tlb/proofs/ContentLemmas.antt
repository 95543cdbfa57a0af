-- A translation that is found after a call, by what there was before. So a fact about every cached translation stays true over each call that keeps
-- none to which it doesn't apply.
use Rattle.std.proofs.Common.{◌≡◌, ◌≢◌, ◌⊎◌, ◌∙◌, inl, inr, Bool, true, false, cond, Option, Some, None, refl, sym, ap}
use Rattle.iom_tlb.specs.declared.trans_cache.Translation.{Translation}
use Rattle.iom_tlb.specs.Content.{Key, Translations, TranslationsUnchanged, Sets, Keeps, left_by, DropsWhere}
use Rattle.iom_tlb.proofs.KeyLemmas.{one_or_other}

-- what is left was there, and didn't pass the test
pub left_of : (is_out : Translation → Bool) (was : Option Translation) (t : Translation) → left_by is_out was ≡ Some t → (is_out t ≡ false) × (was ≡ Some t)
left_of is_out None t is = absurd (cc)
left_of is_out (Some u) t is = by (is_out u) refl is
  where
    by : (b : Bool) → is_out u ≡ b → cond b None (Some u) ≡ Some t → (is_out t ≡ false) × (Some u ≡ Some t)
    by true e f = absurd (cc)
    by false e f = let same : u ≡ t = cc in (ap is_out (sym same) ∙ e, f)

module _ (old new : Translations) (key : Key) (t : Translation) (found : new key ≡ Some t) where
  pub found_before_look : TranslationsUnchanged old new → old key ≡ Some t
  found_before_look same = sym (same key) ∙ found

  set_at : (at : Key) (kept : Translation) → Sets old at kept new → (key ≡ at) ⊎ (key ≢ at)
      → ((key ≡ at) × (t ≡ kept)) ⊎ ((key ≢ at) × (old key ≡ Some t))
  set_at at kept sets (inl same) = inl (same, let e : new key ≡ Some kept = ap new same ∙ sets.kept in cc)
  set_at at kept sets (inr apart) = elim (sets.others.1 key apart) [
    | inl same ↦ inr (apart, sym same ∙ found)
    | inr gone ↦ absurd (let e : new key ≡ None = gone.1 in cc)
  ]

  refused_at : (at : Key) → old at ≡ None → (key ≡ at) ⊎ (key ≢ at) → old key ≡ Some t → key ≢ at
  refused_at at none (inl same) was = absurd (let e : old key ≡ None = ap old same ∙ none in cc)
  refused_at at none (inr apart) was = apart

  -- it was kept now, or was there, elsewhere
  pub found_by_keep : (sure : Bool) (at : Key) (kept : Translation) → Keeps sure old at kept new → ((key ≡ at) × (t ≡ kept)) ⊎ ((key ≢ at) × (old key ≡ Some t))
  found_by_keep sure at kept (inl sets) = set_at at kept sets (one_or_other key at)
  found_by_keep sure at kept (inr refused) =
      let was = found_before_look refused.2 in
      inr (refused_at at refused.1 (one_or_other key at) was, was)

  -- it wasn't covered, and was there
  pub found_before_drop : (is_out : Key → Translation → Bool) → DropsWhere is_out old new → (is_out key t ≡ false) × (old key ≡ Some t)
  found_before_drop is_out dropped = left_of (is_out key) (old key) t (sym (dropped key) ∙ found)
