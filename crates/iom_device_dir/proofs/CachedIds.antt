-- The context cache by device ids: look-ups after each call of what it stands on.
use Rattle.std.specs.Prelude.{IsSome, IsOk}
use Rattle.std.proofs.Common.{◌≡◌, ◌-◌, ◌∙◌, ℕ, nat_eq, ◌==◌, Bool, true, false, not, cond, filter, List, [], ◌∷◌, take, slice_get, inl, inr, Option, None, Some, option_map, Result, Ok, Err, OnOk, OnErr, refl, sym, ap, subst, if◌then◌else◌}
use Rattle.std.proofs.lemmas.Bool.{eqb-true, eq-eqb, false≢true}
use Rattle.std.specs.Cmp.{nat_eq_equiv}
use Rattle.std.specs.List.{IsDistinct}
use Rattle.std.specs.Map.{keys_of, lookup, lookup_entry, remove_entry}
use Rattle.std.specs.Option.{option_map_or}
use Rattle.lru.specs.LruCache.{LruCache, IsValid, lru_cache, put_entries, promoted}
use Rattle.lru.proofs.CallerLemmas.{Contains-lookup_entry}
use Rattle.lru.proofs.Pairs.{lookup-lookup_entry}
use Rattle.iom_device_dir.specs.declared.context.Context.{Context}
use Rattle.iom_device_dir.specs.Contents.{KeepsOne}
use Rattle.iom_device_dir.specs.Orders.{without, after_look, after_keep, KeepsInOrder}
use Rattle.iom_device_dir.proofs.Pairs.{promoted_same, put_keeps, put_first, remove-filter, removed_drops, nothing}

-- the key of the first entry
abbrev pub first_key : List (ℕ × Context) → Option ℕ
first_key entries = option_map (λ (e : ℕ × Context). e.0) (slice_get entries 0)

-- the first entry is found under its key
pub first_found : (entries : List (ℕ × Context)) (id key : ℕ) (context : Context) → Some (key, context) ≡ slice_get entries 0 → key ≡ id → lookup (nat_eq id) entries ≡ Some context
first_found [] id key context at same = cc
first_found (e ∷ es) id key context at same =
    let is : ◌≡◌ {A = ℕ × Context} (key, context) e = cc in
    let own : nat_eq id e.0 ≡ true = ap (nat_eq id) (sym (ap (λ (p : ℕ × Context). p.0) is) ∙ same) ∙ eq-eqb id id refl in
    ap (λ b. if b then Some e.1 else lookup (nat_eq id) es) own ∙ ap (λ (p : ℕ × Context). Some p.1) (sym is)

-- a look at the entry that stands first leaves the order
pub first_stays : (id : ℕ) (entries : List (ℕ × Context)) → IsDistinct nat_eq (keys_of entries) → first_key entries ≡ Some id → entries ≡ after_look id entries
unfolding after_look without
first_stays id [] distinct first = cc
first_stays id ((key, context) ∷ es) distinct first =
    let same : key ≡ id = some_of key id first in
    let own : nat_eq id key ≡ true = eq-eqb id key (sym same) in
    let others : es ≡ filter (λ (e : ℕ × Context). not (nat_eq id e.0)) ((key, context) ∷ es) =
    subst (λ b. cond b es ((key, context) ∷ remove_entry (nat_eq id) es) ≡ filter (λ (e : ℕ × Context). not (nat_eq id e.0)) ((key, context) ∷ es)) own
    (remove-filter nat_eq nat_eq_equiv eqb-true id ((key, context) ∷ es) distinct) in
    rw (sym others) (rw own (ap (λ (k : ℕ). (k, context) ∷ es) same))
  where
    some_of : (a b : ℕ) → Some a ≡ Some b → a ≡ b
    some_of a b same = cc

module _ (id : ℕ) (cache : LruCache ℕ Context) (valid : IsValid nat_eq cache) where
  pub looked : (key : ℕ) → lookup (nat_eq key) (promoted (nat_eq id) cache.entries) ≡ lookup (nat_eq key) cache.entries
  looked key = promoted_same nat_eq nat_eq_equiv eqb-true id cache.entries valid.0 key

  pub dropped : (key : ℕ) → lookup (nat_eq key) (remove_entry (nat_eq id) cache.entries) ≡ (if key == id then None else lookup (nat_eq key) cache.entries)
  dropped key = removed_drops nat_eq nat_eq_equiv eqb-true id cache.entries valid.0 key

  pub kept : {E : Type 0} (result : Result (Option Context) E) (context : Context) (new : LruCache ℕ Context)
      → OnOk result (new ≡ lru_cache (put_entries nat_eq cache id context) cache.cap) → OnErr result (new ≡ cache) → (IsSome (lookup (nat_eq id) cache.entries) → IsOk result)
      → KeepsOne (λ key. lookup (nat_eq key) cache.entries) id context (λ key. lookup (nat_eq key) new.entries)
  kept result context new ok err sure = put_keeps nat_eq nat_eq_equiv eqb-true result cache new id context valid.0 valid.1 valid.2 ok err sure

  own_key : (e : ℕ × Context) → lookup_entry (nat_eq id) cache.entries ≡ Some e → e.0 ≡ id
  own_key e at = sym (eqb-true id e.0 (Contains-lookup_entry (nat_eq id) cache.entries e at).1)

  -- what a look finds goes first, under its id
  pub looked_order : promoted (nat_eq id) cache.entries ≡ after_look id cache.entries
  unfolding after_look without
  looked_order = rw (sym (remove-filter nat_eq nat_eq_equiv eqb-true id cache.entries valid.0)) (rw (sym (lookup-lookup_entry (nat_eq id) cache.entries)) (by (lookup_entry (nat_eq id) cache.entries) refl))
    where
      by : (o : Option (ℕ × Context)) → lookup_entry (nat_eq id) cache.entries ≡ o
          → option_map_or (λ e. e ∷ remove_entry (nat_eq id) cache.entries) o cache.entries
          ≡ option_map_or (λ context. (id, context) ∷ remove_entry (nat_eq id) cache.entries) (option_map (λ (e : ℕ × Context). e.1) o) cache.entries
      by None at = refl
      by (Some e) at = ap (λ (key : ℕ). (key, e.1) ∷ remove_entry (nat_eq id) cache.entries) (own_key e at)

  -- what is put goes first, and of the others fifteen stay
  put_order : cache.cap ≡ 16 → (context : Context) → put_entries nat_eq cache id context ≡ after_keep id context cache.entries
  unfolding after_keep without
  put_order room context =
      rw (sym (remove-filter nat_eq nat_eq_equiv eqb-true id cache.entries valid.0)) (put_first nat_eq nat_eq_equiv eqb-true id context cache 15 valid.1 room)

  -- what is popped is all that there is at the id
  pub removed_order : remove_entry (nat_eq id) cache.entries ≡ without id cache.entries
  unfolding without
  removed_order = remove-filter nat_eq nat_eq_equiv eqb-true id cache.entries valid.0

  pub kept_order : {E : Type 0} (result : Result (Option Context) E) (context : Context) (new : LruCache ℕ Context) → cache.cap ≡ 16
      → OnOk result (new ≡ lru_cache (put_entries nat_eq cache id context) cache.cap) → OnErr result (new ≡ cache) → (IsSome (lookup (nat_eq id) cache.entries) → IsOk result)
      → KeepsInOrder cache.entries id context new.entries
  kept_order (Ok old) context new room ok err sure = inl (ap (λ (c : LruCache ℕ Context). c.entries) ok ∙ put_order room context)
  kept_order (Err e) context new room ok err sure = inr (nothing nat_eq nat_eq_equiv eqb-true (lookup (nat_eq id) cache.entries) (λ there. false≢true (sure there)), ap (λ (c : LruCache ℕ Context). c.entries) err)
