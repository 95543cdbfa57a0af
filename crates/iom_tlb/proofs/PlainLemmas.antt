-- The content of a plain cache after a call of the least-recently-used cache below it.
use Rattle.std.proofs.Common.{◌≡◌, ◌<◌, false, List, Option, Some, None, Result, Ok, Err, OnOk, OnErr, IsOk, IsSome, inl, inr, refl, sym, ap, ◌∙◌, length, option_map}
use Rattle.std.specs.List.{IsDistinct, find}
use Rattle.std.specs.Map.{keys_of, remove_entry}
use Rattle.lru.specs.LruCache.{LruCache, lru_cache, put_entries, promoted, IsValid}
use Rattle.iom_tlb.specs.declared.trans_cache.Translation.{Translation}
use Rattle.iom_tlb.specs.declared.cover.Cover.{Cover}
use Rattle.iom_tlb.specs.Content.{Key, TranslationsUnchanged, Keeps, Sets, DropsWhere}
use Rattle.iom_tlb.specs.Covers.{covers}
use Rattle.iom_tlb.specs.Entries.{is_key, content_of, after_look, after_keep, KeepsInOrder, after_drop}
use Rattle.iom_tlb.proofs.EntryLemmas as entries
use Rattle.iom_tlb.proofs.KeyLemmas.{key_laws, one_key}

-- an entry becomes the most recently used, and the content stays
pub looked : (at : Key) (es : List (Key × Translation)) → IsDistinct is_key (keys_of es) → TranslationsUnchanged (content_of es) (content_of (promoted (is_key at) es))
looked at es d = λ key. entries.lookup-promoted is_key key_laws one_key at key es d

sets : (c : LruCache Key Translation) (at : Key) (t : Translation) → IsValid is_key c → Sets (content_of c.entries) at t (content_of (put_entries is_key c at t))
sets c at t valid =
    let puts = entries.Puts-put_entries is_key key_laws one_key c at t valid.0 valid.1 valid.2 in
    record { kept = puts.put; others = puts.others }

refused_at : (o : Option Translation) → (IsSome o → ⊥) → o ≡ None
refused_at None refused = refl
refused_at (Some x) refused = absurd (refused refl)

-- a put keeps; or it is refused, of a new key, and changes nothing
pub kept : {E : Type 0} (r : Result (Option Translation) E) (c new : LruCache Key Translation) (at : Key) (t : Translation) → IsValid is_key c
    → OnOk r (new ≡ lru_cache (put_entries is_key c at t) c.cap) → OnErr r (new ≡ c) → (IsSome (content_of c.entries at) → IsOk r)
    → Keeps false (content_of c.entries) at t (content_of new.entries)
kept (Ok x) c new at t valid ok err sure = inl (rw ok (sets c at t valid))
kept (Err x) c new at t valid ok err sure = inr (refl, refused_at (content_of c.entries at) (λ there. let wrong = sure there in cc), λ key. rw err refl)

-- each pop of a covered entry leaves fewer entries
pub fewer : (cover : Cover) (es : List (Key × Translation)) (key : Key) → Some key ≡ option_map (λ e. e.0) (find (λ e. covers cover e.0 e.1) es)
    → length (remove_entry (is_key key) es) < length es
fewer cover es key found = entries.drop_fewer is_key key_laws one_key (λ e. covers cover e.0 e.1) es key found

-- what is found among those that aren't covered
pub dropped : (cover : Cover) (es new : List (Key × Translation)) → IsDistinct is_key (keys_of es) → new ≡ after_drop (covers cover) es → DropsWhere (covers cover) (content_of es) (content_of new)
unfolding after_drop
dropped cover es new d is key = ap (λ (l : List (Key × Translation)). content_of l key) is ∙ entries.lookup-filter is_key key_laws one_key (λ e. covers cover e.0 e.1) key es d

-- THE LIST OF ENTRIES

-- what is looked at goes first
pub looked_order : (at : Key) (es : List (Key × Translation)) → IsDistinct is_key (keys_of es) → promoted (is_key at) es ≡ after_look at es
unfolding after_look after_drop
looked_order at es d = rw (sym (entries.remove-filter is_key key_laws one_key at es d)) (entries.look_first is_key key_laws one_key at es)

put_order : (c : LruCache Key Translation) (at : Key) (t : Translation) → IsValid is_key c → c.cap ≡ 64 → put_entries is_key c at t ≡ after_keep at t c.entries
unfolding after_keep after_drop
put_order c at t valid room =
    rw (sym (entries.remove-filter is_key key_laws one_key at c.entries valid.0)) (entries.put_first is_key key_laws one_key at t c 63 valid.1 room)

-- what is kept goes first, and of the others 63 stay
pub kept_order : {E : Type 0} (r : Result (Option Translation) E) (c new : LruCache Key Translation) (at : Key) (t : Translation) → IsValid is_key c → c.cap ≡ 64
    → OnOk r (new ≡ lru_cache (put_entries is_key c at t) c.cap) → OnErr r (new ≡ c) → (IsSome (content_of c.entries at) → IsOk r)
    → KeepsInOrder c.entries at t new.entries
kept_order (Ok x) c new at t valid room ok err sure = inl (ap (λ (k : LruCache Key Translation). k.entries) ok ∙ put_order c at t valid room)
kept_order (Err x) c new at t valid room ok err sure =
    inr (refused_at (content_of c.entries at) (λ there. let wrong = sure there in cc), ap (λ (k : LruCache Key Translation). k.entries) err)

-- each pop of a covered entry leaves those that aren't
pub same_others : (cover : Cover) (es : List (Key × Translation)) (at : Key) → IsDistinct is_key (keys_of es) → Some at ≡ option_map (λ e. e.0) (find (λ e. covers cover e.0 e.1) es)
    → after_drop (covers cover) (remove_entry (is_key at) es) ≡ after_drop (covers cover) es
unfolding after_drop
same_others cover es at d found = entries.drop_others is_key key_laws one_key (λ e. covers cover e.0 e.1) es at d found

-- and with no covered entry left these are all
pub others_left : (cover : Cover) (old new : List (Key × Translation)) → None ≡ option_map (λ e. e.0) (find (λ e. covers cover e.0 e.1) new)
    → after_drop (covers cover) new ≡ after_drop (covers cover) old → new ≡ after_drop (covers cover) old
unfolding after_drop
others_left cover old new none same = entries.drop_left is_key key_laws one_key (λ e. covers cover e.0 e.1) old new none same
