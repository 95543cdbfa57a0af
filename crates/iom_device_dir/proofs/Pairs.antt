-- Look-ups in the entries of a cache that gives up the least recently used, after each of its calls. Of any keys, told apart by `eq`, and values.
use Rattle.std.specs.Prelude.{IsSome, IsOk}
use Rattle.std.proofs.lemmas.Bool.{false≢true}
use Rattle.std.proofs.Common.{◌≡◌, ◌≢◌, ◌+◌, ◌-◌, ◌<◌, ◌≤◌, ◌++◌, ◌∙◌, ◌⊎◌, inl, inr, ℕ, Bool, true, false, not, cond, filter, drop, append-nil, length-drop, List, [], ◌∷◌, length, take, Option, Some, None, Ok, Err, Result, OnOk, OnErr, refl, sym, ap, subst, arith, option_map}
use Rattle.std.specs.List.{IsDistinct, AllByRecursion}
use Rattle.std.specs.Option.{option_map_or}
use Rattle.std.specs.Map.{keys_of, lookup, lookup_entry, remove_entry}
use Rattle.std.specs.Cmp.{IsEquivalence}
use Rattle.std.proofs.lemmas.Map.{lookup-remove_entry}
use Rattle.std.proofs.lemmas.List.{take-append-drop, take_all}
use Rattle.lru.specs.LruCache.{LruCache, lru_cache, put_entries, promoted}
use Rattle.lru.proofs.CallerLemmas.{Contains-lookup_entry}
use Rattle.lru.proofs.Pairs.{lookup-lookup_entry}
use Rattle.iom_device_dir.specs.Contents.{Content, IsSameContent, SetsOne, KeepsOne, DropsCovered}

-- keys that differ are told apart
module _ {K : Type 0} (eq : K → K → Bool) (same_key : (a b : K) → eq a b ≡ true → a ≡ b) where
  told_apart : (a b : K) → a ≢ b → (t : Bool) → eq a b ≡ t → t ≡ false
  told_apart a b ne true e = absurd (ne (same_key a b e))
  told_apart a b ne false e = refl

module _ {K V : Type 0} (eq : K → K → Bool) (laws : IsEquivalence eq) (same_key : (a b : K) → eq a b ≡ true → a ≡ b) where
  -- what the entries answer at each key
  abbrev pub answers : List (K × V) → Content K V
  answers es q = lookup (eq q) es

  pub removed : (k q : K) (es : List (K × V)) → IsDistinct eq (keys_of es) → answers (remove_entry (eq k) es) q ≡ cond (eq k q) None (answers es q)
  removed k q es d = lookup-remove_entry laws (eq k) (λ x y e. laws.congr k x y e) q es d

  -- an entry that is found is one that goes
  fewer : (k : K) (x e : K × V) (es : List (K × V)) (b : Bool) → (lookup_entry (eq k) es ≡ Some e → length (remove_entry (eq k) es) < length es)
      → cond b (Some x) (lookup_entry (eq k) es) ≡ Some e → length (cond b es (x ∷ remove_entry (eq k) es)) < length (x ∷ es)
  fewer k x e es true rest f = omega arith
  fewer k x e es false rest f = omega (arith, rest f)

  removed_fewer : (k : K) (es : List (K × V)) (e : K × V) → lookup_entry (eq k) es ≡ Some e → length (remove_entry (eq k) es) < length es
  removed_fewer k [] e f = absurd (cc)
  removed_fewer k (x ∷ es) e f = fewer k x e es (eq k x.0) (removed_fewer k es e) f

  -- and where none is found none goes
  stay : (k : K) (x : K × V) (es : List (K × V)) (b : Bool) → (lookup_entry (eq k) es ≡ None → remove_entry (eq k) es ≡ es)
      → cond b (Some x) (lookup_entry (eq k) es) ≡ None → cond b es (x ∷ remove_entry (eq k) es) ≡ x ∷ es
  stay k x es true rest f = absurd (cc)
  stay k x es false rest f = ap (λ (ys : List (K × V)). x ∷ ys) (rest f)

  removed_none : (k : K) (es : List (K × V)) → lookup_entry (eq k) es ≡ None → remove_entry (eq k) es ≡ es
  removed_none k [] f = refl
  removed_none k (x ∷ es) f = stay k x es (eq k x.0) (removed_none k es) f

  -- where no key stands twice, without the entry of a key there is none of that key
  none_of_key : (k x : K) (es : List (K × V)) → eq k x ≡ true → AllByRecursion (λ y. eq x y ≡ false) (keys_of es) → filter (λ e. not (eq k e.0)) es ≡ es
  none_of_key k x [] h all = refl
  none_of_key k x (e ∷ es) h all =
      let other : eq k e.0 ≡ false = laws.congr k x e.0 h ∙ all.0 in
      rw other (ap (λ (ys : List (K × V)). e ∷ ys) (none_of_key k x es h all.1))

  one_of_key : (k : K) (x : K × V) (es : List (K × V)) (b : Bool) → eq k x.0 ≡ b → AllByRecursion (λ y. eq x.0 y ≡ false) (keys_of es)
      → remove_entry (eq k) es ≡ filter (λ e. not (eq k e.0)) es
      → cond b es (x ∷ remove_entry (eq k) es) ≡ cond (not b) (x ∷ filter (λ e. not (eq k e.0)) es) (filter (λ e. not (eq k e.0)) es)
  one_of_key k x es true h all rest = sym (none_of_key k x.0 es h all)
  one_of_key k x es false h all rest = ap (λ (ys : List (K × V)). x ∷ ys) rest

  pub remove-filter : (k : K) (es : List (K × V)) → IsDistinct eq (keys_of es) → remove_entry (eq k) es ≡ filter (λ e. not (eq k e.0)) es
  unfolding IsDistinct
  remove-filter k [] d = refl
  remove-filter k (x ∷ es) d = one_of_key k x es (eq k x.0) refl d.0 (remove-filter k es d.1)

  -- what is put goes first, and of the others one fewer stay than there is room for
  put_first_at : (k : K) (v : V) (es : List (K × V)) (others : ℕ) → length es ≤ others + 1 → (o : Option (K × V)) → lookup_entry (eq k) es ≡ o
      → option_map_or (λ e. (e.0, v) ∷ remove_entry (eq k) es) o ((k, v) ∷ take others es) ≡ (k, v) ∷ take others (remove_entry (eq k) es)
  put_first_at k v es others le None f = ap (λ (rest : List (K × V)). (k, v) ∷ take others rest) (sym (removed_none k es f))
  put_first_at k v es others le (Some e) f =
      let same : e.0 ≡ k = sym (same_key k e.0 (Contains-lookup_entry (eq k) es e f).1) in
      let few : length (remove_entry (eq k) es) ≤ others = omega (arith, removed_fewer k es e f) in
      rw same (ap (λ (rest : List (K × V)). (k, v) ∷ rest) (sym (take_all others (remove_entry (eq k) es) few)))

  pub put_first : (k : K) (v : V) (c : LruCache K V) (others : ℕ) → length c.entries ≤ c.cap → c.cap ≡ others + 1
      → put_entries eq c k v ≡ (k, v) ∷ take others (remove_entry (eq k) c.entries)
  put_first k v c others le room =
      let one_fewer : c.cap - 1 ≡ others = omega (arith, room) in
      rw one_fewer (put_first_at k v c.entries others (omega (arith, le, room)) (lookup_entry (eq k) c.entries) refl)

  -- after a removal the key is dropped, and no other
  pub removed_drops : (k : K) (es : List (K × V)) → IsDistinct eq (keys_of es) → DropsCovered (answers es) (λ q. eq q k) (answers (remove_entry (eq k) es))
  removed_drops k es d = λ q. removed k q es d ∙ ap (λ t. cond t None (answers es q)) (laws.symm k q)

  -- what is found at an equal key
  found_at : (k q : K) (es : List (K × V)) (e : K × V) → lookup_entry (eq k) es ≡ Some e → eq q e.0 ≡ true → answers es q ≡ Some e.1
  found_at k q es e f t =
      let same : q ≡ k = same_key q e.0 t ∙ sym (same_key k e.0 (Contains-lookup_entry (eq k) es e f).1) in
      rw same (sym (lookup-lookup_entry (eq k) es) ∙ ap (option_map (λ e. e.1)) f)

  apart : (k q : K) (e : K × V) (b : Bool) → eq k q ≡ b → eq k e.0 ≡ true → eq q e.0 ≡ false → b ≡ false
  apart k q e false h t f = refl
  apart k q e true h t f = let x = laws.congr k q e.0 h in absurd (cc)

  moved : (k q : K) (es : List (K × V)) → IsDistinct eq (keys_of es) → (e : K × V) → lookup_entry (eq k) es ≡ Some e → (b : Bool) → eq q e.0 ≡ b
      → cond b (Some e.1) (answers (remove_entry (eq k) es) q) ≡ answers es q
  moved k q es d e f true h = sym (found_at k q es e f h)
  moved k q es d e f false h =
      let off = apart k q e (eq k q) refl (Contains-lookup_entry (eq k) es e f).1 h in
      rw (removed k q es d, off) refl

  promoted_at : (k q : K) (es : List (K × V)) → IsDistinct eq (keys_of es) → (o : Option (K × V)) → lookup_entry (eq k) es ≡ o
      → answers (option_map_or (λ e. e ∷ remove_entry (eq k) es) o es) q ≡ answers es q
  promoted_at k q es d None f = refl
  promoted_at k q es d (Some e) f = moved k q es d e f (eq q e.0) refl

  -- a look brings the entry to the front, and changes no answer
  pub promoted_same : (k : K) (es : List (K × V)) → IsDistinct eq (keys_of es) → IsSameContent (answers es) (answers (promoted (eq k) es))
  promoted_same k es d = λ q. promoted_at k q es d (lookup_entry (eq k) es) refl

  -- an entry at another key changes no answer
  other_end : (q : K) (xs : List (K × V)) (l : K × V) → eq q l.0 ≡ false → answers (xs ++ l ∷ []) q ≡ answers xs q
  other_end q [] l f = rw f refl
  other_end q (x ∷ xs) l f = ap (λ r. cond (eq q x.0) (Some x.1) r) (other_end q xs l f)

  last_of : (P : K → Type 0) (xs : List (K × V)) (l : K × V) → AllByRecursion P (keys_of (xs ++ l ∷ [])) → P l.0
  last_of P [] l a = a.0
  last_of P (x ∷ xs) l a = last_of P xs l a.1

  -- no entry before the last has its key
  gone : (xs : List (K × V)) (l : K × V) → IsDistinct eq (keys_of (xs ++ l ∷ [])) → answers xs l.0 ≡ None
  unfolding IsDistinct
  gone [] l d = refl
  gone (x ∷ xs) l d = let t : eq l.0 x.0 ≡ false = laws.symm l.0 x.0 ∙ last_of (λ y. eq x.0 y ≡ false) xs l d.0 in rw t (gone xs l d.1)

  -- a key that was there takes the value
  there : (k q : K) (v : V) (es : List (K × V)) → IsDistinct eq (keys_of es) → (e : K × V) → lookup_entry (eq k) es ≡ Some e → eq q k ≡ false
      → answers ((e.0, v) ∷ remove_entry (eq k) es) q ≡ answers es q
  there k q v es d e f t =
      let at : eq k e.0 ≡ true = (Contains-lookup_entry (eq k) es e f).1 in
      let same : k ≡ e.0 = same_key k e.0 at in
      let off : eq q e.0 ≡ false = rw same at t in
      let back : eq k q ≡ false = laws.symm k q ∙ t in
      rw (off, removed k q es d, back) refl

  put_there : (k : K) (v : V) (es : List (K × V)) → IsDistinct eq (keys_of es) → (e : K × V) → lookup_entry (eq k) es ≡ Some e
      → SetsOne (answers es) k v (answers ((e.0, v) ∷ remove_entry (eq k) es))
  put_there k v es d e f =
      let at : eq k e.0 ≡ true = (Contains-lookup_entry (eq k) es e f).1 in
      (rw at refl, k, λ q ne. inl (there k q v es d e f (told_apart eq same_key q k ne (eq q k) refl)))

  -- a key that isn't the lost one's answers as before; the lost one's answers nothing
  cut : (xs : List (K × V)) (l : K × V) (q : K) → IsDistinct eq (keys_of (xs ++ l ∷ [])) → (t : Bool) → eq q l.0 ≡ t
      → (answers xs q ≡ answers (xs ++ l ∷ []) q) ⊎ ((q ≡ l.0) × (answers xs q ≡ None))
  cut xs l q d true h = let same : q ≡ l.0 = same_key q l.0 h in inr (same, rw same (gone xs l d))
  cut xs l q d false h = inl (sym (other_end q xs l h))

  -- a new key goes first, and the last entry of a full cache goes out
  put_new : (k : K) (v : V) (es : List (K × V)) (cap : ℕ) → IsDistinct eq (keys_of es) → length es ≤ cap → 0 < cap
      → (past : List (K × V)) → drop (cap - 1) es ≡ past → SetsOne (answers es) k v (answers ((k, v) ∷ take (cap - 1) es))
  put_new k v es cap d le pos [] h =
      let whole : take (cap - 1) es ≡ es = sym (append-nil _) ∙ ap (λ r. take (cap - 1) es ++ r) (sym h) ∙ take-append-drop (cap - 1) es in
      (rw (laws.refl k) refl, k, λ q ne. inl (rw (told_apart eq same_key q k ne (eq q k) refl, whole) refl))
  put_new k v es cap d le pos (l ∷ []) h =
      let whole : take (cap - 1) es ++ l ∷ [] ≡ es = ap (λ r. take (cap - 1) es ++ r) (sym h) ∙ take-append-drop (cap - 1) es in
      let apart_all : IsDistinct eq (keys_of (take (cap - 1) es ++ l ∷ [])) = rw whole d in (
        rw (laws.refl k) refl,
        l.0,
        λ q ne. rw (told_apart eq same_key q k ne (eq q k) refl)
            (subst (λ all. (answers (take (cap - 1) es) q ≡ answers all q) ⊎ ((q ≡ l.0) × (answers (take (cap - 1) es) q ≡ None))) whole
            (cut (take (cap - 1) es) l q apart_all (eq q l.0) refl)),
      )
  put_new k v es cap d le pos (l ∷ m ∷ rest) h = absurd (omega (arith, ap length h, length-drop (cap - 1) es))

  put_at : (k : K) (v : V) (es : List (K × V)) (cap : ℕ) → IsDistinct eq (keys_of es) → length es ≤ cap → 0 < cap
      → (o : Option (K × V)) → lookup_entry (eq k) es ≡ o
      → SetsOne (answers es) k v (answers (option_map_or (λ e. (e.0, v) ∷ remove_entry (eq k) es) o ((k, v) ∷ take (cap - 1) es)))
  put_at k v es cap d le pos None f = put_new k v es cap d le pos (drop (cap - 1) es) refl
  put_at k v es cap d le pos (Some e) f = put_there k v es d e f

  pub nothing : (o : Option V) → (IsSome o → ⊥) → o ≡ None
  nothing None none = refl
  nothing (Some v) none = absurd (none refl)

  -- a put keeps, or changes nothing
  pub put_keeps : {E : Type 0} (r : Result (Option V) E) (old new : LruCache K V) (k : K) (v : V)
      → IsDistinct eq (keys_of old.entries) → length old.entries ≤ old.cap → 0 < old.cap
      → OnOk r (new ≡ lru_cache (put_entries eq old k v) old.cap) → OnErr r (new ≡ old) → (IsSome (lookup (eq k) old.entries) → IsOk r)
      → KeepsOne (answers old.entries) k v (answers new.entries)
  put_keeps (Ok x) old new k v d le pos ok err sure = inl (rw ok (put_at k v old.entries old.cap d le pos (lookup_entry (eq k) old.entries) refl))
  put_keeps (Err x) old new k v d le pos ok err sure = inr (nothing (lookup (eq k) old.entries) (λ some. false≢true (sure some)), λ q. rw err refl)
