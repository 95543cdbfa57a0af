-- What is found at each key in the entries of a least-recently-used cache, after each of its calls; for any keys whose test tells whether they
-- are one.
use Rattle.std.proofs.Common.{◌≡◌, ◌≢◌, ℕ, ◌+◌, ◌-◌, ◌<◌, ◌≤◌, ◌++◌, ◌∙◌, ◌⊎◌, inl, inr, Bool, true, false, not, cond, filter, drop, append-nil, length-drop, List, [], ◌∷◌, length, take, Option, Some, None, refl, sym, ap, subst, arith, option_map}
use Rattle.std.specs.List.{IsDistinct, AllByRecursion, find}
use Rattle.std.specs.Option.{option_map_or}
use Rattle.std.specs.Map.{keys_of, lookup, lookup_entry, remove_entry}
use Rattle.std.specs.Cmp.{IsEquivalence}
use Rattle.std.proofs.lemmas.Map.{lookup-remove_entry}
use Rattle.std.proofs.lemmas.List.{take-append-drop, take_all}
use Rattle.iom_tlb.specs.Content.{left_by}
use Rattle.lru.specs.LruCache.{LruCache, put_entries, promoted}
use Rattle.lru.proofs.CallerLemmas.{Contains-lookup_entry}
use Rattle.lru.proofs.Pairs.{lookup-lookup_entry}

module _ {K : Type 0} (eq : K → K → Bool) (laws : IsEquivalence eq) (one : (a b : K) → eq a b ≡ true → a ≡ b) where
  not_one : (a b : K) → a ≢ b → (t : Bool) → eq a b ≡ t → eq a b ≡ false
  not_one a b apart true e = absurd (apart (one a b e))
  not_one a b apart false e = e

  -- keys that aren't one
  pub apart_keys : (a b : K) → a ≢ b → eq a b ≡ false
  apart_keys a b apart = not_one a b apart (eq a b) refl

  module _ {V : Type 0} where
    -- what is found without the entry of a key
    pub removed : (k q : K) (es : List (K × V)) → IsDistinct eq (keys_of es)
        → lookup (eq q) (remove_entry (eq k) es) ≡ cond (eq k q) None (lookup (eq q) es)
    removed k q es d = lookup-remove_entry laws (eq k) (λ x y e. laws.congr k x y e) q es d

    found_at : (k q : K) (es : List (K × V)) (e : K × V) → lookup_entry (eq k) es ≡ Some e → eq q e.0 ≡ true → lookup (eq q) es ≡ Some e.1
    found_at k q es e f t =
        let same : q ≡ k = one q e.0 t ∙ sym (one k e.0 (Contains-lookup_entry (eq k) es e f).1) in
        rw same (sym (lookup-lookup_entry (eq k) es) ∙ ap (option_map (λ e. e.1)) f)

    apart_too : (k q : K) (e : K × V) (b : Bool) → eq k q ≡ b → eq k e.0 ≡ true → eq q e.0 ≡ false → b ≡ false
    apart_too k q e false h t f = refl
    apart_too k q e true h t f = let x = laws.congr k q e.0 h in absurd (cc)

    moved : (k q : K) (es : List (K × V)) → IsDistinct eq (keys_of es) → (e : K × V) → lookup_entry (eq k) es ≡ Some e → (b : Bool) → eq q e.0 ≡ b
        → cond b (Some e.1) (lookup (eq q) (remove_entry (eq k) es)) ≡ lookup (eq q) es
    moved k q es d e f true h = sym (found_at k q es e f h)
    moved k q es d e f false h =
        let other = apart_too k q e (eq k q) refl (Contains-lookup_entry (eq k) es e f).1 h in
        rw (removed k q es d, other) refl

    promoted_at : (k q : K) (es : List (K × V)) → IsDistinct eq (keys_of es) → (o : Option (K × V)) → lookup_entry (eq k) es ≡ o
        → lookup (eq q) (option_map_or (λ e. e ∷ remove_entry (eq k) es) o es) ≡ lookup (eq q) es
    promoted_at k q es d None f = refl
    promoted_at k q es d (Some e) f = moved k q es d e f (eq q e.0) refl

    -- an entry that goes first changes no look-up
    pub lookup-promoted : (k q : K) (es : List (K × V)) → IsDistinct eq (keys_of es) → lookup (eq q) (promoted (eq k) es) ≡ lookup (eq q) es
    lookup-promoted k q es d = promoted_at k q es d (lookup_entry (eq k) es) refl

    -- an entry at another key changes no look-up
    other_end : (q : K) (xs : List (K × V)) (l : K × V) → eq q l.0 ≡ false → lookup (eq q) (xs ++ l ∷ []) ≡ lookup (eq q) xs
    other_end q [] l f = rw f refl
    other_end q (x ∷ xs) l f = ap (λ r. cond (eq q x.0) (Some x.1) r) (other_end q xs l f)

    last_of : (P : K → Type 0) (xs : List (K × V)) (l : K × V) → AllByRecursion P (keys_of (xs ++ l ∷ [])) → P l.0
    last_of P [] l a = a.0
    last_of P (x ∷ xs) l a = last_of P xs l a.1

    -- no entry before the last has its key
    gone : (xs : List (K × V)) (l : K × V) → IsDistinct eq (keys_of (xs ++ l ∷ [])) → lookup (eq l.0) xs ≡ None
    unfolding IsDistinct
    gone [] l d = refl
    gone (x ∷ xs) l d =
        let t : eq l.0 x.0 ≡ false = laws.symm l.0 x.0 ∙ last_of (λ y. eq x.0 y ≡ false) xs l d.0 in
        rw t (gone xs l d.1)

    gone_at : (q : K) (l : K × V) → q ≡ l.0 → (xs : List (K × V)) → IsDistinct eq (keys_of (xs ++ l ∷ [])) → lookup (eq q) xs ≡ None
    gone_at q l same xs d = let P : K → Type 0 = λ x. lookup (eq x) xs ≡ None in subst P (sym same) (gone xs l d)

    -- the key has the value; of the others at most one has lost its own
    pub record Puts (old : K → Option V) (k : K) (v : V) (new : K → Option V) : Type 0 where
      pub put : new k ≡ Some v
      pub others : (out : K) × ((q : K) → q ≢ k → (new q ≡ old q) ⊎ ((q ≡ out) × (new q ≡ None)))

    module _ (c : LruCache K V) (k : K) (v : V) (d : IsDistinct eq (keys_of c.entries)) where
      there : (e : K × V) → lookup_entry (eq k) c.entries ≡ Some e → (q : K) → q ≢ k
          → lookup (eq q) ((e.0, v) ∷ remove_entry (eq k) c.entries) ≡ lookup (eq q) c.entries
      there e f q apart =
          let same : k ≡ e.0 = one k e.0 (Contains-lookup_entry (eq k) c.entries e f).1 in
          let away = apart_keys q k apart in
          let other : eq q e.0 ≡ false = rw same at away in
          let back : eq k q ≡ false = laws.symm k q ∙ away in
          rw (other, removed k q c.entries d, back) refl

      -- a key that was there takes the value
      put_there : (e : K × V) → lookup_entry (eq k) c.entries ≡ Some e
          → Puts (λ q. lookup (eq q) c.entries) k v (λ q. lookup (eq q) ((e.0, v) ∷ remove_entry (eq k) c.entries))
      put_there e f =
          let at : eq k e.0 ≡ true = (Contains-lookup_entry (eq k) c.entries e f).1 in
          record { put = rw at refl; others = (k, λ q apart. inl (there e f q apart)) }

      pushed_out : (l : K × V) (kept : List (K × V)) → kept ++ l ∷ [] ≡ c.entries → (q : K) → eq q k ≡ false → (t : Bool) → eq q l.0 ≡ t
          → (lookup (eq q) ((k, v) ∷ kept) ≡ lookup (eq q) c.entries) ⊎ ((q ≡ l.0) × (lookup (eq q) ((k, v) ∷ kept) ≡ None))
      pushed_out l kept whole q away true h =
          let same : q ≡ l.0 = one q l.0 h in
          inr (same, rw away (gone_at q l same kept (rw whole d)))
      pushed_out l kept whole q away false h = inl (rw away (sym (other_end q kept l h) ∙ ap (lookup (eq q)) whole))

      -- a new key goes first, and the last entry of a full cache goes out
      put_new : length c.entries ≤ c.cap → 0 < c.cap → (past : List (K × V)) → drop (c.cap - 1) c.entries ≡ past
          → Puts (λ q. lookup (eq q) c.entries) k v (λ q. lookup (eq q) ((k, v) ∷ take (c.cap - 1) c.entries))
      put_new le pos [] h =
          let whole : take (c.cap - 1) c.entries ≡ c.entries = sym (append-nil _) ∙ ap (λ r. take (c.cap - 1) c.entries ++ r) (sym h) ∙ take-append-drop (c.cap - 1) c.entries in
          record { put = rw (laws.refl k) refl; others = (k, λ q apart. inl (rw (apart_keys q k apart, whole) refl)) }
      put_new le pos (l ∷ []) h =
          let whole : take (c.cap - 1) c.entries ++ l ∷ [] ≡ c.entries = ap (λ r. take (c.cap - 1) c.entries ++ r) (sym h) ∙ take-append-drop (c.cap - 1) c.entries in
          record {
            put = rw (laws.refl k) refl;
            others = (l.0, λ q apart. pushed_out l (take (c.cap - 1) c.entries) whole q (apart_keys q k apart) (eq q l.0) refl);
          }
      put_new le pos (l ∷ m ∷ rest) h = absurd (omega (arith, ap length h, length-drop (c.cap - 1) c.entries))

      put_at : length c.entries ≤ c.cap → 0 < c.cap → (o : Option (K × V)) → lookup_entry (eq k) c.entries ≡ o
          → Puts (λ q. lookup (eq q) c.entries) k v
          (λ q. lookup (eq q) (option_map_or (λ e. (e.0, v) ∷ remove_entry (eq k) c.entries) o ((k, v) ∷ take (c.cap - 1) c.entries)))
      put_at le pos None f = put_new le pos (drop (c.cap - 1) c.entries) refl
      put_at le pos (Some e) f = put_there e f

      -- what is found after a put
      pub Puts-put_entries : length c.entries ≤ c.cap → 0 < c.cap
          → Puts (λ q. lookup (eq q) c.entries) k v (λ q. lookup (eq q) (put_entries eq c k v))
      Puts-put_entries le pos = put_at le pos (lookup_entry (eq k) c.entries) refl

    -- a pop of the key of a found entry leaves fewer
    shorter : (p : K × V → Bool) (e x : K × V) (es : List (K × V)) → (b t : Bool) → eq e.0 x.0 ≡ b → cond t (Some x) (find p es) ≡ Some e
        → (find p es ≡ Some e → length (remove_entry (eq e.0) es) < length es)
        → length (cond b es (x ∷ remove_entry (eq e.0) es)) < length (x ∷ es)
    shorter p e x es true t h f less = omega arith
    shorter p e x es false true h f less =
        let same : x ≡ e = cc in
        let itself = laws.refl x.0 in
        absurd (let h2 : eq x.0 x.0 ≡ false = rw (← same) at h in cc)
    shorter p e x es false false h f less = omega (arith, less f)

    length-remove_found : (p : K × V → Bool) (e : K × V) (es : List (K × V)) → find p es ≡ Some e → length (remove_entry (eq e.0) es) < length es
    length-remove_found p e [] f = absurd (cc)
    length-remove_found p e (x ∷ es) f = shorter p e x es (eq e.0 x.0) (p x) refl f (λ g. length-remove_found p e es g)

    fewer : (p : K × V → Bool) (es : List (K × V)) (key : K) (o : Option (K × V)) → find p es ≡ o → Some key ≡ option_map (λ e. e.0) o
        → length (remove_entry (eq key) es) < length es
    fewer p es key None f h = absurd (cc)
    fewer p es key (Some e) f h = let same : key ≡ e.0 = cc in rw same (length-remove_found p e es f)

    pub drop_fewer : (p : K × V → Bool) (es : List (K × V)) (key : K) → Some key ≡ option_map (λ e. e.0) (find p es)
        → length (remove_entry (eq key) es) < length es
    drop_fewer p es key h = fewer p es key (find p es) refl h

    -- an entry that is found is one that goes
    found_fewer : (k : K) (x e : K × V) (es : List (K × V)) (b : Bool) → (lookup_entry (eq k) es ≡ Some e → length (remove_entry (eq k) es) < length es)
        → cond b (Some x) (lookup_entry (eq k) es) ≡ Some e → length (cond b es (x ∷ remove_entry (eq k) es)) < length (x ∷ es)
    found_fewer k x e es true rest f = omega arith
    found_fewer k x e es false rest f = omega (arith, rest f)

    removed_fewer : (k : K) (es : List (K × V)) (e : K × V) → lookup_entry (eq k) es ≡ Some e → length (remove_entry (eq k) es) < length es
    removed_fewer k [] e f = absurd (cc)
    removed_fewer k (x ∷ es) e f = found_fewer k x e es (eq k x.0) (removed_fewer k es e) f

    -- and where none is found none goes
    none_goes : (k : K) (x : K × V) (es : List (K × V)) (b : Bool) → (lookup_entry (eq k) es ≡ None → remove_entry (eq k) es ≡ es)
        → cond b (Some x) (lookup_entry (eq k) es) ≡ None → cond b es (x ∷ remove_entry (eq k) es) ≡ x ∷ es
    none_goes k x es true rest f = absurd (cc)
    none_goes k x es false rest f = ap (λ (ys : List (K × V)). x ∷ ys) (rest f)

    removed_none : (k : K) (es : List (K × V)) → lookup_entry (eq k) es ≡ None → remove_entry (eq k) es ≡ es
    removed_none k [] f = refl
    removed_none k (x ∷ es) f = none_goes k x es (eq k x.0) (removed_none k es) f

    put_first_at : (k : K) (v : V) (es : List (K × V)) (others : ℕ) → length es ≤ others + 1 → (o : Option (K × V)) → lookup_entry (eq k) es ≡ o
        → option_map_or (λ e. (e.0, v) ∷ remove_entry (eq k) es) o ((k, v) ∷ take others es) ≡ (k, v) ∷ take others (remove_entry (eq k) es)
    put_first_at k v es others le None f = ap (λ (rest : List (K × V)). (k, v) ∷ take others rest) (sym (removed_none k es f))
    put_first_at k v es others le (Some e) f =
        let same : e.0 ≡ k = sym (one k e.0 (Contains-lookup_entry (eq k) es e f).1) in
        let few : length (remove_entry (eq k) es) ≤ others = omega (arith, removed_fewer k es e f) in
        rw same (ap (λ (rest : List (K × V)). (k, v) ∷ rest) (sym (take_all others (remove_entry (eq k) es) few)))

    -- what is put goes first, and of the others one fewer stay than there is room for
    pub put_first : (k : K) (v : V) (c : LruCache K V) (others : ℕ) → length c.entries ≤ c.cap → c.cap ≡ others + 1
        → put_entries eq c k v ≡ (k, v) ∷ take others (remove_entry (eq k) c.entries)
    put_first k v c others le room =
        let one_fewer : c.cap - 1 ≡ others = omega (arith, room) in
        rw one_fewer (put_first_at k v c.entries others (omega (arith, le, room)) (lookup_entry (eq k) c.entries) refl)

    look_first_at : (k : K) (es : List (K × V)) (o : Option (K × V)) → lookup_entry (eq k) es ≡ o
        → option_map_or (λ e. e ∷ remove_entry (eq k) es) o es ≡ option_map_or (λ v. (k, v) ∷ remove_entry (eq k) es) (option_map (λ (e : K × V). e.1) o) es
    look_first_at k es None f = refl
    look_first_at k es (Some e) f =
        ap (λ (x : K). (x, e.1) ∷ remove_entry (eq k) es) (sym (one k e.0 (Contains-lookup_entry (eq k) es e f).1))

    -- what is looked at goes first
    pub look_first : (k : K) (es : List (K × V))
        → promoted (eq k) es ≡ option_map_or (λ v. (k, v) ∷ remove_entry (eq k) es) (lookup (eq k) es) es
    look_first k es = rw (sym (lookup-lookup_entry (eq k) es)) (look_first_at k es (lookup_entry (eq k) es) refl)

    -- an entry that is found has what all have
    found_has_at : (P : K → Type 0) (e x : K × V) (rest : Option (K × V)) (t : Bool) → P x.0 → (rest ≡ Some e → P e.0) → cond t (Some x) rest ≡ Some e → P e.0
    found_has_at P e x rest true here later f = let same : x ≡ e = cc in subst (λ (y : K × V). P y.0) same here
    found_has_at P e x rest false here later f = later f

    found_has : (P : K → Type 0) (p : K × V → Bool) (e : K × V) (es : List (K × V)) → AllByRecursion P (keys_of es) → find p es ≡ Some e → P e.0
    found_has P p e [] all f = absurd (cc)
    found_has P p e (x ∷ es) all f = found_has_at P e x (find p es) (p x) all.0 (found_has P p e es all.1) f

    -- without a found entry, those that don't pass are as they were
    goes_at : (p : K × V → Bool) (e x : K × V) (es : List (K × V)) (t b : Bool) → p x ≡ t → eq e.0 x.0 ≡ b → cond t (Some x) (find p es) ≡ Some e
        → AllByRecursion (λ y. eq x.0 y ≡ false) (keys_of es)
        → (find p es ≡ Some e → filter (λ e. not (p e)) (remove_entry (eq e.0) es) ≡ filter (λ e. not (p e)) es)
        → filter (λ e. not (p e)) (cond b es (x ∷ remove_entry (eq e.0) es)) ≡ cond (not t) (x ∷ filter (λ e. not (p e)) es) (filter (λ e. not (p e)) es)
    goes_at p e x es true true t h f all rest = refl
    goes_at p e x es true false t h f all rest =
        let same : x ≡ e = cc in
        let itself : eq e.0 x.0 ≡ true = subst (λ (y : K × V). eq e.0 y.0 ≡ true) (sym same) (laws.refl e.0) in
        absurd (cc)
    goes_at p e x es false true t h f all rest =
        let other : eq x.0 e.0 ≡ false = found_has (λ y. eq x.0 y ≡ false) p e es all f in
        let back : eq e.0 x.0 ≡ false = laws.symm e.0 x.0 ∙ other in
        absurd (cc)
    goes_at p e x es false false t h f all rest = rw t (ap (λ (ys : List (K × V)). x ∷ ys) (rest f))

    found_goes : (p : K × V → Bool) (e : K × V) (es : List (K × V)) → IsDistinct eq (keys_of es) → find p es ≡ Some e
        → filter (λ e. not (p e)) (remove_entry (eq e.0) es) ≡ filter (λ e. not (p e)) es
    unfolding IsDistinct
    found_goes p e [] d f = refl
    found_goes p e (x ∷ es) d f = goes_at p e x es (p x) (eq e.0 x.0) refl refl f d.0 (found_goes p e es d.1)

    others_at : (p : K × V → Bool) (es : List (K × V)) (key : K) (o : Option (K × V)) → IsDistinct eq (keys_of es) → find p es ≡ o → Some key ≡ option_map (λ e. e.0) o
        → filter (λ e. not (p e)) (remove_entry (eq key) es) ≡ filter (λ e. not (p e)) es
    others_at p es key None d f h = absurd (cc)
    others_at p es key (Some e) d f h = let same : key ≡ e.0 = cc in rw same (found_goes p e es d f)

    pub drop_others : (p : K × V → Bool) (es : List (K × V)) (key : K) → IsDistinct eq (keys_of es) → Some key ≡ option_map (λ e. e.0) (find p es)
        → filter (λ e. not (p e)) (remove_entry (eq key) es) ≡ filter (λ e. not (p e)) es
    drop_others p es key d h = others_at p es key (find p es) d refl h

    -- what is found among those that don't pass
    no_other : (k x : K) (es : List (K × V)) → eq k x ≡ true → AllByRecursion (λ y. eq x y ≡ false) (keys_of es) → lookup (eq k) es ≡ None
    no_other k x [] h all = refl
    no_other k x (e ∷ es) h all =
        let apart : eq k e.0 ≡ false = laws.congr k x e.0 h ∙ all.0 in
        rw apart (no_other k x es h all.1)

    left_at : (p : K × V → Bool) (k : K) (x : K × V) (es : List (K × V)) (t b : Bool) → p x ≡ t → eq k x.0 ≡ b → AllByRecursion (λ y. eq x.0 y ≡ false) (keys_of es)
        → lookup (eq k) (filter (λ e. not (p e)) es) ≡ left_by (λ v. p (k, v)) (lookup (eq k) es)
        → lookup (eq k) (cond (not t) (x ∷ filter (λ e. not (p e)) es) (filter (λ e. not (p e)) es)) ≡ left_by (λ v. p (k, v)) (cond b (Some x.1) (lookup (eq k) es))
    left_at p k x es true true t h all rest =
        rest ∙ ap (left_by (λ v. p (k, v))) (no_other k x.0 es h all)
        ∙ sym (ap (λ b. cond b None (Some x.1)) (ap (λ (y : K). p (y, x.1)) (one k x.0 h) ∙ t))
    left_at p k x es false true t h all rest =
        rw h (sym (ap (λ b. cond b None (Some x.1)) (ap (λ (y : K). p (y, x.1)) (one k x.0 h) ∙ t)))
    left_at p k x es true false t h all rest = rest
    left_at p k x es false false t h all rest = rw h rest

    pub lookup-filter : (p : K × V → Bool) (k : K) (es : List (K × V)) → IsDistinct eq (keys_of es)
        → lookup (eq k) (filter (λ e. not (p e)) es) ≡ left_by (λ v. p (k, v)) (lookup (eq k) es)
    unfolding IsDistinct
    lookup-filter p k [] d = refl
    lookup-filter p k (x ∷ es) d = left_at p k x es (p x) (eq k x.0) refl refl d.0 (lookup-filter p k es d.1)

    no_entry : (o : Option (K × V)) → None ≡ option_map (λ e. e.0) o → o ≡ None
    no_entry None h = refl
    no_entry (Some e) h = absurd (cc)

    all_in : (p : K × V → Bool) (x : K × V) (es : List (K × V)) (t : Bool) → p x ≡ t → cond t (Some x) (find p es) ≡ None
        → (find p es ≡ None → filter (λ e. not (p e)) es ≡ es) → cond (not t) (x ∷ filter (λ e. not (p e)) es) (filter (λ e. not (p e)) es) ≡ x ∷ es
    all_in p x es true h f rest = absurd (cc)
    all_in p x es false h f rest = ap (λ (ys : List (K × V)). x ∷ ys) (rest f)

    -- and where none passes all stay
    pub none_out : (p : K × V → Bool) (es : List (K × V)) → find p es ≡ None → filter (λ e. not (p e)) es ≡ es
    none_out p [] f = refl
    none_out p (x ∷ es) f = all_in p x es (p x) refl f (none_out p es)

    pub drop_left : (p : K × V → Bool) (old new : List (K × V)) → None ≡ option_map (λ e. e.0) (find p new)
        → filter (λ e. not (p e)) new ≡ filter (λ e. not (p e)) old → new ≡ filter (λ e. not (p e)) old
    drop_left p old new none same = sym (none_out p new (no_entry _ none)) ∙ same

    none_of_key : (k x : K) (es : List (K × V)) → eq k x ≡ true → AllByRecursion (λ y. eq x y ≡ false) (keys_of es) → filter (λ e. not (eq k e.0)) es ≡ es
    none_of_key k x [] h all = refl
    none_of_key k x (e ∷ es) h all =
        let other : eq k e.0 ≡ false = laws.congr k x e.0 h ∙ all.0 in
        rw other (ap (λ (ys : List (K × V)). e ∷ ys) (none_of_key k x es h all.1))

    one_of_key : (k : K) (x : K × V) (es : List (K × V)) (b : Bool) → eq k x.0 ≡ b → AllByRecursion (λ y. eq x.0 y ≡ false) (keys_of es)
        → remove_entry (eq k) es ≡ filter (λ e. not (eq k e.0)) es
        → cond b es (x ∷ remove_entry (eq k) es) ≡ cond (not b) (x ∷ filter (λ e. not (eq k e.0)) es) (filter (λ e. not (eq k e.0)) es)
    one_of_key k x es true h all rest = sym (none_of_key k x.0 es h all)
    one_of_key k x es false h all rest = ap (λ (ys : List (K × V)). x ∷ ys) rest

    -- where no key stands twice, without the entry of a key there is none of that key
    pub remove-filter : (k : K) (es : List (K × V)) → IsDistinct eq (keys_of es) → remove_entry (eq k) es ≡ filter (λ e. not (eq k e.0)) es
    unfolding IsDistinct
    remove-filter k [] d = refl
    remove-filter k (x ∷ es) d = one_of_key k x es (eq k x.0) refl d.0 (remove-filter k es d.1)
