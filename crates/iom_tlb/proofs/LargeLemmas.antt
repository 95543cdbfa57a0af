-- Leaves of 4 KiB and larger ones: what a cover covers of them, and of which address spaces there may be large ones.
use Rattle.std.proofs.Common.{◌≡◌, ◌≢◌, ◌<◌, ◌≤◌, ◌+◌, ◌-◌, ◌/◌, ◌%◌, ◌^◌, ◌∙◌, inl, inr, ℕ, Bool, true, false, ◌==◌, ◌&&◌, Some, None, refl, sym, ap, arith}
use Rattle.std.proofs.lemmas.Bool.{eq-eqb, eqb-true}
use Rattle.std.proofs.lemmas.Nat.{shr-shr, shr_le}
use Rattle.iom_tlb.specs.declared.space.Space.{Space}
use Rattle.iom_tlb.specs.declared.space.Space.TheVariants as space
use Rattle.iom_tlb.specs.declared.cover.Cover.{Cover}
use Rattle.iom_tlb.specs.declared.cover.Cover.TheVariants as cover
use Rattle.iom_tlb.specs.declared.large_leaves.LargeLeaves.{LargeLeaves}
use Rattle.iom_tlb.specs.declared.trans_cache.Translation.{Translation}
use Rattle.iom_tlb.specs.Content.{Key, Translations, Keeps, DropsWhere, HasNothing}
use Rattle.iom_tlb.specs.Covers.{admits, covers, is_same_leaf, may_be_large, may_cover_large}
use Rattle.iom_tlb.specs.Entries.{is_key}
use Rattle.iom_tlb.specs.WayCalls.{AreMarked}
use Rattle.iom_tlb.proofs.KeyLemmas.{apart_keys}
use Rattle.iom_tlb.proofs.ContentLemmas.{found_before_drop, found_by_keep}

-- a leaf of 4 KiB has one page
pub page_alone : (order page other : ℕ) → order ≡ 0 → is_same_leaf order page other ≡ page == other
page_alone order page other none = ap (λ l. is_same_leaf l page other) none ∙ alone
  where
    alone : is_same_leaf 0 page other ≡ page == other
    alone = let one : page / 1 ≡ page = omega arith in let two : other / 1 ≡ other = omega arith in rw (one, two) refl

-- a page lies in its own leaf, of whatever order
pub own_leaf : (order page other : ℕ) → page ≡ other → is_same_leaf order page other ≡ true
own_leaf order page other same = eq-eqb (page / 2 ^ order) (other / 2 ^ order) (ap (λ p. p / 2 ^ order) same)

-- of order 64 or more there is one leaf, in which all pages lie
past_all : (k page : ℕ) → page < 2 ^ 64 → page / 2 ^ (64 + k) ≡ 0
past_all k page low =
    let e : page / 2 ^ 64 ≡ 0 = omega (arith, low) in
    let none : 0 / 2 ^ k ≡ 0 = omega (arith, shr_le 0 k) in
    sym (shr-shr page 64 k) ∙ ap (λ n. n / 2 ^ k) e ∙ none

pub one_leaf : (order page other : ℕ) → 64 ≤ order → page < 2 ^ 64 → other < 2 ^ 64 → true ≡ is_same_leaf order page other
one_leaf order page other wide low below =
    let all : order ≡ 64 + (order - 64) = omega (arith, wide) in
    sym (eq-eqb (page / 2 ^ order) (other / 2 ^ order)
    (ap (λ n. page / 2 ^ n) all ∙ past_all (order - 64) page low ∙ sym (past_all (order - 64) other below) ∙ ap (λ n. other / 2 ^ n) (sym all)))

-- so pages in one of 4 KiB lie in one of whatever order
larger : (order page other : ℕ) → is_same_leaf 0 page other ≡ true → is_same_leaf order page other ≡ true
larger order page other is = own_leaf order page other (eqb-true page other (sym (page_alone 0 page other refl) ∙ is))

still : (a x y : Bool) → (x ≡ true → y ≡ true) → a && x ≡ true → a && y ≡ true
still true x y more is = more is
still false x y more is = absurd (cc)

still_both : (a b x y : Bool) → (x ≡ true → y ≡ true) → a && b && x ≡ true → a && b && y ≡ true
still_both true true x y more is = more is
still_both true false x y more is = absurd (cc)
still_both false b x y more is = absurd (cc)

-- where no translation from a large leaf may be among those that a cover covers, none is
pub none_large : (large : LargeLeaves) (content : Translations) (c : Cover) → AreMarked large content → may_cover_large large c ≡ false
    → (key : Key) (t : Translation) → content key ≡ Some t → covers c key t ≡ true → t.order ≡ 0
none_large large content (cover.First pscid page) marked none (space.First own, number) t at covered = marked (space.First own, number) t at none
none_large large content (cover.First pscid page) marked none (space.Second own, number) t at covered = absurd (cc)
none_large large content (cover.First pscid page) marked none (space.Both guest own, number) t at covered = absurd (cc)
none_large large content (cover.Second gscid page) marked none (space.First own, number) t at covered = absurd (cc)
none_large large content (cover.Second gscid page) marked none (space.Second own, number) t at covered = marked (space.Second own, number) t at none
none_large large content (cover.Second gscid page) marked none (space.Both guest own, number) t at covered = absurd (cc)
none_large large content (cover.Both gscid pscid page) marked none (space.First own, number) t at covered = absurd (cc)
none_large large content (cover.Both gscid pscid page) marked none (space.Second own, number) t at covered = absurd (cc)
none_large large content (cover.Both gscid pscid page) marked none (space.Both guest own, number) t at covered = marked (space.Both guest own, number) t at none

-- a drop leaves nothing that wasn't there
pub marked_still : (large : LargeLeaves) (old new : Translations) (is_out : Key → Translation → Bool) → AreMarked large old → DropsWhere is_out old new → AreMarked large new
marked_still large old new is_out marked drops key t at none = marked key t (found_before_drop old new key t at is_out drops).1 none

-- in a cache that has nothing nothing is
pub marked_nothing : (large : LargeLeaves) (content : Translations) → HasNothing content → AreMarked large content
marked_nothing large content nothing key t at none = absurd (let e : content key ≡ None = nothing key in cc)

-- a keep, where the address space is marked if the leaf is a large one
pub marked_keep : (large larger : LargeLeaves) (old new : Translations) (sure : Bool) (at : Key) (kept : Translation) → AreMarked large old → Keeps sure old at kept new
    → ((space : Space) → may_be_large larger space ≡ false → may_be_large large space ≡ false) → (may_be_large larger at.0 ≡ false → kept.order ≡ 0)
    → AreMarked larger new
marked_keep large larger old new sure at kept marked keeps others own key t found none = elim (found_by_keep old new key t found sure at kept keeps) [
  | inl now ↦ ap (λ (x : Translation). x.order) now.1 ∙ own (ap (λ (k : Key). may_be_large larger k.0) (sym now.0) ∙ none)
  | inr was ↦ marked key t was.1 (others key.0 none)
]

-- what is covered as a page of 4 KiB is covered, whatever leaf it came from
pub wider : (c : Cover) (key : Key) (t : Translation) → covers c key (record { frame = t.frame; rights = t.rights; order = 0 }) ≡ true → covers c key t ≡ true
wider (cover.First pscid None) (space.First own, number) t is = is
wider (cover.First pscid (Some page)) (space.First own, number) t is = still (admits pscid own) (is_same_leaf 0 page number) (is_same_leaf t.order page number) (larger t.order page number) is
wider (cover.First pscid page) (space.Second own, number) t is = absurd (cc)
wider (cover.First pscid page) (space.Both guest own, number) t is = absurd (cc)
wider (cover.Second gscid None) (space.Second own, number) t is = is
wider (cover.Second gscid (Some page)) (space.Second own, number) t is = still (admits gscid own) (is_same_leaf 0 page number) (is_same_leaf t.order page number) (larger t.order page number) is
wider (cover.Second gscid page) (space.First own, number) t is = absurd (cc)
wider (cover.Second gscid page) (space.Both guest own, number) t is = absurd (cc)
wider (cover.Both gscid pscid None) (space.Both guest own, number) t is = is
wider (cover.Both gscid pscid (Some page)) (space.Both guest own, number) t is =
    still_both (admits gscid guest) (admits pscid own) (is_same_leaf 0 page number) (is_same_leaf t.order page number) (larger t.order page number) is
wider (cover.Both gscid pscid page) (space.First own, number) t is = absurd (cc)
wider (cover.Both gscid pscid page) (space.Second own, number) t is = absurd (cc)

-- WHERE ALL THAT IS COVERED CAME FROM LEAVES OF 4 KIB
module _ (c : Cover) (content : Translations) (small : (key : Key) (t : Translation) → content key ≡ Some t → covers c key t ≡ true → t.order ≡ 0) where
  -- a cover of one key covers that key
  pub one_key_goes : (own : Key) → ((other : Key) (t : Translation) → t.order ≡ 0 → covers c other t ≡ is_key own other) → (key : Key) (t : Translation) → content key ≡ Some t
      → is_key own key ≡ covers c key t
  one_key_goes own only key t at = by (covers c key t) refl
    where
      alone : covers c key t ≡ false → (b : Bool) → is_key own key ≡ b → b ≡ false
      alone none false e = refl
      alone none true e =
          let there : covers c key t ≡ true = wider c key t (only key (record { frame = t.frame; rights = t.rights; order = 0 }) refl ∙ e) in absurd (cc)

      by : (b : Bool) → covers c key t ≡ b → is_key own key ≡ b
      by true e = sym (only key t (small key t at e)) ∙ e
      by false e = alone e (is_key own key) refl

  -- and none in another set
  pub key_elsewhere : (own : Key) → ((other : Key) (t : Translation) → t.order ≡ 0 → covers c other t ≡ is_key own other) → (key : Key) (t : Translation) → content key ≡ Some t
      → key.1 % 64 ≢ own.1 % 64 → covers c key t ≡ false
  key_elsewhere own only key t at apart =
      sym (one_key_goes own only key t at) ∙ apart_keys own key (λ same. apart (ap (λ (k : Key). k.1 % 64) (sym same)))

  -- nor does a cover of one page
  pub page_elsewhere : (page : ℕ) → ((key : Key) (t : Translation) → t.order ≡ 0 → key.1 ≢ page → covers c key t ≡ false) → (key : Key) (t : Translation) → content key ≡ Some t
      → key.1 % 64 ≢ page % 64 → covers c key t ≡ false
  page_elsewhere page only key t at apart = by (covers c key t) refl
    where
      by : (b : Bool) → covers c key t ≡ b → covers c key t ≡ false
      by true e = only key t (small key t at e) (λ same. apart (ap (λ n. n % 64) same))
      by false e = e
