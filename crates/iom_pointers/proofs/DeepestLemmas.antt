-- The pointer of the lowest level among the first of a list, one more at a time.
use Rattle.std.proofs.Common.{◌≡◌, ◌⊎◌, ◌∙◌, inl, inr, ℕ, ◌+◌, ◌<◌, ◌≤◌, true, false, List, [], ◌∷◌, ◌++◌, length, get_or, take, Contains, Option, Some, None, subst, sym, ap, arith}
use Rattle.std.specs.Prelude.{IfSome, IfNone}
use Rattle.std.proofs.lemmas.Bool.{false≢true, ltb-true, ltb-false}
use Rattle.std.proofs.lemmas.List.{take_more}
use Rattle.std.proofs.lemmas.List.Elements.{Contains-push, Contains-push_cases, Contains-append_left}
use Rattle.iom_pointers.specs.Pointers.{HasNoneFor, IsDeepest, is_for, is_lower}
use Rattle.iom_pointers.specs.declared.pointer.Pointer.{Pointer as Kept}
use Rattle.iom_tlb.specs.declared.space.Space.{Space}

-- what was found is the lowest of those that were looked at
pub record IsDeepestOf (seen : List Kept) (space : Space) (page : ℕ) (found : Option Kept) : Type 0 where
  pub some : IfSome found (IsDeepest seen space page)
  pub none : IfNone found (HasNoneFor seen space page)

-- of the first so many
abbrev pub IsDeepestAmong : List Kept → Space → ℕ → ℕ → Option Kept → Type 0
IsDeepestAmong kept space page place found = IsDeepestOf (take place kept) space page found

level_same : (one other : Kept) → one ≡ other → one.level ≡ other.level
level_same one other same = ap (λ (p : Kept). p.level) same

module _ (seen : List Kept) (space : Space) (page : ℕ) (own : Kept) where
  -- one more that is for the page, and lower than what was found, takes its place
  one_lower : (found : Option Kept) → IsDeepestOf seen space page found → is_for space page own ≡ true → is_lower own found ≡ true → IsDeepestOf (seen ++ own ∷ []) space page (Some own)
  one_lower found so_far is lower = record {
    some = record {
      among = Contains-push seen own;
      own = is;
      lowest = λ other c for. elim (Contains-push_cases seen own other c) [
        | inl before ↦ by found so_far lower other before for
        | inr same ↦ let e = level_same own other same in omega (arith, e)
      ];
    };
    none = tt;
  }
    where
      by : (found : Option Kept) → IsDeepestOf seen space page found → is_lower own found ≡ true → (other : Kept) → Contains seen other → is_for space page other ≡ true → own.level ≤ other.level
      by None so_far lower other before for = absurd (false≢true (sym (so_far.none other before) ∙ for))
      by (Some last) so_far lower other before for =
          let least = so_far.some.lowest other before for in
          let less = ltb-true own.level last.level lower in
          omega (arith, least, less)

  -- any other changes nothing
  one_other : (found : Option Kept) → IsDeepestOf seen space page found → (is_for space page own ≡ false) ⊎ (is_lower own found ≡ false) → IsDeepestOf (seen ++ own ∷ []) space page found
  one_other None so_far (inr not_lower) = absurd (false≢true (sym not_lower))
  one_other None so_far (inl not_for) = record {
    some = tt;
    none = λ other c. elim (Contains-push_cases seen own other c) [
      | inl before ↦ so_far.none other before
      | inr same ↦ ap (is_for space page) (sym same) ∙ not_for
    ];
  }
  one_other (Some last) so_far other_one = record {
    some = record {
      among = Contains-append_left seen (own ∷ []) last so_far.some.among;
      own = so_far.some.own;
      lowest = λ other c for. elim (Contains-push_cases seen own other c) [
        | inl before ↦ so_far.some.lowest other before for
        | inr same ↦ let e = level_same own other same in let least = by other_one (ap (is_for space page) same ∙ for) in omega (arith, e, least)
      ];
    };
    none = tt;
  }
    where
      by : (is_for space page own ≡ false) ⊎ (is_lower own (Some last) ≡ false) → is_for space page own ≡ true → last.level ≤ own.level
      by (inl not_for) is = absurd (false≢true (sym not_for ∙ is))
      by (inr not_lower) is = ltb-false own.level last.level not_lower

-- ALONG A LIST
module _ (kept : List Kept) (space : Space) (page place : ℕ) (own : Kept) (inside : place < length kept) (read : own ≡ get_or kept place own) where
  one_more : take place kept ++ own ∷ [] ≡ take (place + 1) kept
  one_more = ap (λ p. take place kept ++ p ∷ []) read ∙ sym (take_more kept place own inside)

  pub goes_lower : (found : Option Kept) → IsDeepestAmong kept space page place found → is_for space page own ≡ true → is_lower own found ≡ true
      → IsDeepestAmong kept space page (place + 1) (Some own)
  goes_lower found so_far is lower = subst (λ seen. IsDeepestOf seen space page (Some own)) one_more (one_lower (take place kept) space page own found so_far is lower)

  pub goes_on : (found : Option Kept) → IsDeepestAmong kept space page place found → (is_for space page own ≡ false) ⊎ (is_lower own found ≡ false)
      → IsDeepestAmong kept space page (place + 1) found
  goes_on found so_far other = subst (λ seen. IsDeepestOf seen space page found) one_more (one_other (take place kept) space page own found so_far other)
