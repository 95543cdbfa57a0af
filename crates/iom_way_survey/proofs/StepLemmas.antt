-- Steps of loops over lists.
use Rattle.std.proofs.Common.{◌≡◌, ◌⊎◌, ◌∙◌, inl, inr, ℕ, zero, suc, ◌+◌, ◌<◌, ◌≤◌, List, [], ◌∷◌, ◌++◌, length, get_or, slice_get, true, Option, None, Some, subst, refl, sym, ap, arith}
use Rattle.std.specs.Prelude.{IfSome}
use Rattle.std.proofs.lemmas.Bool.{cases_lt}
use Rattle.iom_base.specs.declared.access.AccessKind.{AccessKind}
use Rattle.iom_table_survey.specs.Reaches.{frames_by, AddsReach}
use Rattle.iom_table_survey.specs.Rows.{GrowsBy, row_has, frame_place}
use Rattle.iom_tlb.specs.Places.{IsCachedAt, IsCached, HavePlaces}
use Rattle.iom_tlb.specs.Ways.{Ways}
use Rattle.iom_tlb.specs.declared.cached_page.CachedPage.{CachedPage}
use Rattle.iom_tlb.specs.declared.space.Space.{Space}
use Rattle.iom_device_dir.specs.declared.context.Context.{Context as DeviceContext}
use Rattle.iom_way_survey.specs.Found.{CachedLeadsTo, IsCachedIn, IsBeside}
use Rattle.iom_table_survey.specs.declared.reach.Reach.{Reach}
use Rattle.iom_table_survey.proofs.AddLemmas.{adds_same, adds_then, reach_same}

-- what is read at an index
pub at_get : {X : Type 0} (xs : List X) (k : ℕ) (x : X) → k < length xs → x ≡ get_or xs k x → slice_get xs k ≡ Some x
at_get [] k x low is = absurd (omega (arith, low))
at_get (a ∷ xs) zero x low is = ap (λ y. Some y) (sym is)
at_get (a ∷ xs) (suc k) x low is = at_get xs k x (omega (arith, low)) is

-- what is so of an element, is so of that which is found at its place
module _ {X : Type 0} (xs : List X) (k : ℕ) (x : X) (at : slice_get xs k ≡ Some x) where
  only : (y : X) → slice_get xs k ≡ Some y → y ≡ x
  only y here = let same : Some y ≡ Some x = sym here ∙ at in cc

  pub adds_there : (old new : List ℕ) (P : X → ℕ → Type 0) → GrowsBy old new (P x) → GrowsBy old new (λ f. (y : X) × (slice_get xs k ≡ Some y) × P y f)
  adds_there old new P adds = adds_same old new (P x) (λ f. (y : X) × (slice_get xs k ≡ Some y) × P y f) adds
      (λ f (y, here, p). subst (λ z. P z f) (only y here) p) (λ f p. (x, at, p))

  pub reach_there : (old new : Reach) (P : X → AccessKind → ℕ → Type 0) → AddsReach old new (P x) → AddsReach old new (λ kind f. (y : X) × (slice_get xs k ≡ Some y) × P y kind f)
  reach_there old new P adds = reach_same old new (P x) (λ kind f. (y : X) × (slice_get xs k ≡ Some y) × P y kind f) adds
      (λ kind f (y, here, p). subst (λ z. P z kind f) (only y here) p) (λ kind f p. (x, at, p))

-- an element that was pushed
pub push_get : {X : Type 0} (xs : List X) (last : X) (k : ℕ) (x : X) → slice_get (xs ++ last ∷ []) k ≡ Some x → (slice_get xs k ≡ Some x) ⊎ ((k ≡ length xs) × (last ≡ x))
push_get [] last zero x is = inr (refl, (let same : Some last ≡ Some x = is in cc))
push_get [] last (suc k) x is = inl is
push_get (a ∷ xs) last zero x is = inl is
push_get (a ∷ xs) last (suc k) x is = elim (push_get xs last k x is) [
  | inl here ↦ inl here
  | inr (end, same) ↦ inr (ap suc end, same)
]

pub get_low : {X : Type 0} (xs : List X) (k : ℕ) (x : X) → slice_get xs k ≡ Some x → k < length xs
get_low [] k x is = absurd (cc)
get_low (a ∷ xs) zero x is = omega arith
get_low (a ∷ xs) (suc k) x is = omega (arith, get_low xs k x is)

-- A LOOK THAT SEES MORE THAN IT NEEDS TO

-- what is so at least goes in, and what is so at most
pub record Between (old new : Reach) (Least Most : AccessKind → ℕ → Type 0) : Type 0 where
  pub unchanged : (kind : AccessKind) (f : ℕ) → row_has (frames_by old kind) f ≡ true → row_has (frames_by new kind) f ≡ true
  pub added : (kind : AccessKind) (f : ℕ) → Least kind f → row_has (frames_by new kind) f ≡ true
  pub sole : (kind : AccessKind) (f : ℕ) → row_has (frames_by new kind) f ≡ true → (row_has (frames_by old kind) f ≡ true) ⊎ ((g : ℕ) × Most kind g × (frame_place g ≡ frame_place f))

pub between_none : (reach : Reach) (L : ℕ → AccessKind → ℕ → Type 0) (Most : AccessKind → ℕ → Type 0) → Between reach reach (λ kind f. (j : ℕ) × (j < 0) × L j kind f) Most
between_none reach L Most = record { unchanged = λ kind f had. had; added = λ kind f (j, never, l). absurd (omega (arith, never)); sole = λ kind f had. inl had }

pub between_next : (old between new : Reach) (L : ℕ → AccessKind → ℕ → Type 0) (Most N : AccessKind → ℕ → Type 0) (k : ℕ) → Between old between (λ kind f. (j : ℕ) × (j < k) × L j kind f) Most
    → AddsReach between new N → ((kind : AccessKind) (f : ℕ) → L k kind f → N kind f) → ((kind : AccessKind) (f : ℕ) → N kind f → Most kind f)
    → Between old new (λ kind f. (j : ℕ) × (j < k + 1) × L j kind f) Most
between_next old between new L Most N k before here to from = record {
  unchanged = λ kind f had. (here kind).unchanged f (before.unchanged kind f had);
  added = λ kind f (j, low, l). at kind f j l (cases_lt j k) low;
  sole = λ kind f there. last kind f ((here kind).sole f there);
}
  where
    at : (kind : AccessKind) (f j : ℕ) → L j kind f → (j < k) ⊎ (k ≤ j) → j < k + 1 → row_has (frames_by new kind) f ≡ true
    at kind f j l (inl less) low = (here kind).unchanged f (before.added kind f (j, less, l))
    at kind f j l (inr more) low = let e : j ≡ k = omega (arith, more, low) in (here kind).added f (to kind f (subst (λ i. L i kind f) e l))

    last : (kind : AccessKind) (f : ℕ) → (row_has (frames_by between kind) f ≡ true) ⊎ ((g : ℕ) × N kind g × (frame_place g ≡ frame_place f))
        → (row_has (frames_by old kind) f ≡ true) ⊎ ((g : ℕ) × Most kind g × (frame_place g ≡ frame_place f))
    last kind f (inl had) = before.sole kind f had
    last kind f (inr (g, n, same)) = inr (g, from kind g n, same)

-- what stands at a place of the cache leads to the frame
abbrev pub StandsServing : List Ways → Space → ℕ → AccessKind → ℕ → Type 0
StandsServing sets own place kind frame = (cached : CachedPage) × IsCachedAt sets place cached × CachedLeadsTo own cached kind frame

pub stands_by : (sets : List Ways) (own : Space) (place : ℕ) (found : Option CachedPage) → ((cached : CachedPage) → IsCachedAt sets place cached → found ≡ Some cached)
    → (kind : AccessKind) (f : ℕ) → StandsServing sets own place kind f → (cached : CachedPage) × (found ≡ Some cached) × CachedLeadsTo own cached kind f
stands_by sets own place found stands kind f (cached, there, serves) = (cached, stands cached there, serves)

pub cached_by : (sets : List Ways) (own : Space) (found : Option CachedPage) → IfSome found (IsCached sets)
    → (kind : AccessKind) (f : ℕ) → (cached : CachedPage) × (found ≡ Some cached) × CachedLeadsTo own cached kind f → IsCachedIn sets own kind f
cached_by sets own found is kind f (cached, there, serves) = (cached, subst (λ (o : Option CachedPage). IfSome o (IsCached sets)) there is, serves)

pub between_all : (old new : Reach) (sets : List Ways) (own : Space) → HavePlaces sets
    → Between old new (λ kind f. (k : ℕ) × (k < 512) × StandsServing sets own k kind f) (IsCachedIn sets own) → AddsReach old new (IsCachedIn sets own)
between_all old new sets own places between kind = record {
  unchanged = between.unchanged kind;
  added = λ f (cached, is, serves). let (k, low, stands) = places cached is in between.added kind f (k, low, (cached, stands, serves));
  sole = between.sole kind;
}

-- THE CACHED CONTEXT, AND THE STORED ONE BESIDE IT

-- where both are the same one of them is enough, and what was found before has it
pub beside_adds : (P : Option DeviceContext → ℕ → Type 0) (Before : ℕ → Type 0) (cached stored beside : Option DeviceContext) (old between new : List ℕ) → ((f : ℕ) → P None f → ⊥)
    → ((f : ℕ) → P cached f → Before f) → IsBeside cached stored beside → GrowsBy old between Before → GrowsBy between new (P beside) → GrowsBy old new (λ f. Before f ⊎ P stored f)
beside_adds P Before cached stored beside old between new none has_it (inl same) first second = adds_then old between new Before (P stored) first (subst (λ o. GrowsBy between new (P o)) same second)
beside_adds P Before cached stored beside old between new none has_it (inr (nothing, same)) first second =
    adds_same old new (λ f. Before f ⊎ P beside f) (λ f. Before f ⊎ P stored f) (adds_then old between new Before (P beside) first second) to from
  where
    to : (f : ℕ) → Before f ⊎ P stored f → Before f ⊎ P beside f
    to f (inl it) = inl it
    to f (inr it) = inl (has_it f (subst (λ o. P o f) same it))

    from : (f : ℕ) → Before f ⊎ P beside f → Before f ⊎ P stored f
    from f (inl it) = inl it
    from f (inr it) = absurd (none f (subst (λ o. P o f) nothing it))

pub beside_reaches : (P : Option DeviceContext → AccessKind → ℕ → Type 0) (Before : AccessKind → ℕ → Type 0) (cached stored beside : Option DeviceContext) (old between new : Reach)
    → ((kind : AccessKind) (f : ℕ) → P None kind f → ⊥) → ((kind : AccessKind) (f : ℕ) → P cached kind f → Before kind f) → IsBeside cached stored beside
    → AddsReach old between Before → AddsReach between new (P beside) → AddsReach old new (λ kind f. Before kind f ⊎ P stored kind f)
beside_reaches P Before cached stored beside old between new none has_it is first second =
    λ kind. beside_adds (λ o. P o kind) (Before kind) cached stored beside (frames_by old kind) (frames_by between kind) (frames_by new kind) (none kind) (has_it kind) is (first kind) (second kind)

-- and what is looked at after both
pub adds_third : (old between new : List ℕ) (P Q R : ℕ → Type 0) → GrowsBy old between (λ f. P f ⊎ Q f) → GrowsBy between new R → GrowsBy old new (λ f. P f ⊎ (Q f ⊎ R f))
adds_third old between new P Q R two third =
    adds_same old new (λ f. (P f ⊎ Q f) ⊎ R f) (λ f. P f ⊎ (Q f ⊎ R f)) (adds_then old between new (λ f. P f ⊎ Q f) R two third) to from
  where
    to : (f : ℕ) → P f ⊎ (Q f ⊎ R f) → (P f ⊎ Q f) ⊎ R f
    to f (inl p) = inl (inl p)
    to f (inr (inl q)) = inl (inr q)
    to f (inr (inr r)) = inr r

    from : (f : ℕ) → (P f ⊎ Q f) ⊎ R f → P f ⊎ (Q f ⊎ R f)
    from f (inl (inl p)) = inl p
    from f (inl (inr q)) = inr (inl q)
    from f (inr r) = inr (inr r)

pub reach_third : (old between new : Reach) (P Q R : AccessKind → ℕ → Type 0) → AddsReach old between (λ kind f. P kind f ⊎ Q kind f) → AddsReach between new R
    → AddsReach old new (λ kind f. P kind f ⊎ (Q kind f ⊎ R kind f))
reach_third old between new P Q R two third = λ kind. adds_third (frames_by old kind) (frames_by between kind) (frames_by new kind) (P kind) (Q kind) (R kind) (two kind) (third kind)
