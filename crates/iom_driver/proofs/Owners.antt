-- Some frames become an owner's: whose they are, their bytes, and what stays.
use Rattle.std.proofs.Common.{suc, zero, ◌≡◌, ◌≢◌, ◌<◌, ◌⊎◌, inl, inr, ◌∙◌, ℕ, List, [], ◌∷◌, ◌++◌, length, Option, Some, slice_get, slice_set, get_or, refl, sym, subst, arith, All, Contains}
use Rattle.std.proofs.lemmas.List.{length-set}
use Rattle.std.proofs.lemmas.Bool.Decides.{eqb_tells}
use Rattle.iom_phys_mem.specs.Words.{zeroed}
use Rattle.iom_base.specs.declared.owner.Owner.{Owner}
use Rattle.iom_driver.specs.Choices.{owned_by, cleared}
use Rattle.iom_driver.proofs.Lists.{get_set_same, get_set_other, get_within}

-- the number is none of the list
abbrev pub NotAmong : ℕ → List ℕ → Type 0
NotAmong n [] = Unit {0}
NotAmong n (f ∷ fs) = (n ≢ f) × NotAmong n fs

-- the number is one of the list
abbrev pub Among : ℕ → List ℕ → Type 0
Among n [] = ⊥
Among n (f ∷ fs) = (n ≡ f) ⊎ Among n fs

pub all_head : (P : ℕ → Type 0) (f : ℕ) (fs : List ℕ) → All P (f ∷ fs) → P f
all_head P f fs all = all 0 f (omega arith)

pub all_tail : (P : ℕ → Type 0) (f : ℕ) (fs : List ℕ) → All P (f ∷ fs) → All P fs
all_tail P f fs all = λ k d lt. all (suc k) d (omega arith)

-- what has a fact that no item of the list has is none of them
pub not_among : (P : ℕ → Type 0) (n : ℕ) (fs : List ℕ) → All P fs → (P n → ⊥) → NotAmong n fs
not_among P n [] all without = tt
not_among P n (f ∷ fs) all without = ((λ same. without (subst P (sym same) (all_head P f fs all))), not_among P n fs (all_tail P f fs all) without)

pub among_all : (P : ℕ → Type 0) (n : ℕ) (fs : List ℕ) → All P fs → Among n fs → P n
among_all P n [] all here = absurd here
among_all P n (f ∷ fs) all (inl same) = subst P (sym same) (all_head P f fs all)
among_all P n (f ∷ fs) all (inr later) = among_all P n fs (all_tail P f fs all) later

among_at : (n : ℕ) (fs : List ℕ) (k : ℕ) → k < length fs → get_or fs k n ≡ n → Among n fs
among_at n [] k lt is = absurd (omega arith)
among_at n (f ∷ fs) zero lt is = inl (sym is)
among_at n (f ∷ fs) (suc k) lt is = inr (among_at n fs k (omega arith) is)

-- an item of the list is one of it
pub among_get : (fs : List ℕ) (k d : ℕ) → k < length fs → Among (get_or fs k d) fs
among_get [] k d lt = absurd (omega arith)
among_get (f ∷ fs) zero d lt = inl refl
among_get (f ∷ fs) (suc k) d lt = inr (among_get fs k d (omega arith))

pub among_contained : (n : ℕ) (fs : List ℕ) → Contains fs n → Among n fs
among_contained n fs here = among_at n fs here.0 here.1 here.2

pub contained_among : (n : ℕ) (fs : List ℕ) → Among n fs → Contains fs n
contained_among n [] here = absurd here
contained_among n (f ∷ fs) (inl same) = (0, omega arith, sym same)
contained_among n (f ∷ fs) (inr later) = let rest = contained_among n fs later in (suc rest.0, (let lt = rest.1 in omega (arith, lt)), rest.2)

pub all_among : (P : ℕ → Type 0) (fs : List ℕ) → ((f : ℕ) → Among f fs → P f) → All P fs
all_among P fs holds = λ k d lt. holds (get_or fs k d) (among_get fs k d lt)

-- a number among two lists, one after the other
pub among_left : (n : ℕ) (fs gs : List ℕ) → Among n fs → Among n (fs ++ gs)
among_left n [] gs here = absurd here
among_left n (f ∷ fs) gs (inl same) = inl same
among_left n (f ∷ fs) gs (inr later) = inr (among_left n fs gs later)

pub among_right : (n : ℕ) (fs gs : List ℕ) → Among n gs → Among n (fs ++ gs)
among_right n [] gs here = here
among_right n (f ∷ fs) gs here = inr (among_right n fs gs here)

pub among_either : (n : ℕ) (fs gs : List ℕ) → Among n (fs ++ gs) → Among n fs ⊎ Among n gs
among_either n [] gs here = inr here
among_either n (f ∷ fs) gs (inl same) = inl (inl same)
among_either n (f ∷ fs) gs (inr later) = elim (among_either n fs gs later) [ inl one ↦ inl (inr one) | inr other ↦ inr other ]

pub among_not : (n : ℕ) (fs : List ℕ) → NotAmong n fs → Among n fs → ⊥
among_not n [] apart here = here
among_not n (f ∷ fs) apart (inl same) = apart.0 same
among_not n (f ∷ fs) apart (inr later) = among_not n fs apart.1 later

pub not_among_left : (n : ℕ) (fs gs : List ℕ) → NotAmong n (fs ++ gs) → NotAmong n fs
not_among_left n [] gs apart = tt
not_among_left n (f ∷ fs) gs apart = (apart.0, not_among_left n fs gs apart.1)

pub not_among_right : (n : ℕ) (fs gs : List ℕ) → NotAmong n (fs ++ gs) → NotAmong n gs
not_among_right n [] gs apart = apart
not_among_right n (f ∷ fs) gs apart = not_among_right n fs gs apart.1

-- two lists that have no number in common
pub apart_either : (fs gs : List ℕ) → ((f : ℕ) → Among f gs → NotAmong f fs) → (n : ℕ) → Among n fs → NotAmong n gs
apart_either fs gs apart n here =
    not_among (λ f. Among f fs → ⊥) n gs (all_among (λ f. Among f fs → ⊥) gs (λ f other. among_not f fs (apart f other))) (λ none. none here)

pub length-owned_by : (owner : Owner) (fs : List ℕ) (owners : List (Option Owner)) → length (owned_by owner fs owners) ≡ length owners
length-owned_by owner [] owners = refl
length-owned_by owner (f ∷ fs) owners = length-owned_by owner fs (slice_set owners f (Some owner)) ∙ length-set owners f (Some owner)

pub length-cleared : (fs : List ℕ) (memory : List (List ℕ)) → length (cleared fs memory) ≡ length memory
length-cleared [] memory = refl
length-cleared (f ∷ fs) memory = length-cleared fs (slice_set memory f zeroed) ∙ length-set memory f zeroed

-- another frame keeps its owner, and its bytes
pub mark_stays : (owner : Owner) (n : ℕ) (fs : List ℕ) (owners : List (Option Owner)) → NotAmong n fs → slice_get (owned_by owner fs owners) n ≡ slice_get owners n
mark_stays owner n [] owners other = refl
mark_stays owner n (f ∷ fs) owners other = mark_stays owner n fs (slice_set owners f (Some owner)) other.1 ∙ get_set_other owners f n (Some owner) other.0

pub bytes_stay : (n : ℕ) (fs : List ℕ) (memory : List (List ℕ)) → NotAmong n fs → slice_get (cleared fs memory) n ≡ slice_get memory n
bytes_stay n [] memory other = refl
bytes_stay n (f ∷ fs) memory other = bytes_stay n fs (slice_set memory f zeroed) other.1 ∙ get_set_other memory f n zeroed other.0

-- a frame that is the owner's, or is one of the list, is the owner's afterwards
pub marked_still : (owner : Owner) (n : ℕ) (fs : List ℕ) (owners : List (Option Owner)) → slice_get owners n ≡ Some (Some owner) → slice_get (owned_by owner fs owners) n ≡ Some (Some owner)
marked_still owner n [] owners own = own
marked_still owner n (f ∷ fs) owners own =
    marked_still owner n fs (slice_set owners f (Some owner))
    (elim (eqb_tells n f) [
      | inl e ↦ subst (λ k. slice_get (slice_set owners f (Some owner)) k ≡ Some (Some owner)) (sym e.1)
          (get_set_same owners f (Some owner) (subst (λ k. k < length owners) e.1 (get_within owners n (Some owner) own)))
      | inr ne ↦ get_set_other owners f n (Some owner) ne.1 ∙ own
    ])

pub marked_among : (owner : Owner) (n : ℕ) (fs : List ℕ) (owners : List (Option Owner)) → All (λ f. f < length owners) fs → Among n fs → slice_get (owned_by owner fs owners) n ≡ Some (Some owner)
marked_among owner n [] owners inside here = absurd here
marked_among owner n (f ∷ fs) owners inside (inl same) =
    marked_still owner n fs (slice_set owners f (Some owner))
    (subst (λ k. slice_get (slice_set owners f (Some owner)) k ≡ Some (Some owner)) (sym same) (get_set_same owners f (Some owner) (all_head (λ g. g < length owners) f fs inside)))
marked_among owner n (f ∷ fs) owners inside (inr later) =
    marked_among owner n fs (slice_set owners f (Some owner))
    (λ k d lt. subst (λ m. get_or fs k d < m) (sym (length-set owners f (Some owner))) (all_tail (λ g. g < length owners) f fs inside k d lt)) later

pub zero_still : (n : ℕ) (fs : List ℕ) (memory : List (List ℕ)) → slice_get memory n ≡ Some zeroed → slice_get (cleared fs memory) n ≡ Some zeroed
zero_still n [] memory own = own
zero_still n (f ∷ fs) memory own =
    zero_still n fs (slice_set memory f zeroed)
    (elim (eqb_tells n f) [
      | inl e ↦ subst (λ k. slice_get (slice_set memory f zeroed) k ≡ Some zeroed) (sym e.1)
          (get_set_same memory f zeroed (subst (λ k. k < length memory) e.1 (get_within memory n zeroed own)))
      | inr ne ↦ get_set_other memory f n zeroed ne.1 ∙ own
    ])

pub zero_among : (fs : List ℕ) (memory : List (List ℕ)) → All (λ f. f < length memory) fs → (n : ℕ) → Among n fs → slice_get (cleared fs memory) n ≡ Some zeroed
zero_among [] memory inside n here = absurd here
zero_among (f ∷ fs) memory inside n (inl same) =
    zero_still n fs (slice_set memory f zeroed)
    (subst (λ k. slice_get (slice_set memory f zeroed) k ≡ Some zeroed) (sym same) (get_set_same memory f zeroed (all_head (λ g. g < length memory) f fs inside)))
zero_among (f ∷ fs) memory inside n (inr later) =
    zero_among fs (slice_set memory f zeroed)
    (λ k d lt. subst (λ m. get_or fs k d < m) (sym (length-set memory f zeroed)) (all_tail (λ g. g < length memory) f fs inside k d lt)) n later

-- frames that are cleared one after another
pub cleared_append : (fs gs : List ℕ) (memory : List (List ℕ)) → cleared (fs ++ gs) memory ≡ cleared gs (cleared fs memory)
cleared_append [] gs memory = refl
cleared_append (f ∷ fs) gs memory = cleared_append fs gs (slice_set memory f zeroed)

-- a frame that isn't contained is none of them
pub not_contained : (n : ℕ) (fs : List ℕ) → (Contains fs n → ⊥) → NotAmong n fs
not_contained n [] without = tt
not_contained n (f ∷ fs) without = ((λ same. without (0, omega arith, sym same)), not_contained n fs (λ (here : Contains fs n). without (suc here.0, (let lt = here.1 in omega (arith, lt)), here.2)))
