-- Room for one more pointer, and one of each key.
use Rattle.std.proofs.Common.{◌≡◌, ◌≢◌, ◌⊎◌, inl, inr, ◌∙◌, ◌&&◌, ◌==◌, Bool, true, false, not, List, [], length, filter, Contains, if◌then◌else◌, sym, ap, subst}
use Rattle.std.proofs.lemmas.Bool.{eq-eqb, ne_eqb, false≢true}
use Rattle.std.proofs.lemmas.List.Elements.{All-contains, Contains-push_cases, filter_passes}
use Rattle.iom_hardware_ways.proofs.ListLemmas.{filter_among, in_none}
use Rattle.iom_pointers.specs.Pointers.{HasOneOfEachKey, has_key_of, others_of, pointer_limit, with_pointer, with_room}
use Rattle.iom_pointers.specs.declared.pointer.Pointer.{Pointer as Kept}
use Rattle.iom_tlb.specs.contracts.space.SpaceEq.TheImpl.Laws as space_eq
use Rattle.iom_tlb.specs.contracts.space.SpacePartialEq.TheImpl as spaces

-- where there is none all go
pub room_made : (kept : List Kept) → length kept ≡ pointer_limit → with_room kept ≡ []
room_made kept full = ap (λ b. if b then [] else kept) (eq-eqb (length kept) pointer_limit full)

-- else they stay
pub room_there : (kept : List Kept) → length kept ≢ pointer_limit → with_room kept ≡ kept
room_there kept free = ap (λ b. if b then [] else kept) (ne_eqb (length kept) pointer_limit free)

-- none is new
room_among : (kept : List Kept) (own : Kept) → Contains (with_room kept) own → Contains kept own
room_among kept own = by (length kept == pointer_limit)
  where
    by : (full : Bool) → Contains (if full then [] else kept) own → Contains kept own
    by true there = absurd (in_none own there)
    by false there = there

-- OF EACH KEY THERE IS ONE

-- also where some are taken out
pub one_each_without : (test : Kept → Bool) (kept : List Kept) → HasOneOfEachKey kept → HasOneOfEachKey (filter test kept)
one_each_without test kept each one other a b = each one other (filter_among test kept one a) (filter_among test kept other b)

-- no other pointer has the key
no_other : (pointer : Kept) (kept : List Kept) (other : Kept) → Contains (others_of pointer kept) other → pointer.space ≡ other.space → pointer.level ≡ other.level
    → pointer.prefix ≡ other.prefix → ⊥
no_other pointer kept other there space level prefix = false≢true (sym (ap not has) ∙ passes)
  where
    passes : not (has_key_of pointer other) ≡ true
    passes = All-contains (λ (x : Kept). not (has_key_of pointer x) ≡ true) (others_of pointer kept) other (filter_passes (λ (x : Kept). not (has_key_of pointer x)) kept) there

    has : has_key_of pointer other ≡ true
    has =
        ap (λ b. b && ((other.level == pointer.level) && (other.prefix == pointer.prefix)))
        (subst (λ s. spaces.ghosts.eq other.space s ≡ true) (sym space) (space_eq.laws-law.refl other.space))
        ∙ ap (λ b. b && (other.prefix == pointer.prefix)) (eq-eqb other.level pointer.level (sym level))
        ∙ eq-eqb other.prefix pointer.prefix (sym prefix)

-- also with one more
pub one_each_with : (pointer : Kept) (kept : List Kept) → HasOneOfEachKey kept → HasOneOfEachKey (with_pointer pointer kept)
one_each_with pointer kept each one other a b space level prefix =
    by (Contains-push_cases (with_room (others_of pointer kept)) pointer one a) (Contains-push_cases (with_room (others_of pointer kept)) pointer other b)
  where
    by : Contains (with_room (others_of pointer kept)) one ⊎ (pointer ≡ one) → Contains (with_room (others_of pointer kept)) other ⊎ (pointer ≡ other) → one ≡ other
    by (inl p) (inl q) =
        one_each_without (λ (x : Kept). not (has_key_of pointer x)) kept each one other (room_among (others_of pointer kept) one p) (room_among (others_of pointer kept) other q) space level prefix
    by (inl p) (inr q) =
        absurd (no_other pointer kept one (room_among (others_of pointer kept) one p) (ap (λ (x : Kept). x.space) q ∙ sym space) (ap (λ (x : Kept). x.level) q ∙ sym level)
        (ap (λ (x : Kept). x.prefix) q ∙ sym prefix))
    by (inr p) (inl q) =
        absurd (no_other pointer kept other (room_among (others_of pointer kept) other q) (ap (λ (x : Kept). x.space) p ∙ space) (ap (λ (x : Kept). x.level) p ∙ level)
        (ap (λ (x : Kept). x.prefix) p ∙ prefix))
    by (inr p) (inr q) = sym p ∙ q
