-- What becomes of one block device where one of them changes.
use Rattle.std.proofs.Common.{◌≡◌, ◌≢◌, ◌⊎◌, inl, inr, ℕ, ◌==◌, Bool, true, false, List, [], ◌∷◌, ◌++◌, Option, Some, None, if◌then◌else◌, refl, sym, ap, ◌∙◌, subst}
use Rattle.std.proofs.lemmas.Bool.{cases_eq, eqb-true, ne_eqb}
use Rattle.iom_virtio_blk.specs.Steps.{Device}
use Rattle.iom_block_devices.specs.Changes.{block_with, with_block, ChangesIfThere, ChangesOne}
use Rattle.iom_block_devices.specs.Shown.{ShownBlock}

abbrev pub as_device : ShownBlock → Device → ShownBlock
as_device block after = record block { device = after }

abbrev as_if : Device → Option ShownBlock → Option ShownBlock
as_if after None = None
as_if after (Some block) = Some (as_device block after)

pub there_still : (blocks : List ShownBlock) (id : ℕ) (after : Device) (block : ShownBlock)
    → block_with blocks id ≡ Some block → block_with (with_block blocks id after) id ≡ Some (as_device block after)
there_still [] id after block there = ap (as_if after) there
there_still (one ∷ others) id after block there = by (one.id == id) refl (there_still others id after block)
  where
    by : (c : Bool) → (one.id == id) ≡ c → (block_with others id ≡ Some block → block_with (with_block others id after) id ≡ Some (as_device block after))
        → block_with (with_block (one ∷ others) id after) id ≡ Some (as_device block after)
    by true e more =
        ap (λ c. block_with (if c then as_device one after ∷ others else one ∷ with_block others id after) id) e
        ∙ ap (λ c. if c then Some (as_device one after) else block_with others id) e
        ∙ ap (as_if after) (sym (ap (λ c. if c then Some one else block_with others id) e) ∙ there)
    by false e more =
        ap (λ c. block_with (if c then as_device one after ∷ others else one ∷ with_block others id after) id) e
        ∙ ap (λ c. if c then Some one else block_with (with_block others id after) id) e
        ∙ more (sym (ap (λ c. if c then Some one else block_with others id) e) ∙ there)

pub other_stays : (blocks : List ShownBlock) (id other : ℕ) (after : Device) → other ≢ id → block_with (with_block blocks other after) id ≡ block_with blocks id
other_stays [] id other after differ = refl
other_stays (one ∷ others) id other after differ = by (one.id == other) refl (other_stays others id other after differ)
  where
    by : (c : Bool) → (one.id == other) ≡ c → block_with (with_block others other after) id ≡ block_with others id
        → block_with (with_block (one ∷ others) other after) id ≡ block_with (one ∷ others) id
    by true e more =
        let none : (one.id == id) ≡ false = ne_eqb one.id id (λ same. differ (sym (eqb-true one.id other e) ∙ same)) in
        ap (λ c. block_with (if c then as_device one after ∷ others else one ∷ with_block others other after) id) e
        ∙ ap (λ c. if c then Some (as_device one after) else block_with others id) none
        ∙ sym (ap (λ c. if c then Some one else block_with others id) none)
    by false e more =
        ap (λ c. block_with (if c then as_device one after ∷ others else one ∷ with_block others other after) id) e
        ∙ ap (λ o. if one.id == id then Some one else o) more

-- one that was there is there still behind which others come
pub there_before : (blocks more : List ShownBlock) (id : ℕ) (block : ShownBlock) → block_with blocks id ≡ Some block → block_with (blocks ++ more) id ≡ Some block
there_before [] more id block there = absurd (apart there)
  where
    IsNone : Option ShownBlock → Type 0
    IsNone None = Unit {0}
    IsNone (Some b) = ⊥

    apart : None ≡ Some block → ⊥
    apart e = subst IsNone e tt
there_before (one ∷ others) more id block there = by (one.id == id) refl (there_before others more id block)
  where
    by : (c : Bool) → (one.id == id) ≡ c → (block_with others id ≡ Some block → block_with (others ++ more) id ≡ Some block)
        → block_with ((one ∷ others) ++ more) id ≡ Some block
    by true e later =
        ap (λ c. if c then Some one else block_with (others ++ more) id) e ∙ sym (ap (λ c. if c then Some one else block_with others id) e) ∙ there
    by false e later =
        ap (λ c. if c then Some one else block_with (others ++ more) id) e
        ∙ later (sym (ap (λ c. if c then Some one else block_with others id) e) ∙ there)

-- this one changed, or it is as it was
pub record IsChanged (How : Device → Device → Type 0) (new : List ShownBlock) (id other : ℕ) (block : ShownBlock) : Type 0 where
  pub same : other ≡ id
  pub after : Device
  pub changed : How block.device after
  pub there : block_with new id ≡ Some (as_device block after)

pub one_changes : (How : Device → Device → Type 0) (old new : List ShownBlock) (id other : ℕ) (block : ShownBlock)
    → block_with old id ≡ Some block → ChangesOne How old other new
    → ((other ≢ id) × (block_with new id ≡ Some block)) ⊎ IsChanged How new id other block
one_changes How old new id other block there changes = by (cases_eq other id)
  where
    at_other : (o : Option ShownBlock) → other ≢ id → ChangesIfThere o How old other new → block_with new id ≡ Some block
    at_other None differ same = ap (λ blocks. block_with blocks id) same ∙ there
    at_other (Some found) differ (after, how, is) = ap (λ blocks. block_with blocks id) is ∙ other_stays old id other after differ ∙ there

    here : ChangesIfThere (Some block) How old id new → other ≡ id → IsChanged How new id other block
    here (after, how, is) same =
        record { same = same; after = after; changed = how; there = ap (λ blocks. block_with blocks id) is ∙ there_still old id after block there }

    by : (other ≡ id) ⊎ (other ≡ id → ⊥) → ((other ≢ id) × (block_with new id ≡ Some block)) ⊎ IsChanged How new id other block
    by (inl same) =
        inr (here (subst (λ (o : Option ShownBlock). ChangesIfThere o How old id new) there (subst (λ (n : ℕ). ChangesOne How old n new) same changes)) same)
    by (inr differ) = inl (differ, at_other (block_with old other) differ changes)
