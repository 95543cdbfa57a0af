-- Trees that stay, and trees of a zeroed frame.
use Rattle.std.proofs.Common.{◌≡◌, ◌+◌, ◌*◌, ◌/◌, ◌%◌, ◌<◌, ◌++◌, ◌∙◌, ℕ, Bool, true, false, List, [], ◌∷◌, slice_get, Option, Some, None, refl, sym, ap, subst, arith}
use Rattle.iom_base.specs.declared.size.Size.{Size}
use Rattle.iom_base.specs.declared.size.Size.TheVariants.{Sv39, Sv48}
use Rattle.iom_base.specs.Sizes.{levels_of}
use Rattle.iom_stage_walk.specs.Entries.{Entries, entries, slot}
use Rattle.iom_stage_walk.specs.declared.entry.Entry.TheVariants.{Invalid}
use Rattle.iom_page_table.specs.Trees.{InShape, IsTableAt, IsUpper, IsLowest, IsTree, IsFrameOf}
use Rattle.iom_page_table.specs.declared.leaf.PageLeaf.{PageLeaf}
use Rattle.std.specs.Prelude.{◌↔◌, if◌then◌else◌}
use Rattle.iom_phys_mem.specs.Words.{zeroed}
use Rattle.iom_stage_walk.specs.Paths.{path_of}
use Rattle.iom_stage_walk.proofs.Alike.{same_entry}
use Rattle.iom_page_table.specs.Laws.{SameTree}
use Rattle.iom_page_table.specs.Leaves.{leaf_of, is_translated}
use Rattle.iom_page_table.specs.Trees.{shape_of}
use Rattle.iom_page_table.proofs.Prefixes.{alike_table, no_leaf}
use Rattle.iom_page_table.proofs.Trees.{AlikeOn, alike_in, alike_slot_was, alike_slot_stays, alike_tree, alike_leaves}
use Rattle.iom_page_table.proofs.Pages.{path_shaped}
use Rattle.iom_page_table.proofs.Words.{zero_entry}

-- memories that are alike on the frames of the tables are alike on their entries
alike_frames : (size : Size) (old new : List (List ℕ)) (root : ℕ) → ((f : ℕ) → IsFrameOf (shape_of size) (entries old) root f → slice_get new f ≡ slice_get old f) → AlikeOn (shape_of size) (entries old) (entries new) root
alike_frames size old new root same = λ p i s at. same_entry old new s (same (s / 512) (p, i, s, at, refl))

pub unchanged : (size : Size) (old new : List (List ℕ)) (root : ℕ) → IsTree (shape_of size) (entries old) root → ((f : ℕ) → IsFrameOf (shape_of size) (entries old) root f → slice_get new f ≡ slice_get old f) → SameTree size old new root
unchanged size old new root tree same =
    let on = alike_frames size old new root same in
    record {
      tree = alike_tree (shape_of size) (entries old) (entries new) root on tree;
      tables = λ f. (λ h. (h.0, h.1, h.2, alike_slot_was (shape_of size) (entries old) (entries new) root on h.0 h.1 h.2 h.3, h.4), λ h. (h.0, h.1, h.2, alike_slot_stays (shape_of size) (entries old) (entries new) root on h.0 h.1 h.2 h.3, h.4));
      leaves = λ page. ap (λ x. if is_translated (levels_of size) page then x else None) (alike_leaves (shape_of size) (entries old) (entries new) root on (path_of (shape_of size) page) (path_shaped size page));
      keeps = λ prefix table inside at.
          alike_table (entries old) (entries new) root prefix table (alike_in (shape_of size) (entries old) (entries new) root prefix on inside prefix [] root refl refl) at;
    }

only_root : (e : Entries) (f w : ℕ) (ws p : List ℕ) (i t : ℕ) → ((j : ℕ) → j < w → e (slot f j) ≡ Invalid) → InShape (w ∷ ws) (p ++ i ∷ []) → IsTableAt e f p t → (p ≡ []) × (t ≡ f) × (i < w)
only_root e f w ws [] i t none inside tab = (refl, tab, inside.0)
only_root e f w ws (x ∷ p) i t none inside tab = let z = none x inside.0 in let no : ⊥ = cc (z, tab.1) in absurd no

same_index : (f i j : ℕ) → slot f i ≡ slot f j → i ≡ j
same_index f i j e = omega (arith, e)

-- a root whose entries lead nowhere is a tree
pub root_tree : (e : Entries) (f w : ℕ) (ws : List ℕ) → ((j : ℕ) → j < w → e (slot f j) ≡ Invalid) → IsTree (w ∷ ws) e f
root_tree e f w ws none =
    record {
      apart = λ p q i j s a b.
          let x = only_root e f w ws p i a.0 none a.1 a.2 in
          let y = only_root e f w ws q j b.0 none b.1 b.2 in
          (x.0 ∙ sym y.0, same_index f i j (ap (λ t. slot t i) (sym x.1) ∙ sym a.3 ∙ b.3 ∙ ap (λ t. slot t j) y.1));
      upper = λ p i s a lt. let x = only_root e f w ws p i a.0 none a.1 a.2 in subst IsUpper (sym (ap e (a.3 ∙ ap (λ t. slot t i) x.1) ∙ none i x.2)) tt;
      lowest = λ p i s a lt. let x = only_root e f w ws p i a.0 none a.1 a.2 in subst IsLowest (sym (ap e (a.3 ∙ ap (λ t. slot t i) x.1) ∙ none i x.2)) tt;
    }

-- the tables under a zeroed frame are that frame alone
zeroed_alone : (ws : List ℕ) (frames : List (List ℕ)) (root : ℕ) → slice_get frames root ≡ Some zeroed → (f : ℕ) → IsFrameOf (512 ∷ ws) (entries frames) root f ↔ (f ≡ root)
zeroed_alone ws frames root here f =
    let none = λ (j : ℕ) (lt : j < 512). zero_entry frames root j here lt in (
      λ h.
          let x = only_root (entries frames) root 512 ws h.0 h.1 h.3.0 none h.3.1 h.3.2 in
          let small = x.2 in
          let at : h.2 ≡ 512 * root + h.1 = h.3.3 ∙ ap (λ t. slot t h.1) x.1 in
          h.4 ∙ (let k : h.2 / 512 ≡ root = omega (arith, at, small) in k),
      λ e. ([], 0, slot root 0, (root, (omega arith, tt), refl, refl), e ∙ (let k : root ≡ (512 * root + 0) / 512 = omega arith in k)),
    )

pub zeroed_frames : (size : Size) (frames : List (List ℕ)) (root : ℕ) → slice_get frames root ≡ Some zeroed → (f : ℕ) → IsFrameOf (shape_of size) (entries frames) root f ↔ (f ≡ root)
zeroed_frames Sv39 frames root here f = zeroed_alone (512 ∷ 512 ∷ []) frames root here f
zeroed_frames Sv48 frames root here f = zeroed_alone (512 ∷ 512 ∷ 512 ∷ []) frames root here f

-- and they are a tree
pub zeroed_root : (size : Size) (frames : List (List ℕ)) (root : ℕ) → slice_get frames root ≡ Some zeroed → IsTree (shape_of size) (entries frames) root
zeroed_root Sv39 frames root here = root_tree (entries frames) root 512 (512 ∷ 512 ∷ []) (λ j lt. zero_entry frames root j here lt)
zeroed_root Sv48 frames root here = root_tree (entries frames) root 512 (512 ∷ 512 ∷ 512 ∷ []) (λ j lt. zero_entry frames root j here lt)

both_none : (b : Bool) (x : Option PageLeaf) → x ≡ None → (if b then x else None) ≡ None
both_none true x h = h
both_none false x h = refl

pub zeroed_leaves : (size : Size) (frames : List (List ℕ)) (root : ℕ) → slice_get frames root ≡ Some zeroed → (page : ℕ) → leaf_of (levels_of size) frames root page ≡ None
zeroed_leaves Sv39 frames root here page =
    both_none (is_translated 3 page) _ (no_leaf (entries frames) root [] root (page / 262144 % 512) (page / 512 % 512 ∷ page / 1 % 512 ∷ []) refl (zero_entry frames root (page / 262144 % 512) here (omega arith)))
zeroed_leaves Sv48 frames root here page =
    both_none (is_translated 4 page) _ (no_leaf (entries frames) root [] root (page / 134217728 % 512) (page / 262144 % 512 ∷ page / 512 % 512 ∷ page / 1 % 512 ∷ []) refl (zero_entry frames root (page / 134217728 % 512) here (omega arith)))
