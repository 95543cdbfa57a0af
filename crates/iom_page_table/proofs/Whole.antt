-- What mapping and unmapping a page of Sv39 do to all pages and all frames.
use Rattle.std.proofs.Common.{◌≡◌, ◌+◌, ◌*◌, ◌/◌, ◌%◌, ◌^◌, ◌<◌, ◌++◌, ◌∙◌, ◌⊎◌, inl, inr, ℕ, true, false, List, [], ◌∷◌, length, slice_get, slice_index, Option, Some, None, refl, sym, ap, subst, arith}
use Rattle.iom_base.specs.declared.rights.Rights.{Rights}
use Rattle.iom_base.specs.declared.size.Size.{Size}
use Rattle.iom_base.specs.Sizes.{levels_of, page_limit_of}
use Rattle.iom_stage_walk.specs.Entries.{entries, slot}
use Rattle.iom_stage_walk.specs.declared.entry.Entry.{Entry}
use Rattle.iom_stage_walk.specs.declared.entry.Entry.TheVariants.{Outside, Invalid, Pointer, Leaf}
use Rattle.iom_page_table.specs.Leaves.{leaf_here, leaf_under}
use Rattle.iom_page_table.specs.Trees.{IsTableAt, IsSlotAt, IsLowest, IsTree, IsFrameOf, IsLastEntry}
use Rattle.iom_page_table.specs.Building.{InFrames, Puts, PutsWord, Built, FillsAlong}
use Rattle.iom_page_table.specs.declared.leaf.PageLeaf.{PageLeaf}
use Rattle.std.specs.Prelude.{◌↔◌, ◌==◌, is_some, if◌then◌else◌}
use Rattle.std.specs.List.{Contains}
use Rattle.std.proofs.lemmas.List.{get_or_default, take_all}
use Rattle.iom_stage_walk.specs.Paths.{path_of}
use Rattle.iom_page_table.specs.Leaves.{leaf_of}
use Rattle.iom_page_table.specs.Trees.{shape_of}
use Rattle.iom_page_table.proofs.Mapping.{Sets, sets, no_table, last_entry, is_last_entry, last_table, whole_table, lowest_inside}
use Rattle.iom_page_table.proofs.Steps.{fills_next}
use Rattle.iom_page_table.proofs.Words.{inside_of}
use Rattle.iom_page_table.proofs.Prefixes.{leaf_below}
use Rattle.iom_page_table.proofs.Pages.{is_page, path_shaped, path_long, leaves_after, translated_low, translated_leaf}

-- a page's indices: those above the last level, and the last
abbrev pub Splits : Size → ℕ → List ℕ → Type 0
Splits size page upper = upper ++ page % 512 ∷ [] ≡ path_of (shape_of size) page

-- the entry of a page at the last level of a tree lies in memory
pub entry_inside : (size : Size) (frames : List (List ℕ)) (root page table : ℕ) (upper : List ℕ) → IsTree (shape_of size) (entries frames) root → Splits size page upper → IsTableAt (entries frames) root upper table → slot table (page % 512) / 512 < length frames
entry_inside size frames root page table upper tree splits at =
    let p = is_page size page (page % 512) upper splits in
    inside_of frames (slot table (page % 512)) (lowest_inside (entries frames (slot table (page % 512))) (tree.lowest upper (page % 512) (slot table (page % 512)) (table, p.inside, at, refl) p.long))

-- a put at the last level of a page
pub sets_page : (size : Size) (old new : List (List ℕ)) (root page table : ℕ) (upper : List ℕ) (x : Entry) → IsTree (shape_of size) (entries old) root → Splits size page upper → IsTableAt (entries old) root upper table
    → Puts old new (slot table (page % 512)) x → IsLowest x → Sets (shape_of size) old new root (path_of (shape_of size) page) x
sets_page size old new root page table upper x tree splits at put low =
    subst (λ path. Sets (shape_of size) old new root path x) splits (sets (shape_of size) old new root upper (page % 512) table x tree (is_page size page (page % 512) upper splits) at put low)

-- the frames of the tables stay
pub same_frames : (shape : List ℕ) (old new : List (List ℕ)) (root : ℕ) (path : List ℕ) (x : Entry) → Sets shape old new root path x → (f : ℕ) → IsFrameOf shape (entries new) root f ↔ IsFrameOf shape (entries old) root f
same_frames shape old new root path x s f = (λ h. (h.0, h.1, h.2, s.was h.0 h.1 h.2 h.3, h.4), λ h. (h.0, h.1, h.2, s.unchanged h.0 h.1 h.2 h.3, h.4))

module _ (size : Size) (frames : List (List ℕ)) (root page : ℕ) (upper : List ℕ) (splits : Splits size page upper) where
  -- the number of the page's entry at the last level
  pub entry_number : (table s : ℕ) → IsTableAt (entries frames) root upper table → IsLastEntry (entries frames) root (path_of (shape_of size) page) s → s ≡ slot table (page % 512)
  entry_number table s at last = last_entry (entries frames) root upper (page % 512) table s at (subst (λ path. IsLastEntry (entries frames) root path s) (sym splits) last)

  pub is_entry : (table : ℕ) → IsTableAt (entries frames) root upper table → IsLastEntry (entries frames) root (path_of (shape_of size) page) (slot table (page % 512))
  is_entry table at = subst (λ path. IsLastEntry (entries frames) root path (slot table (page % 512))) splits (is_last_entry (entries frames) root upper (page % 512) table at)

  pub no_entry : ((table : ℕ) → IsTableAt (entries frames) root upper table → ⊥) → (s : ℕ) → IsLastEntry (entries frames) root (path_of (shape_of size) page) s → ⊥
  no_entry none s last =
      let found = last_table (entries frames) root upper (page % 512) s (subst (λ path. IsLastEntry (entries frames) root path s) (sym splits) last) in
      none found.0 found.1

  -- a page without a last table isn't mapped
  pub not_mapped : IsTree (shape_of size) (entries frames) root → ((table : ℕ) → IsTableAt (entries frames) root upper table → ⊥) → leaf_under (entries frames) root (path_of (shape_of size) page) ≡ None
  not_mapped tree none =
      let p = is_page size page (page % 512) upper splits in
      subst (λ path. leaf_under (entries frames) root path ≡ None) splits
      (no_table (shape_of size) (entries frames) root (page % 512) tree upper [] root refl p.inside (omega (arith, p.long)) none)

-- the leaf of an entry at the last level
leaf_one : (leaf : PageLeaf) → leaf_here (Leaf leaf.frame leaf.rights) [] (λ next. None) ≡ Some leaf
leaf_one leaf =
    let whole : leaf.frame % 1 ≡ 0 = omega arith in
    let of_frame : ℕ → Option PageLeaf = λ n. Some record { frame = n; rights = leaf.rights } in
    let same : leaf.frame + 0 ≡ leaf.frame = omega arith in
    rw whole (ap of_frame same)

-- the leaf of a page whose last table stands
pub leaf_found : (size : Size) (frames : List (List ℕ)) (root page table : ℕ) (upper : List ℕ) → page < page_limit_of size → Splits size page upper → IsTableAt (entries frames) root upper table
    → leaf_of (levels_of size) frames root page ≡ leaf_here (entries frames (slot table (page % 512))) [] (λ next. None)
leaf_found size frames root page table upper low splits at =
    translated_leaf size frames root page (translated_low size page low)
    ∙ ap (λ path. leaf_under (entries frames) root path) (sym splits)
    ∙ leaf_below (entries frames) root upper (page % 512 ∷ []) table at

pub mapped_here : (x : Entry) (base : ℕ) (rights : Rights) → x ≡ Leaf base rights → is_some (leaf_here x [] (λ next. None)) ≡ true
mapped_here x base rights e =
    let whole : base % 1 ≡ 0 = omega arith in
    rw (e, whole) refl

pub nothing_here : (x : Entry) → IsLowest x → ((base : ℕ) (rights : Rights) → x ≡ Leaf base rights → ⊥) → is_some (leaf_here x [] (λ next. None)) ≡ false
nothing_here Outside low other = absurd low
nothing_here Invalid low other = refl
nothing_here (Pointer next) low other = absurd low
nothing_here (Leaf base rights) low other = absurd (other base rights refl)

-- everything that mapping a page does
pub record Maps (size : Size) (old new : List (List ℕ)) (root page : ℕ) (leaf : PageLeaf) (frames : List ℕ) : Type 0 where
  pub tree : IsTree (shape_of size) (entries new) root
  pub tables : (f : ℕ) → IsFrameOf (shape_of size) (entries new) root f ↔ (IsFrameOf (shape_of size) (entries old) root f ⊎ Contains frames f)
  pub leaves : (p : ℕ) → p < 2 ^ 52 → leaf_of (levels_of size) new root p ≡ (if p == page then Some leaf else leaf_of (levels_of size) old root p)
  pub others : (f : ℕ) → (IsFrameOf (shape_of size) (entries new) root f → ⊥) → slice_get new f ≡ slice_get old f
  pub unchanged : (p : List ℕ) (i k : ℕ) → IsSlotAt (shape_of size) (entries old) root p i k → IsSlotAt (shape_of size) (entries new) root p i k

-- an entry at the last level that gives no leaf leads nowhere
lowest_nowhere : (x : Entry) → IsLowest x → leaf_here x [] (λ next. None) ≡ None → x ≡ Invalid
lowest_nowhere Outside low none = absurd low
lowest_nowhere Invalid low none = refl
lowest_nowhere (Pointer next) low none = absurd low
lowest_nowhere (Leaf base rights) low none =
    let some : is_some (leaf_here (Leaf base rights) [] (λ next. None)) ≡ true = mapped_here (Leaf base rights) base rights refl in
    let no : ⊥ = cc (some, none) in absurd no

in_frames : (frames : List ℕ) (f s : ℕ) → f ≡ s / 512 → InFrames frames s → Contains frames f
in_frames frames f s e h =
    let at : s ≡ 512 * slice_index frames h.0 + h.1 = h.4 in
    let small = h.3 in
    let same : slice_index frames h.0 ≡ f = omega (arith, at, small, e) in
    (h.0, h.2, get_or_default frames h.0 f 0 h.2 ∙ same)

pub maps : (size : Size) (old mid new : List (List ℕ)) (root page table : ℕ) (upper frames : List ℕ) (leaf : PageLeaf) → page < page_limit_of size → Built (shape_of size) old mid root upper (length upper) table frames (length frames) → Splits size page upper
    → Puts mid new (slot table (page % 512)) (Leaf leaf.frame leaf.rights) → Maps size old new root page leaf frames
maps size old mid new root page table upper frames leaf low b splits put =
    let at = whole_table (shape_of size) old mid root upper table frames (length frames) b in
    let s = sets_page size mid new root page table upper (Leaf leaf.frame leaf.rights) b.tree splits at put tt in
    let same = same_frames (shape_of size) mid new root (path_of (shape_of size) page) (Leaf leaf.frame leaf.rights) s in
    record {
      tree = s.tree;
      tables = λ f. (
        λ h. elim (b.grown.only h.0 h.1 h.2 (s.was h.0 h.1 h.2 h.3)) [
          | inl x ↦ inl (h.0, h.1, h.2, x, h.4)
          | inr x ↦ inr (in_frames frames f h.2 h.4 x)
        ],
        λ h. elim h [
          | inl x ↦ (x.0, x.1, x.2, s.unchanged x.0 x.1 x.2 (b.grown.unchanged x.0 x.1 x.2 x.3), x.4)
          | inr x ↦ (same f).1 (subst (λ g. IsFrameOf (shape_of size) (entries mid) root g) (sym (get_or_default frames x.0 f 0 x.1) ∙ x.2) (b.grown.all x.0 x.1))
        ],
      );
      leaves = leaves_after size old new root page (Some leaf) low (s.leaf ∙ leaf_one leaf) (λ is inside long ne. s.same is inside long ne ∙ b.same is inside long);
      others = λ f out. s.others f (λ h. out ((same f).1 h)) ∙ b.others f (λ h. out ((same f).1 h));
      unchanged = λ p i k at. s.unchanged p i k (b.grown.unchanged p i k at);
    }

-- mapping a page fills entries on its path alone
pub maps_bytes : (size : Size) (old mid new : List (List ℕ)) (root page table : ℕ) (upper frames : List ℕ) (leaf : PageLeaf) → page < page_limit_of size → Built (shape_of size) old mid root upper (length upper) table frames (length frames) → Splits size page upper
    → leaf_of (levels_of size) old root page ≡ None → Puts mid new (slot table (page % 512)) (Leaf leaf.frame leaf.rights) → PutsWord mid new (slot table (page % 512)) → FillsAlong (shape_of size) old new root (path_of (shape_of size) page)
maps_bytes size old mid new root page table upper frames leaf low b splits free put word =
    let last = page % 512 in
    let s = slot table last in
    let at = whole_table (shape_of size) old mid root upper table frames (length frames) b in
    let set = sets_page size mid new root page table upper (Leaf leaf.frame leaf.rights) b.tree splits at put tt in
    let p = is_page size page last upper splits in
    let here : IsSlotAt (shape_of size) (entries mid) root upper last s = (table, p.inside, at, refl) in
    let before : leaf_of (levels_of size) mid root page ≡ None =
    translated_leaf size mid root page (translated_low size page low)
    ∙ b.same (path_of (shape_of size) page) (path_shaped size page) (path_long size page)
    ∙ sym (translated_leaf size old root page (translated_low size page low))
    ∙ free in
    let none : leaf_here (entries mid s) [] (λ next. None) ≡ None = sym (leaf_found size mid root page table upper low splits at) ∙ before in
    let nowhere : entries mid s ≡ Invalid = lowest_nowhere (entries mid s) (b.tree.lowest upper last s here p.long) none in
    let fills : FillsAlong (shape_of size) old mid root upper = subst (λ l. FillsAlong (shape_of size) old mid root l) (take_all (length upper) upper (omega arith)) b.bytes in
    subst (λ path. FillsAlong (shape_of size) old new root path) splits (fills_next (shape_of size) old mid new root upper last s fills set.unchanged here (b.nowhere s nowhere) word)
