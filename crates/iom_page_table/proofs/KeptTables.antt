-- Tables are where they were where each entry of theirs is.
use Rattle.std.proofs.Common.{◌≡◌, ◌<◌, ◌++◌, ◌∙◌, ◌⊎◌, inl, inr, ℕ, suc, List, [], ◌∷◌, length, refl, sym, ap, subst, arith, append_assoc, length-append}
use Rattle.std.proofs.lemmas.Bool.Decides.{leb_tells}
use Rattle.iom_base.specs.declared.size.Size.{Size}
use Rattle.iom_base.specs.declared.size.Size.TheVariants.{Sv39, Sv48}
use Rattle.iom_base.specs.Sizes.{levels_of}
use Rattle.iom_stage_walk.specs.Entries.{Entries, entries, slot}
use Rattle.iom_stage_walk.specs.Paths.{path_of}
use Rattle.iom_stage_walk.specs.Second.{second_widths}
use Rattle.iom_stage_walk.specs.declared.entry.Entry.TheVariants.{Invalid, Pointer}
use Rattle.iom_page_table.specs.FirstTables.{KeepsTables}
use Rattle.iom_page_table.specs.GuestLaws.{GuestTablesKept, GuestPathsInShape}
use Rattle.iom_page_table.specs.Laws.{PathsInShape}
use Rattle.iom_page_table.specs.Trees.{shape_of, InShape, IsTableAt, IsSlotAt, IsLowest, IsTree}
use Rattle.iom_page_table.proofs.Pages.{path_shaped}
use Rattle.iom_page_table.proofs.Prefixes.{table_append, shape_front}
use Rattle.iom_page_table.proofs.Quarters.{quarter_entry}

-- every width is above 0
abbrev IsWide : List ℕ → Type 0
IsWide [] = Unit {0}
IsWide (width ∷ widths) = (0 < width) × IsWide widths

wide : (size : Size) → IsWide (shape_of size)
wide Sv39 = (omega arith, (omega arith, (omega arith, tt)))
wide Sv48 = (omega arith, (omega arith, (omega arith, (omega arith, tt))))

-- a prefix takes an index more, or has one for each level
more_or_full : (shape prefix : List ℕ) → IsWide shape → InShape shape prefix → InShape shape (prefix ++ 0 ∷ []) ⊎ (length prefix ≡ length shape)
more_or_full [] [] wide inside = inr refl
more_or_full [] (i ∷ is) wide inside = absurd inside
more_or_full (w ∷ ws) [] wide inside = inl (wide.0, tt)
more_or_full (w ∷ ws) (i ∷ is) wide inside = elim (more_or_full ws is wide.1 inside.1) [ inl more ↦ inl (inside.0, more) | inr full ↦ inr (ap suc full) ]

-- in a tree no table stands below the last level
none_below : (shape : List ℕ) (e : Entries) (root : ℕ) → IsTree shape e root → (done : List ℕ) (t i : ℕ) (is : List ℕ) → IsTableAt e root done t → InShape shape (done ++ i ∷ is)
    → length (done ++ i ∷ is) ≡ length shape → (table : ℕ) → IsTableAt e t (i ∷ is) table → ⊥
none_below shape e root tree done t i [] at inside long table here =
    subst IsLowest here.1 (tree.lowest done i (slot t i) (t, inside, at, refl) (omega (arith, long, length-append done (i ∷ []))))
none_below shape e root tree done t i (j ∷ is) at inside long table here =
    let same : (done ++ i ∷ []) ++ j ∷ is ≡ done ++ i ∷ j ∷ is = append_assoc done (i ∷ []) (j ∷ is) in
    none_below shape e root tree (done ++ i ∷ []) here.0 j is (table_append e root done (i ∷ []) t here.0 at (here.0, here.1, refl))
    (subst (λ l. InShape shape l) (sym same) inside) (ap length same ∙ long) table here.2

none_full : (size : Size) (e : Entries) (root : ℕ) → IsTree (shape_of size) e root → (prefix : List ℕ) → InShape (shape_of size) prefix → length prefix ≡ length (shape_of size) → (table : ℕ) → IsTableAt e root prefix table → ⊥
none_full Sv39 e root tree [] inside long table at = absurd (omega (arith, long))
none_full Sv48 e root tree [] inside long table at = absurd (omega (arith, long))
none_full size e root tree (i ∷ is) inside long table at = none_below (shape_of size) e root tree [] root i is refl inside long table at

-- where each entry of a tree is where it was, each table is
pub tables_kept : (size : Size) (old new : List (List ℕ)) (root : ℕ) → IsTree (shape_of size) (entries old) root
    → ((p : List ℕ) (i k : ℕ) → IsSlotAt (shape_of size) (entries old) root p i k → IsSlotAt (shape_of size) (entries new) root p i k) → KeepsTables size old new root
tables_kept size old new root tree unchanged prefix table inside at =
    elim (more_or_full (shape_of size) prefix (wide size) inside) [
      | inl more ↦
          let now = unchanged prefix 0 (slot table 0) (table, more, at, refl) in
          let same : now.0 ≡ table = omega (arith, now.3) in
          subst (λ t. IsTableAt (entries new) root prefix t) same now.2
      | inr full ↦ absurd (none_full size (entries old) root tree prefix inside full table at)
    ]

-- an index of the root of a second stage is one of its first frame, as in a first stage, or one of the others
in_first_frame : (size : Size) (i : ℕ) (is : List ℕ) → i < 512 → InShape (second_widths (levels_of size)) (i ∷ is) → InShape (shape_of size) (i ∷ is)
in_first_frame Sv39 i is low inside = (low, inside.1)
in_first_frame Sv48 i is low inside = (low, inside.1)

in_root : (size : Size) (i : ℕ) (is : List ℕ) → InShape (second_widths (levels_of size)) (i ∷ is) → i < 2048
in_root Sv39 i is inside = inside.0
in_root Sv48 i is inside = inside.0

pub guest_tables_kept : GuestTablesKept
guest_tables_kept size old new root guest kept [] table inside at = at
guest_tables_kept size old new root guest kept (i ∷ is) table inside at =
    elim (leb_tells 512 i) [
      | inl high ↦
          let nowhere = quarter_entry size old root guest i high.1 (in_root size i is inside) in
          let never : Invalid ≡ Pointer at.0 = sym nowhere ∙ at.1 in absurd (cc)
      | inr low ↦ kept (i ∷ is) table (in_first_frame size i is low.1 inside) at
    ]

-- the first indices of a page
pub first_in_shape : PathsInShape
first_in_shape size page done left is = shape_front (shape_of size) done left (subst (λ l. InShape (shape_of size) l) is (path_shaped size page))

guest_path_shaped : (size : Size) (page : ℕ) → InShape (second_widths (levels_of size)) (path_of (second_widths (levels_of size)) page)
guest_path_shaped Sv39 page = (omega arith, (omega arith, (omega arith, tt)))
guest_path_shaped Sv48 page = (omega arith, (omega arith, (omega arith, (omega arith, tt))))

pub second_in_shape : GuestPathsInShape
second_in_shape size page done left is = shape_front (second_widths (levels_of size)) done left (subst (λ l. InShape (second_widths (levels_of size)) l) is (guest_path_shaped size page))
