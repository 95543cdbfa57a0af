-- The tables of a first stage of either size as they stand in a memory, the list of its frames.
use Rattle.std.specs.Prelude.{◌≡◌, ◌==◌, ℕ, ◌^◌, ◌<◌, List, Option, slice_get, if◌then◌else◌}
use Rattle.iom_base.specs.declared.size.Size.{Size}
use Rattle.iom_base.specs.Sizes.{levels_of}
use Rattle.iom_stage_walk.specs.Entries.{entries}
use Rattle.iom_stage_walk.specs.Paths.{path_of}
use Rattle.iom_page_table.specs.Leaves.{leaf_of}
use Rattle.iom_page_table.specs.Trees.{shape_of, TablesStay, IsTree, IsFrameOf, IsLastEntry, IsFilledEntry, missing_under}
use Rattle.iom_page_table.specs.Written.{word_of_leaf, with_entries, mapped_entries, cleared_entries}
use Rattle.iom_page_table.specs.declared.leaf.PageLeaf.{PageLeaf}

-- the tables of the root are a tree
abbrev pub IsRoot : Size → List (List ℕ) → ℕ → Type 0
IsRoot size frames root = IsTree (shape_of size) (entries frames) root

-- the frame holds a table of the root
abbrev pub HasTable : Size → List (List ℕ) → ℕ → ℕ → Type 0
HasTable size frames root f = IsFrameOf (shape_of size) (entries frames) root f

-- how many tables are missing for a leaf of the page
abbrev pub missing_for : Size → List (List ℕ) → ℕ → ℕ → ℕ
missing_for size frames root page = missing_under (entries frames) root (path_of (shape_of size) page)

-- s is the number of the page's entry in its last table
abbrev pub IsLeafEntry : Size → List (List ℕ) → ℕ → ℕ → ℕ → Type 0
IsLeafEntry size frames root page s = IsLastEntry (entries frames) root (path_of (shape_of size) page) s

-- s is the number of an entry on the page's path, along the tables as they are afterwards, that no walk got past before
abbrev pub FillsEntry : Size → List (List ℕ) → List (List ℕ) → ℕ → ℕ → ℕ → Type 0
FillsEntry size old new root page s = IsFilledEntry (shape_of size) (entries old) (entries new) root (path_of (shape_of size) page) s

-- the page has this leaf, or none, and every other page has what it had
abbrev pub ChangesLeaf : Size → List (List ℕ) → List (List ℕ) → ℕ → ℕ → Option PageLeaf → Type 0
ChangesLeaf size old new root page found =
    (p : ℕ) → p < 2 ^ 52 → leaf_of (levels_of size) new root p ≡ (if p == page then found else leaf_of (levels_of size) old root p)

-- each frame but the root's tables, as they are afterwards, has the bytes that it had
abbrev pub KeepsOutside : Size → List (List ℕ) → List (List ℕ) → ℕ → Type 0
KeepsOutside size old new root = (f : ℕ) → (HasTable size new root f → ⊥) → slice_get new f ≡ slice_get old f

-- each table of the root is where it was
abbrev pub KeepsTables : Size → List (List ℕ) → List (List ℕ) → ℕ → Type 0
KeepsTables size old new root = TablesStay (shape_of size) (entries old) (entries new) root

-- memory after the page's leaf is written, and the tables that were missing hung in the frames, from the root down
abbrev pub mapped : Size → List (List ℕ) → ℕ → ℕ → PageLeaf → List ℕ → List (List ℕ)
mapped size frames root page leaf fresh = with_entries frames (mapped_entries (entries frames) root (path_of (shape_of size) page) fresh (word_of_leaf leaf))

-- memory after the page's leaf is cleared
abbrev pub unmapped : Size → List (List ℕ) → ℕ → ℕ → List (List ℕ)
unmapped size frames root page = with_entries frames (cleared_entries (entries frames) root (path_of (shape_of size) page))
