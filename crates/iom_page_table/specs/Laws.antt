-- Laws of the tables of a first stage, Sv39 or Sv48.
use Rattle.std.specs.Prelude.{◌≡◌, ◌↔◌, ℕ, ◌/◌, true, false, List, [], ◌∷◌, ◌++◌, replicate, slice_get, Some, None}
use Rattle.std.specs.List.{All}
use Rattle.iom_base.specs.Causes.{page_fault_of}
use Rattle.iom_base.specs.Rights.{allows}
use Rattle.iom_base.specs.declared.size.Size.{Size}
use Rattle.iom_base.specs.Sizes.{page_size, levels_of}
use Rattle.iom_base.specs.declared.access.AccessKind.{AccessKind}
use Rattle.iom_phys_mem.specs.Words.{zeroed}
use Rattle.iom_stage_walk.specs.Entries.{entries}
use Rattle.iom_stage_walk.specs.Paths.{ReachesFirst, leaf_level, first_path, path_of, StopsFirst, IsInMemory}
use Rattle.iom_stage_walk.specs.Through.{first_through}
use Rattle.iom_stage_walk.specs.declared.walked.Walked.{Walked}
use Rattle.iom_page_table.specs.Leaves.{leaf_of}
use Rattle.iom_page_table.specs.FirstTables.{IsRoot, HasTable, KeepsOutside, KeepsTables}
use Rattle.iom_page_table.specs.Trees.{shape_of, InShape, IsTableAt}
use Rattle.iom_page_table.specs.declared.leaf.PageLeaf.{PageLeaf}

-- the walk of an address reaches exactly the leaf of its page, where that allows the access and its frame lies in memory;
-- and it tells the level of that leaf
abbrev pub WalkReachesLeaf : Type 0
WalkReachesLeaf = (size : Size) (frames : List (List ℕ)) (root address : ℕ) (kind : AccessKind) (walked : Walked)
    → ReachesFirst (levels_of size) frames root address kind walked
    ↔ ((leaf_of (levels_of size) frames root (address / page_size) ≡ Some record { frame = walked.frame; rights = walked.rights })
    × (allows walked.rights kind ≡ true) × IsInMemory frames walked.frame × (walked.guest_frames ≡ replicate 4 None)
    × (walked.level ≡ leaf_level (entries frames) root (first_path (levels_of size) address)))

-- the walk of an address loads its entries from the root's tables alone
abbrev pub WalkThroughTables : Type 0
WalkThroughTables = (size : Size) (frames : List (List ℕ)) (root address : ℕ) → All (HasTable size frames root) (first_through (levels_of size) frames root address)

-- in a tree the walk of an address whose page has no leaf that allows the access stops with a page fault
abbrev pub WalkFaultsElse : Type 0
WalkFaultsElse = (size : Size) (frames : List (List ℕ)) (root address : ℕ) (kind : AccessKind) → IsRoot size frames root
    → ((leaf : PageLeaf) → leaf_of (levels_of size) frames root (address / page_size) ≡ Some leaf → allows leaf.rights kind ≡ false)
    → StopsFirst (levels_of size) frames root address kind record { cause = page_fault_of kind; gpa = 0; implicit = false }

-- the root is a tree as before, of the same frames, each table where it was, and every page has the leaf that it had
pub record SameTree (size : Size) (old new : List (List ℕ)) (root : ℕ) : Type 0 where
  pub tree : IsRoot size new root
  pub tables : (f : ℕ) → HasTable size new root f ↔ HasTable size old root f
  pub leaves : (page : ℕ) → leaf_of (levels_of size) new root page ≡ leaf_of (levels_of size) old root page
  pub keeps : KeepsTables size old new root

-- what changes no frame of a tree, as a store outside it, leaves the tree and all that it reaches
abbrev pub TreeStays : Type 0
TreeStays = (size : Size) (old new : List (List ℕ)) (root : ℕ) → IsRoot size old root
    → ((f : ℕ) → HasTable size old root f → slice_get new f ≡ slice_get old f) → SameTree size old new root

-- two trees of no common frame don't meet: what changes frames of the one alone leaves the other
abbrev pub TreesApart : Type 0
TreesApart = (size other_size : Size) (old new : List (List ℕ)) (root other : ℕ) → IsRoot size old root
    → ((f : ℕ) → HasTable size old root f → HasTable other_size new other f → ⊥)
    → KeepsOutside other_size old new other → SameTree size old new root

-- a zeroed frame is a tree of itself alone, which reaches nothing
abbrev pub ZeroedTree : Type 0
ZeroedTree = (size : Size) (frames : List (List ℕ)) (root : ℕ) → slice_get frames root ≡ Some zeroed
    → IsRoot size frames root
    × ((f : ℕ) → HasTable size frames root f ↔ (f ≡ root))
    × ((page : ℕ) → leaf_of (levels_of size) frames root page ≡ None)

-- different prefixes of a tree have tables in different frames
abbrev pub DifferentTables : Type 0
DifferentTables = (size : Size) (frames : List (List ℕ)) (root : ℕ) → IsRoot size frames root → (p q : List ℕ) (f : ℕ)
    → InShape (shape_of size) (p ++ 0 ∷ []) → InShape (shape_of size) (q ++ 0 ∷ []) → IsTableAt (entries frames) root p f → IsTableAt (entries frames) root q f → p ≡ q

-- the first indices of a page, however many, are a prefix of the shape
abbrev pub PathsInShape : Type 0
PathsInShape = (size : Size) (page : ℕ) (done left : List ℕ) → path_of (shape_of size) page ≡ done ++ left → InShape (shape_of size) done
