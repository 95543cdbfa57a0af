-- Tables in any mode as one thing: the tables of a first stage, and the root's other frames, which are zero; there are none of these where the first
-- stage translates alone.
use Rattle.std.proofs.Common.{◌≡◌, ◌≢◌, ◌⊎◌, inl, inr, ℕ, List, [], ◌∷◌, Some, slice_get, refl, arith}
use Rattle.iom_base.specs.declared.mode.Mode.{Mode}
use Rattle.iom_base.specs.declared.mode.Mode.TheVariants.{First, Second, Both}
use Rattle.iom_base.specs.declared.size.Size.{Size}
use Rattle.iom_base.specs.Modes.{size_in}
use Rattle.iom_page_table.specs.FirstTables.{IsRoot, HasTable}
use Rattle.iom_page_table.specs.SecondTables.{IsGuestRoot, HasGuestTable, other_quarters}
use Rattle.iom_phys_mem.specs.Words.{zeroed}
use Rattle.iom_driver.specs.Admitted.{IsAligned}
use Rattle.iom_driver.specs.Attaching.{root_frames}
use Rattle.iom_driver.specs.Tables.{IsRootIn, HasTableIn}
use Rattle.iom_driver.proofs.Owners.{Among, among_all, among_contained, contained_among, all_among}

-- the frames of the root but the first
abbrev pub rest : Mode → ℕ → List ℕ
rest (First size) root = []
rest (Second size) root = other_quarters root
rest (Both size) root = other_quarters root

-- the tables of the root are a tree, and its other frames are zero and none of that tree
pub record IsRooted (mode : Mode) (memory : List (List ℕ)) (root : ℕ) : Type 0 where
  pub tree : IsRoot (size_in mode) memory root
  pub others : (f : ℕ) → Among f (rest mode root) → slice_get memory f ≡ Some zeroed
  pub apart : (f : ℕ) → HasTable (size_in mode) memory root f → Among f (rest mode root) → ⊥
  pub aligned : IsAligned mode root

guest_parts : (size : Size) (memory : List (List ℕ)) (root : ℕ) → IsGuestRoot size memory root
    → IsRoot size memory root × ((f : ℕ) → Among f (other_quarters root) → slice_get memory f ≡ Some zeroed) × ((f : ℕ) → HasTable size memory root f → Among f (other_quarters root) → ⊥)
guest_parts size memory root guest = (
  guest.tree,
  λ f here. among_all (λ n. slice_get memory n ≡ Some zeroed) f (other_quarters root) guest.others here,
  λ f at here. guest.apart f at (contained_among f (other_quarters root) here),
)

guest_from : (size : Size) (memory : List (List ℕ)) (root : ℕ) → IsRoot size memory root → ((f : ℕ) → Among f (other_quarters root) → slice_get memory f ≡ Some zeroed)
    → ((f : ℕ) → HasTable size memory root f → Among f (other_quarters root) → ⊥) → IsGuestRoot size memory root
guest_from size memory root tree others apart = record {
  tree = tree;
  others = all_among (λ n. slice_get memory n ≡ Some zeroed) (other_quarters root) others;
  apart = λ f at here. apart f at (among_contained f (other_quarters root) here);
}

pub rooted : (mode : Mode) (memory : List (List ℕ)) (root : ℕ) → IsRootIn mode memory root → IsRooted mode memory root
rooted (First size) memory root tree = record { tree = tree; others = λ f here. absurd here; apart = λ f at here. here; aligned = tt }
rooted (Second size) memory root guest = let parts = guest_parts size memory root guest.0 in record { tree = parts.0; others = parts.1; apart = parts.2; aligned = guest.1 }
rooted (Both size) memory root guest = let parts = guest_parts size memory root guest.0 in record { tree = parts.0; others = parts.1; apart = parts.2; aligned = guest.1 }

pub root_in : (mode : Mode) (memory : List (List ℕ)) (root : ℕ) → IsRooted mode memory root → IsRootIn mode memory root
root_in (First size) memory root is = is.tree
root_in (Second size) memory root is = (guest_from size memory root is.tree is.others is.apart, is.aligned)
root_in (Both size) memory root is = (guest_from size memory root is.tree is.others is.apart, is.aligned)

-- a frame of theirs holds a table of the tree, or is one of the others
guest_table : (size : Size) (memory : List (List ℕ)) (root f : ℕ) → HasGuestTable size memory root f → HasTable size memory root f ⊎ Among f (other_quarters root)
guest_table size memory root f (inl at) = inl at
guest_table size memory root f (inr here) = inr (among_contained f (other_quarters root) here)

table_guest : (size : Size) (memory : List (List ℕ)) (root f : ℕ) → HasTable size memory root f ⊎ Among f (other_quarters root) → HasGuestTable size memory root f
table_guest size memory root f (inl at) = inl at
table_guest size memory root f (inr here) = inr (contained_among f (other_quarters root) here)

pub table_of : (mode : Mode) (memory : List (List ℕ)) (root f : ℕ) → HasTableIn mode memory root f → HasTable (size_in mode) memory root f ⊎ Among f (rest mode root)
table_of (First size) memory root f at = inl at
table_of (Second size) memory root f at = guest_table size memory root f at
table_of (Both size) memory root f at = guest_table size memory root f at

first_only : (size : Size) (memory : List (List ℕ)) (root f : ℕ) → HasTable size memory root f ⊎ Among f [] → HasTable size memory root f
first_only size memory root f (inl at) = at
first_only size memory root f (inr here) = absurd here

pub table_in : (mode : Mode) (memory : List (List ℕ)) (root f : ℕ) → HasTable (size_in mode) memory root f ⊎ Among f (rest mode root) → HasTableIn mode memory root f
table_in (First size) memory root f at = first_only size memory root f at
table_in (Second size) memory root f at = table_guest size memory root f at
table_in (Both size) memory root f at = table_guest size memory root f at

-- the frames of the root are the first and these
pub frames_are : (mode : Mode) (root : ℕ) → root_frames mode root ≡ root ∷ rest mode root
frames_are (First size) root = refl
frames_are (Second size) root = refl
frames_are (Both size) root = refl

-- and none of these is the first
quarters_differ : (root f : ℕ) → Among f (other_quarters root) → f ≢ root
quarters_differ root f (inl e) same = absurd (omega (arith, e, same))
quarters_differ root f (inr (inl e)) same = absurd (omega (arith, e, same))
quarters_differ root f (inr (inr (inl e))) same = absurd (omega (arith, e, same))
quarters_differ root f (inr (inr (inr none))) same = absurd none

pub rest_differs : (mode : Mode) (root f : ℕ) → Among f (rest mode root) → f ≢ root
rest_differs (First size) root f here = absurd here
rest_differs (Second size) root f here = quarters_differ root f here
rest_differs (Both size) root f here = quarters_differ root f here

pub root_among : (mode : Mode) (root : ℕ) → Among root (root_frames mode root)
root_among (First size) root = inl refl
root_among (Second size) root = inl refl
root_among (Both size) root = inl refl
