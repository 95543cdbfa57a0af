-- In both stages: how a load ends a walk that stands in the driver's tables of the second, or at an entry of a guest's table (RISC-V Privileged Architecture,
-- sections 15.5 and 15.5.1): at the page, as its leaf is then, or with a page fault of the one stage or of the other.
use Rattle.std.specs.Prelude.{◌≡◌, ℕ, ◌/◌, ◌<◌, ◌⊎◌, true, false, List, ◌∷◌, length, Some, Result, Ok, Err}
use Rattle.iom_base.specs.Causes.{page_fault_of, guest_page_fault_of}
use Rattle.iom_base.specs.Rights.{allows}
use Rattle.iom_base.specs.Sizes.{page_size, levels_of}
use Rattle.iom_base.specs.declared.access.AccessKind.{AccessKind}
use Rattle.iom_base.specs.declared.access.AccessKind.TheVariants.{Read}
use Rattle.iom_base.specs.declared.rights.Rights.{Rights}
use Rattle.iom_base.specs.declared.size.Size.{Size}
use Rattle.iom_page_table.specs.SecondTables.{IsGuestRoot, guest_leaf_of}
use Rattle.iom_page_table.specs.declared.leaf.PageLeaf.{PageLeaf}
use Rattle.iom_stage_walk.specs.Entries.{slot}
use Rattle.iom_stage_walk.specs.Second.{reported}
use Rattle.iom_stage_walk.specs.Both.{entry_address, guest_address, rights_of_both}
use Rattle.iom_stage_walk.specs.declared.walked.Walked.{Walked}
use Rattle.iom_stage_walk.specs.declared.walked.WalkFault.{WalkFault}
use Rattle.iom_walk_loads.specs.Loads.{Ends, after_load}
use Rattle.iom_standing_walks.specs.Judged.{IsOnItsWay, HasLeafNow, LiesIn, through}
use Rattle.iom_standing_walks.specs.Positions.{AtEntry, ToEntry, ToPage, rest_of}

-- the guest physical address has no leaf now that allows the access
abbrev pub HasNoLeafNow : Size → List (List ℕ) → ℕ → ℕ → AccessKind → Type 0
HasNoLeafNow size memory root address kind =
    (leaf : PageLeaf) → guest_leaf_of (levels_of size) memory root (address / page_size) ≡ Some leaf → allows leaf.rights kind ≡ false

-- the leaf of the guest physical address, if it has one, lies in memory
abbrev pub LeafLiesIn : Size → List (List ℕ) → ℕ → ℕ → Type 0
LeafLiesIn size memory root address = LiesIn memory (guest_leaf_of (levels_of size) memory root (address / page_size))

-- A LOAD ON THE WAY TO AN ENTRY that ends the walk ends it with the second stage's page fault of the original access, told of the entry's address: that may not be
-- read.
abbrev pub EntryFaultsNow : Type 0
EntryFaultsNow = (size : Size) (memory : List (List ℕ)) (root address : ℕ) (kind : AccessKind) (loaded : List ℕ) (guest i : ℕ) (below : List ℕ) (table : ℕ) (done : List ℕ) (j : ℕ) (left : List ℕ)
    (answer : Result Walked WalkFault)
    → IsGuestRoot size memory root → LeafLiesIn size memory root (entry_address (slot guest i))
    → IsOnItsWay size memory root (entry_address (slot guest i)) table done (j ∷ left)
    → after_load memory (rest_of (through size memory root address kind) (ToEntry loaded guest i below table (j ∷ left))) ≡ Ends answer
    → HasNoLeafNow size memory root (entry_address (slot guest i)) Read
    × (answer ≡ Err (reported (guest_page_fault_of kind) (entry_address (slot guest i)) true))

-- the walk ended at the page as it is now: on its frame, with what both stages allow; or with the second stage's page fault, where no leaf allows the access
abbrev pub EndsAtPage : Size → List (List ℕ) → ℕ → ℕ → AccessKind → Rights → Result Walked WalkFault → Type 0
EndsAtPage size memory root guest kind given (Ok walked) =
    (rights : Rights) × HasLeafNow size memory root guest kind walked.frame rights × (walked.rights ≡ rights_of_both given rights)
EndsAtPage size memory root guest kind given (Err fault) =
    HasNoLeafNow size memory root guest kind × (fault ≡ reported (guest_page_fault_of kind) guest false)

-- A LOAD ON THE WAY TO THE PAGE that ends the walk ends it so.
abbrev pub PageEndsNow : Type 0
PageEndsNow = (size : Size) (memory : List (List ℕ)) (root address : ℕ) (kind : AccessKind) (loaded : List ℕ) (page : ℕ) (given : Rights) (level : ℕ) (table : ℕ) (done : List ℕ) (j : ℕ) (left : List ℕ)
    (answer : Result Walked WalkFault)
    → IsGuestRoot size memory root → LeafLiesIn size memory root (guest_address page address)
    → IsOnItsWay size memory root (guest_address page address) table done (j ∷ left)
    → after_load memory (rest_of (through size memory root address kind) (ToPage loaded page given level table (j ∷ left))) ≡ Ends answer
    → EndsAtPage size memory root (guest_address page address) kind given answer

-- the walk ended with a page fault of the one stage or of the other
abbrev pub EndsWithPageFault : AccessKind → Result Walked WalkFault → Type 0
EndsWithPageFault kind (Ok walked) = ⊥
EndsWithPageFault kind (Err fault) = (fault.cause ≡ page_fault_of kind) ⊎ (fault.cause ≡ guest_page_fault_of kind)

-- A LOAD OF A GUEST'S ENTRY from a frame of memory that ends the walk ends it so, whatever the guest wrote there.
abbrev pub GuestEntryFaultsNow : Type 0
GuestEntryFaultsNow = (size : Size) (memory : List (List ℕ)) (root address : ℕ) (kind : AccessKind) (loaded : List ℕ) (guest i : ℕ) (below : List ℕ) (frame : ℕ) (answer : Result Walked WalkFault)
    → frame < length memory
    → after_load memory (rest_of (through size memory root address kind) (AtEntry loaded guest i below frame)) ≡ Ends answer
    → EndsWithPageFault kind answer
