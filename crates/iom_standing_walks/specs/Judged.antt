-- What a load that ends a walk tells of the driver's tables, in one stage: the page's leaf, as it is then.
use Rattle.std.specs.Prelude.{◌≡◌, ℕ, ◌+◌, ◌*◌, ◌/◌, ◌^◌, ◌<◌, ◌⊎◌, true, false, List, [], ◌∷◌, ◌++◌, length, Option, Some, Result, Ok, Err}
use Rattle.iom_base.specs.Causes.{page_fault_of, guest_page_fault_of}
use Rattle.iom_base.specs.Rights.{allows}
use Rattle.iom_base.specs.Sizes.{page_size, levels_of}
use Rattle.iom_base.specs.declared.access.AccessKind.{AccessKind}
use Rattle.iom_base.specs.declared.access.AccessKind.TheVariants.{Read}
use Rattle.iom_base.specs.declared.rights.Rights.{Rights}
use Rattle.iom_base.specs.declared.size.Size.{Size}
use Rattle.iom_page_table.specs.Leaves.{leaf_of}
use Rattle.iom_page_table.specs.FirstTables.{IsRoot}
use Rattle.iom_page_table.specs.SecondTables.{IsGuestRoot, guest_leaf_of}
use Rattle.iom_page_table.specs.Trees.{IsTableAt}
use Rattle.iom_page_table.specs.declared.leaf.PageLeaf.{PageLeaf}
use Rattle.iom_stage_walk.specs.Entries.{entries, slot}
use Rattle.iom_stage_walk.specs.Paths.{first_path}
use Rattle.iom_stage_walk.specs.Second.{second_path, reported}
use Rattle.iom_stage_walk.specs.Both.{entry_address, guest_address, padded, plain, rights_of_both}
use Rattle.iom_stage_walk.specs.declared.walked.Walked.{Walked}
use Rattle.iom_stage_walk.specs.declared.walked.WalkFault.{WalkFault}
use Rattle.iom_walk_loads.specs.Loads.{Ends, after_load}
use Rattle.iom_walk_loads.specs.Tables.{InBoth, first_rest, is_canonical, second_rest}
use Rattle.iom_standing_walks.specs.Positions.{AtEntry, ToEntry, ToPage, rest_of}

-- the page has this leaf, which allows the access; or none that does, and the fault is this one
abbrev pub IsJudgedBy : Option PageLeaf → AccessKind → WalkFault → Result Walked WalkFault → Type 0
IsJudgedBy leaf kind fault (Ok walked) = (leaf ≡ Some (record { frame = walked.frame; rights = walked.rights })) × (allows walked.rights kind ≡ true)
IsJudgedBy leaf kind fault (Err reply) = (reply ≡ fault) × ((own : PageLeaf) → leaf ≡ Some own → allows own.rights kind ≡ false)

-- the leaf, if there is one, lies in memory
abbrev pub LiesIn : List (List ℕ) → Option PageLeaf → Type 0
LiesIn memory leaf = (own : PageLeaf) → leaf ≡ Some own → own.frame < length memory

-- A walk of a first stage that ends at a load ends by the leaf that its page has then, where it stands in the driver's tables.
abbrev pub FirstIsJudgedNow : Type 0
FirstIsJudgedNow = (size : Size) (memory : List (List ℕ)) (root address : ℕ) (kind : AccessKind) (table : ℕ) (done left : List ℕ) (answer : Result Walked WalkFault)
    → IsRoot size memory root → LiesIn memory (leaf_of (levels_of size) memory root (address / page_size))
    → is_canonical (levels_of size) address ≡ true → first_path (levels_of size) address ≡ done ++ left → IsTableAt (entries memory) root done table
    → after_load memory (first_rest (length memory) kind table left) ≡ Ends answer
    → IsJudgedBy (leaf_of (levels_of size) memory root (address / page_size)) kind (plain (page_fault_of kind)) answer

-- So does one of a second stage.
abbrev pub SecondIsJudgedNow : Type 0
SecondIsJudgedNow = (size : Size) (memory : List (List ℕ)) (root address : ℕ) (kind : AccessKind) (table : ℕ) (done left : List ℕ) (answer : Result Walked WalkFault)
    → IsGuestRoot size memory root → LiesIn memory (guest_leaf_of (levels_of size) memory root (address / page_size))
    → address < 2 ^ (9 * levels_of size + 14) → second_path (levels_of size) address ≡ done ++ left → IsTableAt (entries memory) root done table
    → after_load memory (second_rest (length memory) kind address table left) ≡ Ends answer
    → IsJudgedBy (guest_leaf_of (levels_of size) memory root (address / page_size)) kind (reported (guest_page_fault_of kind) address false) answer

-- In both stages: a walk in this memory, through the driver's second stage with this root
abbrev pub through : Size → List (List ℕ) → ℕ → ℕ → AccessKind → InBoth
through size memory root address kind = record { frames = length memory; levels' = levels_of size; second = root; address = address; kind = kind }

-- it stands there on the way to the frame of this guest physical address
abbrev pub IsOnItsWay : Size → List (List ℕ) → ℕ → ℕ → ℕ → List ℕ → List ℕ → Type 0
IsOnItsWay size memory root address table done left =
    (address < 2 ^ (9 * levels_of size + 14)) × (second_path (levels_of size) address ≡ done ++ left) × IsTableAt (entries memory) root done table

-- the guest physical address has this leaf now, which allows the access
abbrev pub HasLeafNow : Size → List (List ℕ) → ℕ → ℕ → AccessKind → ℕ → Rights → Type 0
HasLeafNow size memory root address kind frame rights =
    (guest_leaf_of (levels_of size) memory root (address / page_size) ≡ Some (record { frame = frame; rights = rights })) × (allows rights kind ≡ true)

-- A load on the way to an entry of the guest's: the walk goes on in tables that stay; or comes to the entry, in the frame that its page has now, which may be
-- read; or ends with a fault.
abbrev pub EntryIsJudgedNow : Type 0
EntryIsJudgedNow = (size : Size) (memory : List (List ℕ)) (root address : ℕ) (kind : AccessKind) (loaded : List ℕ) (guest i : ℕ) (below : List ℕ) (table : ℕ) (done : List ℕ) (j : ℕ) (left : List ℕ)
    → IsOnItsWay size memory root (entry_address (slot guest i)) table done (j ∷ left)
    → ((next : ℕ) × IsOnItsWay size memory root (entry_address (slot guest i)) next (done ++ j ∷ []) left
    × (after_load memory (rest_of (through size memory root address kind) (ToEntry loaded guest i below table (j ∷ left))) ≡ rest_of (through size memory root address kind) (ToEntry loaded guest i below next left)))
    ⊎ (((frame : ℕ) × (rights : Rights) × HasLeafNow size memory root (entry_address (slot guest i)) Read frame rights
    × (after_load memory (rest_of (through size memory root address kind) (ToEntry loaded guest i below table (j ∷ left))) ≡ rest_of (through size memory root address kind) (AtEntry loaded guest i below frame)))
    ⊎ ((fault : WalkFault) × (after_load memory (rest_of (through size memory root address kind) (ToEntry loaded guest i below table (j ∷ left))) ≡ Ends (Err fault))))

-- A load on the way to the page: the same, and where it comes there the walk ends, with the frame that the page has now.
abbrev pub PageIsJudgedNow : Type 0
PageIsJudgedNow = (size : Size) (memory : List (List ℕ)) (root address : ℕ) (kind : AccessKind) (loaded : List ℕ) (page : ℕ) (given : Rights) (level : ℕ) (table : ℕ) (done : List ℕ) (j : ℕ) (left : List ℕ)
    → IsOnItsWay size memory root (guest_address page address) table done (j ∷ left)
    → ((next : ℕ) × IsOnItsWay size memory root (guest_address page address) next (done ++ j ∷ []) left
    × (after_load memory (rest_of (through size memory root address kind) (ToPage loaded page given level table (j ∷ left))) ≡ rest_of (through size memory root address kind) (ToPage loaded page given level next left)))
    ⊎ (((frame : ℕ) × (rights : Rights) × HasLeafNow size memory root (guest_address page address) kind frame rights
    × (after_load memory (rest_of (through size memory root address kind) (ToPage loaded page given level table (j ∷ left)))
    ≡ Ends (Ok (record { frame = frame; rights = rights_of_both given rights; level = level; guest_frames = padded 4 loaded }))))
    ⊎ ((fault : WalkFault) × (after_load memory (rest_of (through size memory root address kind) (ToPage loaded page given level table (j ∷ left))) ≡ Ends (Err fault))))
