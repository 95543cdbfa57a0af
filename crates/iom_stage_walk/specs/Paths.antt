-- The path of a translation: reaches a leaf, or stops with a cause (RISC-V Privileged Architecture, "Sv39"
-- and "Sv48", virtual address translation), for any number of levels.
use Rattle.std.specs.Prelude.{◌≡◌, ◌≢◌, ℕ, ◌+◌, ◌*◌, ◌/◌, ◌%◌, ◌^◌, ◌<◌, ◌≤◌, ◌⊎◌, true, false, List, [], ◌∷◌, length, replicate, None}
use Rattle.iom_base.specs.Causes.{page_fault_of}
use Rattle.iom_base.specs.Tables.{access_fault_of, table_entries}
use Rattle.iom_base.specs.Rights.{allows}
use Rattle.iom_base.specs.Sizes.{page_size}
use Rattle.iom_base.specs.declared.access.AccessKind.{AccessKind}
use Rattle.iom_base.specs.declared.cause.Cause.{Cause}
use Rattle.iom_base.specs.declared.rights.Rights.{Rights}
use Rattle.iom_stage_walk.specs.Entries.{Entries, entries, slot}
use Rattle.iom_stage_walk.specs.declared.entry.Entry.{Entry}
use Rattle.iom_stage_walk.specs.declared.entry.Entry.TheVariants.{Outside, Invalid, Pointer, Leaf}
use Rattle.iom_stage_walk.specs.declared.walked.Walked.{Walked}
use Rattle.iom_stage_walk.specs.declared.walked.WalkFault.{WalkFault}

-- how many pages a leaf spans whose table is followed by these indices: a table's entries for each level below
abbrev pub pages_spanned : List ℕ → ℕ
pages_spanned [] = 1
pages_spanned (i ∷ is) = table_entries * pages_spanned is

-- which of those pages the indices name
abbrev pub page_in : List ℕ → ℕ
page_in [] = 0
page_in (i ∷ is) = pages_spanned is * i + page_in is

-- a leaf gives the page that the indices below it name this frame and right: it is aligned to what it spans, and
-- allows the kind of access
pub record IsLawfulLeaf (kind : AccessKind) (base : ℕ) (rights : Rights) (below : List ℕ)
    (frame : ℕ) (given : Rights) : Type 0 where
  pub aligned : base % pages_spanned below ≡ 0
  pub allowed : allows rights kind ≡ true
  pub page : frame ≡ base + page_in below
  pub same : given ≡ rights

-- from the table the indices, one a level, lead to a leaf that is lawful for the kind of access: each entry stands at
-- its index of the table that the one before names
abbrev pub Reaches : Entries → AccessKind → ℕ → List ℕ → ℕ → Rights → Type 0
Reaches e kind table [] frame given = ⊥
Reaches e kind table (i ∷ below) frame given =
    ((next : ℕ) × (e (slot table i) ≡ Pointer next) × Reaches e kind next below frame given)
    ⊎ ((base : ℕ) × (rights : Rights) × (e (slot table i) ≡ Leaf base rights)
    × IsLawfulLeaf kind base rights below frame given)

-- how many levels are below an entry: none is where it names the next table, whose leaf has its own
abbrev pub level_at : Entry → ℕ → (ℕ → ℕ) → ℕ
level_at Outside below follow = below
level_at Invalid below follow = below
level_at (Pointer next) below follow = follow next
level_at (Leaf base rights) below follow = below

-- the level of the leaf to which the indices lead from the table: how many indices are below it
abbrev pub leaf_level : Entries → ℕ → List ℕ → ℕ
leaf_level e table [] = 0
leaf_level e table (i ∷ below) = level_at (e (slot table i)) (length below) (λ next. leaf_level e next below)

-- the leaf isn't lawful: a misaligned superpage, or its rights lack the kind of access
abbrev pub IsUnlawfulLeaf : AccessKind → ℕ → Rights → List ℕ → Type 0
IsUnlawfulLeaf kind base rights below = (base % pages_spanned below ≢ 0) ⊎ (allows rights kind ≡ false)

-- from the table the path along the indices is lawful up to an entry or a load that has this cause: `access` where a
-- load is outside memory, else `page`. They are what the access calls its faults in these tables. A pointer at the last
-- level leaves no index for the table that it names
abbrev pub StopsAs : Entries → AccessKind → Cause → Cause → ℕ → List ℕ → Cause → Type 0
StopsAs e kind page access table [] cause = cause ≡ page
StopsAs e kind page access table (i ∷ below) cause =
    ((next : ℕ) × (e (slot table i) ≡ Pointer next) × StopsAs e kind page access next below cause)
    ⊎ (((e (slot table i) ≡ Outside) × (cause ≡ access))
    ⊎ (((e (slot table i) ≡ Invalid) × (cause ≡ page))
    ⊎ ((base : ℕ) × (rights : Rights) × (e (slot table i) ≡ Leaf base rights) × (cause ≡ page)
    × IsUnlawfulLeaf kind base rights below)))

-- the same in the tables of a first stage, where they are page faults
abbrev pub Stops : Entries → AccessKind → ℕ → List ℕ → Cause → Type 0
Stops e kind table is cause = StopsAs e kind (page_fault_of kind) (access_fault_of kind) table is cause

-- the indices of a page in tables with so many entries each, the root's first: nine bits of the page number a level,
-- more in a root that is wider
abbrev pub path_of : List ℕ → ℕ → List ℕ
path_of [] page = []
path_of (width ∷ widths) page = page / table_entries ^ length widths % width ∷ path_of widths page

-- the widths of the tables of a first stage of so many levels: each is a frame of entries
abbrev pub first_widths : ℕ → List ℕ
first_widths levels = replicate levels table_entries

-- the indices of an address in such tables
abbrev pub first_path : ℕ → ℕ → List ℕ
first_path levels address = path_of (first_widths levels) (address / page_size)

-- the highest bit that such tables translate, 38 in Sv39 and 47 in Sv48, equals all higher bits of the 64
abbrev pub IsCanonical : ℕ → ℕ → Type 0
IsCanonical levels address = (address < 2 ^ (9 * levels + 11)) ⊎ (2 ^ 64 ≤ address + 2 ^ (9 * levels + 11))

-- the frame lies in memory
abbrev pub IsInMemory : List (List ℕ) → ℕ → Type 0
IsInMemory frames frame = frame < length frames

-- the path of the address from the root of a first stage reaches a leaf, whose page's frame lies in memory
pub record ReachesFirst (levels : ℕ) (frames : List (List ℕ)) (root address : ℕ) (kind : AccessKind)
    (walked : Walked) : Type 0 where
  pub canonical : IsCanonical levels address
  pub path : Reaches (entries frames) kind root (first_path levels address) walked.frame walked.rights
  pub inside : IsInMemory frames walked.frame
  pub level : walked.level ≡ leaf_level (entries frames) root (first_path levels address)
  pub no_guest : walked.guest_frames ≡ replicate 4 None

-- in one stage, a first or a second, the path along an address's indices stops with the cause: the stage's page fault,
-- where the address isn't lawful for it; the cause with which the path stops in the tables; or the access fault, where
-- it reaches a leaf whose page's frame lies outside memory
abbrev pub StopsIn : Type 0 → List (List ℕ) → AccessKind → Cause → Cause → ℕ → List ℕ → Cause → Type 0
StopsIn IsLawful frames kind page access root is cause =
    ((IsLawful → ⊥) × (cause ≡ page))
    ⊎ ((IsLawful × StopsAs (entries frames) kind page access root is cause)
    ⊎ (IsLawful × ((frame : ℕ) × (rights : Rights)
    × Reaches (entries frames) kind root is frame rights
    × (length frames ≤ frame) × (cause ≡ access))))

-- the path of the address from the root of a first stage stops with the cause. A lawful address is a canonical one
abbrev pub StopsAt : ℕ → List (List ℕ) → ℕ → ℕ → AccessKind → Cause → Type 0
StopsAt levels frames root address kind cause =
    StopsIn (IsCanonical levels address) frames kind (page_fault_of kind) (access_fault_of kind)
    root (first_path levels address) cause

-- the same, as the fault of a walk without a guest
pub record StopsFirst (levels : ℕ) (frames : List (List ℕ)) (root address : ℕ) (kind : AccessKind)
    (fault : WalkFault) : Type 0 where
  pub cause : StopsAt levels frames root address kind fault.cause
  pub no_guest_address : fault.gpa ≡ 0
  pub explicit : fault.implicit ≡ false
