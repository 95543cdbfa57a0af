-- Both stages of a translation (RISC-V Privileged Architecture, hypervisor extension, "Two-Stage Address Translation"):
-- the first stage's tables, and the page that it gives, stand at guest physical addresses, which the second stage leads
-- to memory. `levels` are those of the first stage, `levels'` those of the second.
use Rattle.std.specs.Prelude.{◌≡◌, ℕ, ◌+◌, ◌-◌, ◌*◌, ◌%◌, ◌&&◌, ◌⊎◌, true, false, List, [], ◌∷◌, length, replicate, Option, Some, None, if◌then◌else◌}
use Rattle.iom_base.specs.Causes.{page_fault_of}
use Rattle.iom_base.specs.Rights.{allows, r, rw}
use Rattle.iom_base.specs.Sizes.{page_size}
use Rattle.iom_base.specs.Tables.{entry_size, table_entries}
use Rattle.iom_base.specs.declared.access.AccessKind.{AccessKind}
use Rattle.iom_base.specs.declared.access.AccessKind.TheVariants.{Read, Write}
use Rattle.iom_base.specs.declared.cause.Cause.{Cause}
use Rattle.iom_base.specs.declared.rights.Rights.{Rights}
use Rattle.iom_stage_walk.specs.Entries.{entries, slot}
use Rattle.iom_stage_walk.specs.Paths.{IsLawfulLeaf, IsUnlawfulLeaf, IsCanonical, first_path}
use Rattle.iom_stage_walk.specs.Second.{LeadsTo, LeadsToFault}
use Rattle.iom_stage_walk.specs.declared.entry.Entry.{Entry}
use Rattle.iom_stage_walk.specs.declared.entry.Entry.TheVariants.{Invalid, Pointer, Leaf}
use Rattle.iom_stage_walk.specs.declared.walked.Walked.{Walked}
use Rattle.iom_stage_walk.specs.declared.walked.WalkFault.{WalkFault}

-- the guest physical address of an entry of the guest's tables, by its number
abbrev pub entry_address : ℕ → ℕ
entry_address s = entry_size * s

-- the entry of the guest's tables with this number is read from the frame: the second stage leads a read of its guest
-- physical address there, and this is what stands at that place in the frame
abbrev pub IsReadFrom : ℕ → List (List ℕ) → ℕ → ℕ → ℕ → Entry → Type 0
IsReadFrom levels' frames second s frame entry =
    (rights : Rights) × LeadsTo levels' frames second (entry_address s) Read frame rights
    × (entry ≡ entries frames (slot frame (s % table_entries)))

-- from the guest's table the indices, one a level, lead to a leaf that is lawful for the kind of access: it gives a
-- guest physical page. `loaded` are the frames from which the entries on the way are read, the table's first
abbrev pub ReachesGuest : ℕ → List (List ℕ) → ℕ → AccessKind → ℕ → List ℕ → List ℕ → ℕ → Rights → Type 0
ReachesGuest levels' frames second kind table [] loaded page given = ⊥
ReachesGuest levels' frames second kind table (i ∷ below) loaded page given =
    (frame : ℕ) × (entry : Entry) × IsReadFrom levels' frames second (slot table i) frame entry
    × (((next : ℕ) × (rest : List ℕ) × (entry ≡ Pointer next) × (loaded ≡ frame ∷ rest)
    × ReachesGuest levels' frames second kind next below rest page given)
    ⊎ ((base : ℕ) × (rights : Rights) × (entry ≡ Leaf base rights) × (loaded ≡ frame ∷ [])
    × IsLawfulLeaf kind base rights below page given))

-- a fault of the first stage, which tells no guest physical address
abbrev pub plain : Cause → WalkFault
plain cause = record { cause = cause; gpa = 0; implicit = false }

-- the entry lets no access of this kind pass to the page that the indices below it name
abbrev pub IsStop : AccessKind → List ℕ → Entry → Type 0
IsStop kind below entry =
    (entry ≡ Invalid) ⊎ ((base : ℕ) × (rights : Rights) × (entry ≡ Leaf base rights) × IsUnlawfulLeaf kind base rights below)

-- from the guest's table the path along the indices is lawful up to an entry that can't be read, with the fault to which
-- the second stage leads a read of its address, numbered by the kind of access; or up to one that stops the first stage,
-- with its page fault. A pointer at the last level leaves no index for the table that it names
abbrev pub StopsGuest : ℕ → List (List ℕ) → ℕ → AccessKind → ℕ → List ℕ → WalkFault → Type 0
StopsGuest levels' frames second kind table [] fault = fault ≡ plain (page_fault_of kind)
StopsGuest levels' frames second kind table (i ∷ below) fault =
    LeadsToFault levels' frames second (entry_address (slot table i)) Read kind true fault
    ⊎ ((frame : ℕ) × (entry : Entry) × IsReadFrom levels' frames second (slot table i) frame entry
    × (((next : ℕ) × (entry ≡ Pointer next) × StopsGuest levels' frames second kind next below fault)
    ⊎ (IsStop kind below entry × (fault ≡ plain (page_fault_of kind)))))

-- RW where both stages give it, else R
abbrev pub rights_of_both : Rights → Rights → Rights
rights_of_both first second = if allows first Write && allows second Write then rw else r

-- so many places, filled from the first on; the rest are empty
abbrev pub padded : ℕ → List ℕ → List (Option ℕ)
padded n [] = replicate n None
padded n (f ∷ fs) = Some f ∷ padded (n - 1) fs

-- the guest physical address of an access whose page is the one that the first stage gives
abbrev pub guest_address : ℕ → ℕ → ℕ
guest_address page address = page_size * page + address % page_size

-- a translation in both stages reaches a frame: the path of the address in the guest's tables reaches a page, and the
-- second stage leads the access from there to the frame. The leaf is the guest's: below it are the levels of which no
-- entry is read
pub record ReachesBoth (levels levels' : ℕ) (frames : List (List ℕ)) (first second address : ℕ) (kind : AccessKind)
    (walked : Walked) : Type 0 where
  pub canonical : IsCanonical levels address
  pub page : ℕ
  pub given : Rights
  pub loaded : List ℕ
  pub guest : ReachesGuest levels' frames second kind first (first_path levels address) loaded page given
  pub given' : Rights
  pub leads : LeadsTo levels' frames second (guest_address page address) kind walked.frame given'
  pub rights : walked.rights ≡ rights_of_both given given'
  pub level : walked.level ≡ levels - length loaded
  pub guest_frames : walked.guest_frames ≡ padded 4 loaded

-- it stops with a fault: the first stage's page fault, where the high bits of the address aren't lawful; the fault with
-- which the path stops in the guest's tables; or the one to which the second stage leads the access to the page
abbrev pub StopsBoth : ℕ → ℕ → List (List ℕ) → ℕ → ℕ → ℕ → AccessKind → WalkFault → Type 0
StopsBoth levels levels' frames first second address kind fault =
    ((IsCanonical levels address → ⊥) × (fault ≡ plain (page_fault_of kind)))
    ⊎ ((IsCanonical levels address × StopsGuest levels' frames second kind first (first_path levels address) fault)
    ⊎ (IsCanonical levels address × ((page : ℕ) × (given : Rights) × (loaded : List ℕ)
    × ReachesGuest levels' frames second kind first (first_path levels address) loaded page given
    × LeadsToFault levels' frames second (guest_address page address) kind kind false fault)))
