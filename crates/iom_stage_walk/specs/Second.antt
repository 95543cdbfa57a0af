-- The second stage of a translation, from guest physical addresses to memory (RISC-V Privileged Architecture, hypervisor
-- extension, "Two-Stage Address Translation", guest physical address translation; Sv39x4 and Sv48x4), for any number of levels.
use Rattle.std.specs.Prelude.{◌≡◌, ℕ, ◌+◌, ◌*◌, ◌/◌, ◌^◌, ◌<◌, Bool, false, zero, suc, List, [], ◌∷◌, replicate, None}
use Rattle.iom_base.specs.Causes.{guest_page_fault_of}
use Rattle.iom_base.specs.Tables.{access_fault_of, table_entries}
use Rattle.iom_base.specs.Sizes.{page_size}
use Rattle.iom_base.specs.declared.access.AccessKind.{AccessKind}
use Rattle.iom_base.specs.declared.cause.Cause.{Cause}
use Rattle.iom_base.specs.declared.cause.Cause.TheVariants.{ReadGuestPageFault, WriteGuestPageFault}
use Rattle.iom_base.specs.declared.rights.Rights.{Rights}
use Rattle.iom_stage_walk.specs.Entries.{entries}
use Rattle.iom_stage_walk.specs.Paths.{Reaches, leaf_level, StopsIn, path_of, IsInMemory}
use Rattle.iom_stage_walk.specs.declared.walked.Walked.{Walked}
use Rattle.iom_stage_walk.specs.declared.walked.WalkFault.{WalkFault}

-- the entries of the root of a second stage, which fills four frames
abbrev pub root_entries : ℕ
root_entries = 2048

-- the widths of the tables of a second stage of so many levels: those of a first stage, but for the wider root
abbrev pub second_widths : ℕ → List ℕ
second_widths zero = []
second_widths (suc below) = root_entries ∷ replicate below table_entries

-- the indices of a guest physical address in such tables
abbrev pub second_path : ℕ → ℕ → List ℕ
second_path levels address = path_of (second_widths levels) (address / page_size)

-- all bits above those that such tables translate, 41 in Sv39x4 and 50 in Sv48x4, are zero
abbrev pub IsGuestPhysical : ℕ → ℕ → Type 0
IsGuestPhysical levels address = address < 2 ^ (9 * levels + 14)

-- the second stage leads an access of this kind from the guest physical address to the frame, and allows these rights
-- there: the path of the address reaches a leaf, whose page's frame lies in memory
pub record LeadsTo (levels : ℕ) (frames : List (List ℕ)) (root address : ℕ) (kind : AccessKind)
    (frame : ℕ) (rights : Rights) : Type 0 where
  pub guest_physical : IsGuestPhysical levels address
  pub path : Reaches (entries frames) kind root (second_path levels address) frame rights
  pub inside : IsInMemory frames frame

-- the second stage leads an access of this kind from the guest physical address nowhere, with the cause. Its faults are
-- guest page faults and access faults, numbered by the original access: a first stage's entry is read whatever that is
abbrev pub LeadsNowhere : ℕ → List (List ℕ) → ℕ → ℕ → AccessKind → AccessKind → Cause → Type 0
LeadsNowhere levels frames root address kind original cause =
    StopsIn (IsGuestPhysical levels address) frames kind (guest_page_fault_of original) (access_fault_of original)
    root (second_path levels address) cause

-- what is reported of a fault at a guest physical address: a guest page fault tells the address, and whether it is that
-- of a first stage's entry, which the walk itself reads; other faults tell neither
abbrev pub reported : Cause → ℕ → Bool → WalkFault
reported ReadGuestPageFault address implicit = record { cause = ReadGuestPageFault; gpa = address; implicit = implicit }
reported WriteGuestPageFault address implicit = record { cause = WriteGuestPageFault; gpa = address; implicit = implicit }
reported cause address implicit = record { cause = cause; gpa = 0; implicit = false }

-- it leads nowhere, and this is what is reported
abbrev pub LeadsToFault : ℕ → List (List ℕ) → ℕ → ℕ → AccessKind → AccessKind → Bool → WalkFault → Type 0
LeadsToFault levels frames root address kind original implicit fault =
    (cause : Cause) × LeadsNowhere levels frames root address kind original cause
    × (fault ≡ reported cause address implicit)

-- a translation in the second stage alone reaches a frame: the address of the access is a guest physical address
pub record ReachesSecond (levels : ℕ) (frames : List (List ℕ)) (root address : ℕ) (kind : AccessKind)
    (walked : Walked) : Type 0 where
  pub leads : LeadsTo levels frames root address kind walked.frame walked.rights
  pub level : walked.level ≡ leaf_level (entries frames) root (second_path levels address)
  pub no_guest : walked.guest_frames ≡ replicate 4 None

-- it stops with the fault
abbrev pub StopsSecond : ℕ → List (List ℕ) → ℕ → ℕ → AccessKind → WalkFault → Type 0
StopsSecond levels frames root address kind fault = LeadsToFault levels frames root address kind kind false fault
