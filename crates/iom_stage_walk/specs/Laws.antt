-- Laws of the paths of a first stage, of a second, and of both.
use Rattle.std.specs.Prelude.{◌≡◌, ◌↔◌, ◌⊎◌, ◌%◌, ℕ, true, false, List, Option, None, Some}
use Rattle.std.specs.List.{All}
use Rattle.iom_base.specs.Causes.{page_fault_of, guest_page_fault_of}
use Rattle.iom_base.specs.Tables.{access_fault_of, entry_size}
use Rattle.iom_base.specs.Rights.{allows}
use Rattle.iom_base.specs.declared.access.AccessKind.{AccessKind}
use Rattle.iom_base.specs.declared.rights.Rights.{Rights}
use Rattle.iom_base.specs.declared.access.AccessKind.TheVariants.{Read, Write}
use Rattle.iom_stage_walk.specs.Paths.{ReachesFirst, StopsFirst}
use Rattle.iom_stage_walk.specs.Second.{LeadsTo, ReachesSecond, StopsSecond}
use Rattle.iom_stage_walk.specs.Both.{ReachesBoth, StopsBoth}
use Rattle.iom_stage_walk.specs.Through.{SameIn, first_through, second_through}
use Rattle.iom_stage_walk.specs.declared.walked.Walked.{Walked}
use Rattle.iom_stage_walk.specs.declared.walked.WalkFault.{WalkFault}

-- the paths of an address reach one leaf, whatever the kinds of access
abbrev pub OneLeaf : Type 0
OneLeaf = (levels : ℕ) (frames : List (List ℕ)) (root address : ℕ) (kind kind' : AccessKind) (walked walked' : Walked)
    → ReachesFirst levels frames root address kind walked → ReachesFirst levels frames root address kind' walked' → walked ≡ walked'

-- no path both reaches a leaf and stops, and it stops with one fault
abbrev pub OneEnd : Type 0
OneEnd = (levels : ℕ) (frames : List (List ℕ)) (root address : ℕ) (kind : AccessKind) (fault : WalkFault)
    → StopsFirst levels frames root address kind fault
    → ((walked : Walked) → ReachesFirst levels frames root address kind walked → ⊥)
    × ((fault' : WalkFault) → StopsFirst levels frames root address kind fault' → fault ≡ fault')

-- a path reaches for a write exactly where it reaches for a read, and the right that it gives allows writes
abbrev pub WritesAsReads : Type 0
WritesAsReads = (levels : ℕ) (frames : List (List ℕ)) (root address : ℕ) (walked : Walked)
    → ReachesFirst levels frames root address Write walked ↔ (ReachesFirst levels frames root address Read walked × (allows walked.rights Write ≡ true))

-- two memories that are alike on the frames that the path goes through have the same path
abbrev pub SamePath : Type 0
SamePath = (levels : ℕ) (old new : List (List ℕ)) (root address : ℕ) → SameIn (first_through levels old root address) old new
    → (first_through levels new root address ≡ first_through levels old root address)
    × ((kind : AccessKind) (walked : Walked) → ReachesFirst levels old root address kind walked ↔ ReachesFirst levels new root address kind walked)
    × ((kind : AccessKind) (fault : WalkFault) → StopsFirst levels old root address kind fault ↔ StopsFirst levels new root address kind fault)

-- `OneLeaf` of a second stage
abbrev pub OneLeafSecond : Type 0
OneLeafSecond = (levels : ℕ) (frames : List (List ℕ)) (root address : ℕ) (kind kind' : AccessKind) (walked walked' : Walked)
    → ReachesSecond levels frames root address kind walked → ReachesSecond levels frames root address kind' walked' → walked ≡ walked'

-- `OneEnd` of a second stage
abbrev pub OneEndSecond : Type 0
OneEndSecond = (levels : ℕ) (frames : List (List ℕ)) (root address : ℕ) (kind : AccessKind) (fault : WalkFault)
    → StopsSecond levels frames root address kind fault
    → ((walked : Walked) → ReachesSecond levels frames root address kind walked → ⊥)
    × ((fault' : WalkFault) → StopsSecond levels frames root address kind fault' → fault ≡ fault')

-- `WritesAsReads` of a second stage
abbrev pub WritesAsReadsSecond : Type 0
WritesAsReadsSecond = (levels : ℕ) (frames : List (List ℕ)) (root address : ℕ) (walked : Walked)
    → ReachesSecond levels frames root address Write walked ↔ (ReachesSecond levels frames root address Read walked × (allows walked.rights Write ≡ true))

-- `SamePath` of a second stage
abbrev pub SamePathSecond : Type 0
SamePathSecond = (levels : ℕ) (old new : List (List ℕ)) (root address : ℕ) → SameIn (second_through levels old root address) old new
    → (second_through levels new root address ≡ second_through levels old root address)
    × ((kind : AccessKind) (walked : Walked) → ReachesSecond levels old root address kind walked ↔ ReachesSecond levels new root address kind walked)
    × ((kind : AccessKind) (fault : WalkFault) → StopsSecond levels old root address kind fault ↔ StopsSecond levels new root address kind fault)

-- `OneLeaf` of both stages
abbrev pub OneLeafBoth : Type 0
OneLeafBoth = (levels levels' : ℕ) (frames : List (List ℕ)) (first second address : ℕ) (kind kind' : AccessKind) (walked walked' : Walked)
    → ReachesBoth levels levels' frames first second address kind walked → ReachesBoth levels levels' frames first second address kind' walked' → walked ≡ walked'

-- `OneEnd` of both stages
abbrev pub OneEndBoth : Type 0
OneEndBoth = (levels levels' : ℕ) (frames : List (List ℕ)) (first second address : ℕ) (kind : AccessKind) (fault : WalkFault)
    → StopsBoth levels levels' frames first second address kind fault
    → ((walked : Walked) → ReachesBoth levels levels' frames first second address kind walked → ⊥)
    × ((fault' : WalkFault) → StopsBoth levels levels' frames first second address kind fault' → fault ≡ fault')

-- `WritesAsReads` of both stages
abbrev pub WritesAsReadsBoth : Type 0
WritesAsReadsBoth = (levels levels' : ℕ) (frames : List (List ℕ)) (first second address : ℕ) (walked : Walked)
    → ReachesBoth levels levels' frames first second address Write walked ↔ (ReachesBoth levels levels' frames first second address Read walked × (allows walked.rights Write ≡ true))

-- the place is empty, or the second stage leads a read of some guest physical address to the frame in it
abbrev pub IsLed : ℕ → List (List ℕ) → ℕ → Option ℕ → Type 0
IsLed levels' frames second None = Unit {0}
IsLed levels' frames second (Some frame) =
    (guest : ℕ) × (rights : Rights) × LeadsTo levels' frames second guest Read frame rights

-- where both stages reach, each frame from which a guest's table was read, and the frame that is reached, is one to
-- which the second stage leads: a read, and the access itself with all that is given
abbrev pub GuestFramesAreLed : Type 0
GuestFramesAreLed = (levels levels' : ℕ) (frames : List (List ℕ)) (first second address : ℕ) (kind : AccessKind) (walked : Walked)
    → ReachesBoth levels levels' frames first second address kind walked
    → All (IsLed levels' frames second) walked.guest_frames
    × ((guest : ℕ) × (rights : Rights) × LeadsTo levels' frames second guest kind walked.frame rights
    × (allows walked.rights Write ≡ true → allows rights Write ≡ true))

-- what a fault tells, of an access of this kind, which numbers it: a guest page fault alone tells an address, which is
-- that of an entry, eight bytes, where the walk's own read failed
abbrev pub IsReported : AccessKind → WalkFault → Type 0
IsReported kind fault =
    ((fault.cause ≡ guest_page_fault_of kind) × (fault.implicit ≡ true → fault.gpa % entry_size ≡ 0))
    ⊎ (((fault.cause ≡ page_fault_of kind) ⊎ (fault.cause ≡ access_fault_of kind))
    × (fault.gpa ≡ 0) × (fault.implicit ≡ false))

-- where both stages stop, the fault tells this
abbrev pub FaultsAreReported : Type 0
FaultsAreReported = (levels levels' : ℕ) (frames : List (List ℕ)) (first second address : ℕ) (kind : AccessKind) (fault : WalkFault)
    → StopsBoth levels levels' frames first second address kind fault → IsReported kind fault
