-- The numbers and names of refusals, the line that tells one, and which of several reasons is told. The reasons of each call, in their
-- order, are the ledger machine's: `specs/Refusals.antt` of iom_machine has them.
use Rattle.std.specs.Prelude.{◌≡◌, ℕ, Bool, List, [], ◌∷◌, ◌++◌, Option, Some, None, MatchOption, codes, if◌then◌else◌}
use Rattle.std.specs.Fmt.{decimal}
use Rattle.iom_base.specs.declared.refusal.Refusal.{Refusal}
use Rattle.iom_base.specs.declared.refusal.Refusal.TheVariants.{NoSuchDevice, AlreadyAttached, NotAttached, NotTrusted, FrameOutOfRange, FrameReserved, IovaOutOfRange, IovaBusy, NotGranted, NoFrames, QueueFull, TooManyPending, Quarantined, NumbersUsedUp, Memory, StillGranted, IdTooWide, TooManyDevices, NotStarted, AlreadyPlugged, WrongKind, BadMedium, BadQueue}

-- the number of a refusal
abbrev pub number_of : Refusal → ℕ
number_of NoSuchDevice = 1
number_of AlreadyAttached = 2
number_of NotAttached = 3
number_of NotTrusted = 4
number_of FrameOutOfRange = 5
number_of FrameReserved = 6
number_of IovaOutOfRange = 7
number_of IovaBusy = 8
number_of NotGranted = 9
number_of NoFrames = 10
number_of QueueFull = 11
number_of TooManyPending = 12
number_of Quarantined = 13
number_of NumbersUsedUp = 14
number_of Memory = 15
number_of StillGranted = 16
number_of IdTooWide = 17
number_of TooManyDevices = 18
number_of NotStarted = 19
number_of AlreadyPlugged = 20
number_of WrongKind = 21
number_of BadMedium = 22
number_of BadQueue = 23

-- the name of a refusal
abbrev pub name_of : Refusal → List ℕ
name_of NoSuchDevice = codes "NoSuchDevice"
name_of AlreadyAttached = codes "AlreadyAttached"
name_of NotAttached = codes "NotAttached"
name_of NotTrusted = codes "NotTrusted"
name_of FrameOutOfRange = codes "FrameOutOfRange"
name_of FrameReserved = codes "FrameReserved"
name_of IovaOutOfRange = codes "IovaOutOfRange"
name_of IovaBusy = codes "IovaBusy"
name_of NotGranted = codes "NotGranted"
name_of NoFrames = codes "NoFrames"
name_of QueueFull = codes "QueueFull"
name_of TooManyPending = codes "TooManyPending"
name_of Quarantined = codes "Quarantined"
name_of NumbersUsedUp = codes "NumbersUsedUp"
name_of Memory = codes "Memory"
name_of StillGranted = codes "StillGranted"
name_of IdTooWide = codes "IdTooWide"
name_of TooManyDevices = codes "TooManyDevices"
name_of NotStarted = codes "NotStarted"
name_of AlreadyPlugged = codes "AlreadyPlugged"
name_of WrongKind = codes "WrongKind"
name_of BadMedium = codes "BadMedium"
name_of BadQueue = codes "BadQueue"

-- the line of a refused call
abbrev pub text_of : Refusal → List ℕ
text_of refusal = codes "refused " ++ decimal (number_of refusal) ++ codes " " ++ name_of refusal

-- the first refusal whose reason applies, of reasons in the order in which a call tests them
abbrev pub first_that_applies : List (Bool × Refusal) → Option Refusal
first_that_applies [] = None
first_that_applies (reason ∷ later) = if reason.0 then Some reason.1 else first_that_applies later

-- no reason applies
abbrev pub NoneApplies : List (Bool × Refusal) → Type 0
NoneApplies reasons = first_that_applies reasons ≡ None

-- the refusal is the first that applies, or, where none does, one that may come all the same
abbrev pub IsRefusedBy : List (Bool × Refusal) → (Refusal → Type 0) → Refusal → Type 0
IsRefusedBy reasons MayCome why = MatchOption (first_that_applies reasons) (MayCome why) (λ first. why ≡ first)
