-- What this crate proves.
use Rattle.std.specs.Prelude.{◌≡◌, ◌≤◌, ◌⊎◌, ℕ, Bool, true, false, List, length}
use Rattle.iom_base.specs.declared.access.AccessKind.{AccessKind}
use Rattle.iom_reach.specs.Memory.{Frame, Found, Nothing, Leaf, Format, WalkStep}
use Rattle.iom_reach.specs.Scene.{Mapping, PendingAccess, HardwareScene, reading}
use Rattle.iom_reach.specs.Ways.{Way}
use Rattle.iom_reach.specs.Safe.{IsRead, HasWord, IsSafe, AreTimely}
use Rattle.iom_reach.specs.Transitions.{Transition, Make, ComesAbout, ComeInTurn}

-- each way of the one scene is a way of the other
abbrev pub AddsNoWay : HardwareScene → HardwareScene → Type 0
AddsNoWay old new = (device frame : ℕ) (kind : AccessKind) → Way new device frame kind → Way old device frame kind

-- hardware reads no frame, and stores into none, that it didn't before
abbrev pub UsesNoMore : HardwareScene → HardwareScene → Type 0
UsesNoMore old new = (frame : ℕ) → (IsRead new frame → IsRead old frame) × (HasWord new frame → HasWord old frame) × (new.fault_frames ≡ old.fault_frames)

-- Whatever hardware and devices do adds no way, and leaves what hardware reads out of reach of hardware and devices.
abbrev pub TransitionsAddNoWay : Type 0
TransitionsAddNoWay = (transition : Transition) (old new : HardwareScene) → IsSafe old → AreTimely old → ComesAbout transition old new
    → AddsNoWay old new × UsesNoMore old new × IsSafe new × AreTimely new

-- So do any of these in turn.
abbrev pub TurnsAddNoWay : Type 0
TurnsAddNoWay = (transitions : List Transition) (old new : HardwareScene) → IsSafe old → AreTimely old → ComeInTurn old transitions new
    → AddsNoWay old new × UsesNoMore old new × IsSafe new × AreTimely new

-- Each access that is made had a way before, whatever hardware and devices did in between.
abbrev pub AccessesHadWays : Type 0
AccessesHadWays = (transitions : List Transition) (device : ℕ) (access : PendingAccess) (old between new : HardwareScene)
    → IsSafe old → AreTimely old → ComeInTurn old transitions between → ComesAbout (Make device access) between new
    → Way old device access.frame access.kind

-- by which kinds of access a device may reach a frame
abbrev pub Permission : Type 0
Permission = ℕ → ℕ → AccessKind → Bool

-- there is no way of the device to the frame but those that it may take
abbrev pub HasAllowedWaysAlone : Permission → HardwareScene → ℕ → ℕ → Type 0
HasAllowedWaysAlone may scene device frame = (kind : AccessKind) → Way scene device frame kind → may device frame kind ≡ true

-- Where a device has no way to a frame but those that it may take, each access of that device to that frame is one that it may make, whatever hardware and
-- devices do from then on.
abbrev pub QuietIsTrue : Type 0
QuietIsTrue = (may : Permission) (transitions : List Transition) (device : ℕ) (access : PendingAccess) (old between new : HardwareScene)
    → IsSafe old → AreTimely old → HasAllowedWaysAlone may old device access.frame
    → ComeInTurn old transitions between → ComesAbout (Make device access) between new
    → may device access.frame access.kind ≡ true

-- no device has any way to the frame
abbrev pub IsOutOfReach : HardwareScene → ℕ → Type 0
IsOutOfReach scene frame = (device : ℕ) (kind : AccessKind) → ¬ Way scene device frame kind

-- Where no device has any way to a frame, none reaches it, whatever hardware and devices do from then on.
abbrev pub FreeIsTrue : Type 0
FreeIsTrue = (transitions : List Transition) (device : ℕ) (access : PendingAccess) (old between new : HardwareScene)
    → IsSafe old → AreTimely old → IsOutOfReach old access.frame
    → ComeInTurn old transitions between → ¬ ComesAbout (Make device access) between new

-- Each way of a device that isn't trusted can be taken: hardware and devices come to an access of that kind, after two other transitions at most.
abbrev pub WaysCanBeTaken : Type 0
WaysCanBeTaken = (scene : HardwareScene) (device frame : ℕ) (kind : AccessKind) → scene.is_trusted device ≡ false → Way scene device frame kind
    → (transitions : List Transition) × (length transitions ≤ 2) × (between : HardwareScene) × (new : HardwareScene) × ComeInTurn scene transitions between
    × ComesAbout (Make device (record { frame = frame; kind = kind })) between new

-- at one place the same is found, or a leaf where nothing was
abbrev pub FindsMore : Found Mapping → Found Mapping → Type 0
FindsMore few more = (more ≡ few) ⊎ ((few ≡ Nothing) × ((mapping : Mapping) × (more ≡ Leaf mapping)))

-- HARDWARE THAT READS MORE: a format has all that the other finds, and may find a leaf where that finds nothing. So its walks read no other table
abbrev pub ReadsMore : Format Mapping → Format Mapping → Type 0
ReadsMore narrow wide = (frame : Frame) (place : ℕ) (left : List WalkStep) → FindsMore (narrow frame place left) (wide frame place left)

-- What may occur where entries of page tables are read by the one format may occur where they are read by the other.
abbrev pub TransitionsStay : Type 0
TransitionsStay = (wide : Format Mapping) (transition : Transition) (old new : HardwareScene) → ReadsMore old.formats.entry wide → ComesAbout transition old new
    → ComesAbout transition (reading wide old) (reading wide new)

-- So may any of these in turn.
abbrev pub TurnsStay : Type 0
TurnsStay = (wide : Format Mapping) (transitions : List Transition) (old new : HardwareScene) → ReadsMore old.formats.entry wide → ComeInTurn old transitions new
    → ComeInTurn (reading wide old) transitions (reading wide new)
