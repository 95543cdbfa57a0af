-- What it means that a claim is good.
use Rattle.std.specs.Prelude.{◌≡◌, ℕ, Bool, List, Contains, ⊤}
use Rattle.iom_base.specs.declared.access.AccessKind.{AccessKind}
use Rattle.iom_claims.specs.Claimed.{Claimed, IsHeld, IsOpen}
use Rattle.iom_claims.specs.declared.grant.Grant.{Grant}
use Rattle.iom_claims.specs.declared.grant.OpenClaim.{OpenClaim}
use Rattle.iom_board.specs.BoardParts.{BoardParts, board_parts}
use Rattle.iom_hardware_script.specs.declared.script.Claim.{Claim as Said}
use Rattle.iom_hardware_script.specs.declared.script.Claim.TheVariants as claim
use Rattle.iom_hardware_session.specs.declared.beside.Beside.{Beside}
use Rattle.iom_hardware_session.specs.declared.beside.Beside.TheVariants.{Nothing, UnderWay, Pointers}
use Rattle.iom_hardware_session.specs.declared.state.Session.{Session}
use Rattle.iom_hardware_session.specs.Ready.{IsReady}
use Rattle.iom_hardware_session.specs.ReadyPointed.{ArePointersReady}
use Rattle.iom_hardware_session.specs.Shown.{ShownHardware, knows_napot, shown_in}
use Rattle.iom_hardware_ways.specs.Scenes.{scene_of}
use Rattle.iom_ledger.specs.History.{May}
use Rattle.iom_pointer_ways.specs.Scenes.{pointed_scene}
use Rattle.iom_reach.specs.Laws.{IsOutOfReach}
use Rattle.iom_reach.specs.Safe.{IsRead, IsSafe, AreTimely, HasWord}
use Rattle.iom_reach.specs.Scene.{HardwareScene}
use Rattle.iom_reach.specs.Ways.{Way}
use Rattle.iom_stepped_ways.specs.Scenes.{stepped_scene}
use Rattle.iom_way_survey.specs.Surveys.{is_id_among}

-- what lies between devices and memory, also by what hardware keeps beside them
abbrev pub scene_by : (ℕ → Bool) → BoardParts → Beside → HardwareScene
scene_by trusted parts Nothing = scene_of trusted parts
scene_by trusted parts (UnderWay rows) = stepped_scene trusted parts rows
scene_by trusted parts (Pointers features pointers) = pointed_scene features.napot trusted parts pointers

-- so where these devices are trusted with all memory
abbrev pub scene_with : ShownHardware → List ℕ → HardwareScene
scene_with hardware trusted = scene_by (is_id_among trusted) (board_parts hardware.board) hardware.beside

abbrev pub scene_in : Session → HardwareScene
scene_in session = scene_with (shown_in session) session.trusted.items

-- Something can be certain: what hardware reads nobody but software writes, and no message is of an epoch to come
abbrev pub IsCertain : HardwareScene → Type 0
IsCertain scene = IsSafe scene × AreTimely scene

-- nobody holds the frame, and no claim that withdrew it is open
abbrev pub IsNobodys : Claimed → ℕ → Type 0
IsNobodys claimed frame =
    ((grant : Grant) → grant.frame ≡ frame → ¬ IsHeld claimed.history grant)
    × ((own : OpenClaim) → own.grant.frame ≡ frame → ¬ IsOpen claimed.history own)

-- hardware doesn't read the frame, and the IOMMU stores no fault record and no word of a fence there
abbrev pub IsUnused : HardwareScene → ℕ → Type 0
IsUnused scene frame = ¬ IsRead scene frame × ¬ Contains scene.fault_frames frame × ¬ HasWord scene frame

-- each way of the device to the frame is one that what is claimed allows
abbrev pub HasClaimedWaysAlone : HardwareScene → Claimed → (device frame : ℕ) → Type 0
HasClaimedWaysAlone scene claimed device frame = (kind : AccessKind) → Way scene device frame kind → May claimed.history device frame kind

-- that no way of the device to the frame is left but those that are claimed
abbrev pub DoneIsGood : HardwareScene → Claimed → Claimed → ℕ → Type 0
DoneIsGood scene before after number =
    IsCertain scene × ((grant : Grant) → IsOpen before.history (record { number = number; grant = grant }) → HasClaimedWaysAlone scene after grant.device grant.frame)

-- that nobody uses the frame
abbrev pub HandOffIsGood : HardwareScene → Claimed → ℕ → Type 0
HandOffIsGood scene before frame = IsCertain scene × IsNobodys before frame × IsOutOfReach scene frame × IsUnused scene frame

-- WHAT A GOOD CLAIM MEANS, as hardware stands with these devices trusted, by what was claimed before it and after it
abbrev pub GoodMeans : Said → ShownHardware → List ℕ → Claimed → Claimed → Type 0
GoodMeans (claim.Done number) hardware trusted before after = DoneIsGood (scene_with hardware trusted) before after number
GoodMeans (claim.HandOff frame) hardware trusted before after = HandOffIsGood (scene_with hardware trusted) before frame
GoodMeans (claim.Take frame) hardware trusted before after = IsNobodys before frame
GoodMeans (claim.Grant device page frame rights) hardware trusted before after = IsUnused (scene_with hardware trusted) frame
GoodMeans (claim.Ready device page) hardware trusted before after = IsReady (knows_napot hardware.beside) hardware.board before device page × ArePointersReady hardware before device page
GoodMeans (claim.Release device page) hardware trusted before after = ⊤
GoodMeans (claim.Trust device) hardware trusted before after = ⊤
