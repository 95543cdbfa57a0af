-- What it means that a claim is wrong, by why.
use Rattle.std.specs.Prelude.{◌≡◌, ◌⊎◌, ℕ, ◌<◌, List, length, Contains, ⊤}
use Rattle.iom_base.specs.declared.access.AccessKind.{AccessKind}
use Rattle.iom_claims.specs.Claimed.{Claimed, IsHeld, IsOpen}
use Rattle.iom_claims.specs.declared.grant.Grant.{Grant}
use Rattle.iom_claims.specs.declared.grant.OpenClaim.{OpenClaim}
use Rattle.iom_fabric.specs.declared.fabric.OnLink.{OnLink}
use Rattle.iom_board.specs.BoardParts.{BoardParts, board_parts}
use Rattle.iom_hardware_script.specs.declared.script.Claim.{Claim as Said}
use Rattle.iom_hardware_script.specs.declared.script.Claim.TheVariants as claim
use Rattle.iom_hardware_session.specs.declared.answer.ClaimAnswer.{ClaimAnswer}
use Rattle.iom_hardware_session.specs.declared.answer.ClaimAnswer.TheVariants as found
use Rattle.iom_hardware_session.specs.declared.answer.Wrong.{Wrong}
use Rattle.iom_hardware_session.specs.declared.answer.Wrong.TheVariants as wrong
use Rattle.iom_hardware_session.specs.Good.{scene_with}
use Rattle.iom_hardware_session.specs.Ready.{ReadyIsWrong}
use Rattle.iom_hardware_session.specs.ReadyPointed.{IsUnreadyByPointer}
use Rattle.iom_hardware_session.specs.Shown.{ShownHardware, knows_napot}
use Rattle.iom_hardware_session.specs.Timely.{IsTimelyMessage}
use Rattle.iom_ledger.specs.History.{May}
use Rattle.iom_reach.specs.Scene.{HardwareScene}
use Rattle.iom_way_survey.specs.Surveys.{IsReachedAs, IsReadAs, IsStoredAs, IsClash}

-- some message is of an epoch to come
abbrev pub IsUntimely : BoardParts → Type 0
IsUntimely parts = (on : OnLink) × Contains parts.fabric on × ¬ IsTimelyMessage parts on

-- Nothing can be certain: memory is larger than a survey, somebody who isn't software writes what hardware reads, or a message is of an epoch to come
abbrev pub IsUncertain : ShownHardware → List ℕ → Type 0
IsUncertain hardware trusted = (4096 < length hardware.board.memory) ⊎ (IsClash (scene_with hardware trusted) ⊎ IsUntimely (board_parts hardware.board))

-- hardware reads the frame, or the IOMMU stores a fault record or a fence's word there
abbrev pub HardwareUses : HardwareScene → ℕ → Type 0
HardwareUses scene frame = IsReadAs scene frame ⊎ IsStoredAs scene frame

-- a device holds the frame
abbrev pub SomebodyHolds : Claimed → ℕ → Type 0
SomebodyHolds claimed frame = (grant : Grant) × (grant.frame ≡ frame) × IsHeld claimed.history grant

-- a claim that withdrew it is open
abbrev pub SomebodyLingers : Claimed → ℕ → Type 0
SomebodyLingers claimed frame = (own : OpenClaim) × (own.grant.frame ≡ frame) × IsOpen claimed.history own

-- the device has a way to the frame that what is claimed doesn't allow
abbrev pub ReachesBeyond : HardwareScene → Claimed → (device frame : ℕ) → AccessKind → Type 0
ReachesBeyond scene claimed device frame kind = IsReachedAs scene device frame kind × ¬ May claimed.history device frame kind

-- WHY IT ISN'T TRUE that no way of the device to the frame is left
abbrev pub DoneIsWrong : Wrong → ShownHardware → List ℕ → Claimed → (device frame : ℕ) → Type 0
DoneIsWrong (wrong.Reached own kind) hardware trusted after device frame = (own ≡ device) × ReachesBeyond (scene_with hardware trusted) after device frame kind
DoneIsWrong wrong.Uncertain hardware trusted after device frame = IsUncertain hardware trusted
DoneIsWrong wrong.Held hardware trusted after device frame = ⊥
DoneIsWrong wrong.Lingers hardware trusted after device frame = ⊥
DoneIsWrong wrong.Used hardware trusted after device frame = ⊥
DoneIsWrong (wrong.NotReady found) hardware trusted after device frame = ⊥

-- that nobody uses the frame
abbrev pub HandOffIsWrong : Wrong → ShownHardware → List ℕ → Claimed → ℕ → Type 0
HandOffIsWrong wrong.Held hardware trusted before frame = SomebodyHolds before frame
HandOffIsWrong wrong.Lingers hardware trusted before frame = SomebodyLingers before frame
HandOffIsWrong (wrong.Reached own kind) hardware trusted before frame = IsReachedAs (scene_with hardware trusted) own frame kind
HandOffIsWrong wrong.Used hardware trusted before frame = HardwareUses (scene_with hardware trusted) frame
HandOffIsWrong wrong.Uncertain hardware trusted before frame = IsUncertain hardware trusted
HandOffIsWrong (wrong.NotReady found) hardware trusted before frame = ⊥

-- that the frame is nobody's
abbrev pub TakeIsWrong : Wrong → Claimed → ℕ → Type 0
TakeIsWrong wrong.Held before frame = SomebodyHolds before frame
TakeIsWrong wrong.Lingers before frame = SomebodyLingers before frame
TakeIsWrong (wrong.Reached own kind) before frame = ⊥
TakeIsWrong wrong.Used before frame = ⊥
TakeIsWrong wrong.Uncertain before frame = ⊥
TakeIsWrong (wrong.NotReady found) before frame = ⊥

-- that hardware doesn't use it
abbrev pub GrantIsWrong : Wrong → ShownHardware → List ℕ → ℕ → Type 0
GrantIsWrong wrong.Used hardware trusted frame = HardwareUses (scene_with hardware trusted) frame
GrantIsWrong wrong.Uncertain hardware trusted frame = 4096 < length hardware.board.memory
GrantIsWrong wrong.Held hardware trusted frame = ⊥
GrantIsWrong wrong.Lingers hardware trusted frame = ⊥
GrantIsWrong (wrong.Reached own kind) hardware trusted frame = ⊥
GrantIsWrong (wrong.NotReady found) hardware trusted frame = ⊥

-- WHAT A WRONG CLAIM MEANS, as hardware stands with these devices trusted, by what was claimed before it and after it
abbrev pub WrongMeans : Said → Wrong → ShownHardware → List ℕ → Claimed → Claimed → Type 0
WrongMeans (claim.Done number) why hardware trusted before after =
    (grant : Grant) × IsOpen before.history (record { number = number; grant = grant }) × DoneIsWrong why hardware trusted after grant.device grant.frame
WrongMeans (claim.HandOff frame) why hardware trusted before after = HandOffIsWrong why hardware trusted before frame
WrongMeans (claim.Take frame) why hardware trusted before after = TakeIsWrong why before frame
WrongMeans (claim.Grant device page frame rights) why hardware trusted before after = GrantIsWrong why hardware trusted frame
WrongMeans (claim.Ready device page) why hardware trusted before after =
    ReadyIsWrong why (knows_napot hardware.beside) hardware.board before device page ⊎ IsUnreadyByPointer hardware before device page why
WrongMeans (claim.Release device page) why hardware trusted before after = ⊥
WrongMeans (claim.Trust device) why hardware trusted before after = ⊥

-- of an answer that says so
abbrev pub IfWrong : ClaimAnswer → (Wrong → Type 0) → Type 0
IfWrong (found.Wrong why) IsSo = IsSo why
IfWrong found.Good IsSo = ⊤
IfWrong (found.Released number) IsSo = ⊤
IfWrong found.Trusted IsSo = ⊤
IfWrong (found.Refused why) IsSo = ⊤
IfWrong found.NoSuchClaim IsSo = ⊤
