-- What is proved of hardware whose walks make one load an event, and of the ways that devices have in it.
use Rattle.std.specs.Prelude.{◌≡◌, ℕ, Bool, true, List, length, Some, None, Ok}
use Rattle.iom_board.specs.BoardParts.{BoardParts}
use Rattle.iom_board.specs.Commits.{CommitsOldestAccess}
use Rattle.iom_inflight.specs.declared.made.MadeAt.{MadeAt}
use Rattle.iom_ledger.specs.History.{History, May}
use Rattle.iom_base.specs.declared.access.AccessKind.{AccessKind}
use Rattle.iom_walks.specs.Invariant.{AreWalks}
use Rattle.iom_walks.specs.Walks.{UnderWay, WalkRow, under_way_of}
use Rattle.iom_reach.specs.Laws.{AddsNoWay, UsesNoMore, Permission, HasAllowedWaysAlone, IsOutOfReach}
use Rattle.iom_reach.specs.Safe.{IsSafe, AreTimely}
use Rattle.iom_reach.specs.Scene.{HardwareScene}
use Rattle.iom_reach.specs.Transitions.{Transition, ComeInTurn}
use Rattle.iom_reach.specs.Ways.{Way}
use Rattle.iom_hardware_ways.specs.Scenes.{scene_of}
use Rattle.iom_stepped_ways.specs.Calls.{SteppedCall, SteppedEffect, IsByHardware, SteppedInvariant, DoSteppedInTurn}
use Rattle.iom_stepped_ways.specs.Scenes.{Covers, AreForKinds, stepped_scene, with_added}

-- SCENES

-- the scene of hardware and of what is under way covers both, where each walk is for what its request asks for
abbrev pub ScenesCover : Type 0
ScenesCover = (trusted : ℕ → Bool) (parts : BoardParts) (rows : List WalkRow) → AreWalks rows → AreForKinds rows → Covers trusted parts rows (stepped_scene trusted parts rows)

-- so each is where any scene covers them; and so it stays, whatever is called
abbrev pub CoveredAreForKinds : Type 0
CoveredAreForKinds = (trusted : ℕ → Bool) (parts : BoardParts) (rows : List WalkRow) (scene : HardwareScene) → Covers trusted parts rows scene → AreForKinds rows

abbrev pub KindsStay : Type 0
KindsStay = (call : SteppedCall) (events : ℕ) (old new : BoardParts) (rows new_rows : List WalkRow) → SteppedInvariant old rows events
    → SteppedEffect call old rows new new_rows → AreForKinds rows → AreForKinds new_rows

-- where nothing is under way that of hardware does
abbrev pub WholeScenesCover : Type 0
WholeScenesCover = (trusted : ℕ → Bool) (parts : BoardParts) (rows : List WalkRow) → ((id : ℕ) → under_way_of rows id ≡ None) → Covers trusted parts rows (scene_of trusted parts)

-- what is under way then was so before, and stands where it stood
abbrev pub AreLeft : List WalkRow → List WalkRow → Type 0
AreLeft rows new_rows = (id : ℕ) (under_way : UnderWay) → under_way_of new_rows id ≡ Some under_way → under_way_of rows id ≡ Some under_way

-- Whatever software does to memory of this size, to registers and to devices, and whatever of what is under way is given up by it: a scene with what was added
-- before covers what is under way then. So between two loads tables and the directory may change, and what a walk has in hand stays a way
abbrev pub ScenesOutliveSoftware : Type 0
ScenesOutliveSoftware = (trusted trusted' : ℕ → Bool) (old new : BoardParts) (rows new_rows : List WalkRow) (scene : HardwareScene)
    (covers : Covers trusted old rows scene) → length new.memory ≡ length old.memory → AreLeft rows new_rows
    → Covers trusted' new new_rows (with_added (scene_of trusted' new) covers.added)

-- and each walk is still for the kind of access that its request asks for
abbrev pub KindsOutliveSoftware : Type 0
KindsOutliveSoftware = (rows new_rows : List WalkRow) → AreLeft rows new_rows → AreForKinds rows → AreForKinds new_rows

-- THE CALLS

-- each call is a list of transitions, from any scene that covers what was there to one that covers what is
abbrev pub SteppedCallsAreTransitions : Type 0
SteppedCallsAreTransitions = (trusted : ℕ → Bool) (call : SteppedCall) (events : ℕ) (old new : BoardParts) (rows new_rows : List WalkRow) (scene : HardwareScene)
    → SteppedInvariant old rows events → SteppedEffect call old rows new new_rows → IsByHardware trusted call → Covers trusted old rows scene
    → (transitions : List Transition) × (next : HardwareScene) × ComeInTurn scene transitions next × Covers trusted new new_rows next

-- each call leaves memory of its size
abbrev pub SteppedCallsKeepSize : Type 0
SteppedCallsKeepSize = (call : SteppedCall) (old new : BoardParts) (rows new_rows : List WalkRow) → SteppedEffect call old rows new new_rows
    → length new.memory ≡ length old.memory

-- NO CALL ADDS A WAY: where hardware and devices can't write what hardware reads, also of a walk that is under way, no list of calls does
abbrev pub SteppedCallsAddNoWay : Type 0
SteppedCallsAddNoWay = (trusted : ℕ → Bool) (calls : List SteppedCall) (events : ℕ) (old new : BoardParts) (rows new_rows : List WalkRow) (scene : HardwareScene)
    → Covers trusted old rows scene → IsSafe scene → AreTimely scene → DoSteppedInTurn trusted events old rows calls new new_rows
    → (next : HardwareScene) × Covers trusted new new_rows next × AddsNoWay scene next × UsesNoMore scene next × IsSafe next × AreTimely next

-- these calls come one after another from there, where the scene covers it and is safe, and then the device makes this access
pub record MakesAfter (trusted : ℕ → Bool) (scene : HardwareScene) (id : ℕ) (made : MadeAt) : Type 0 where
  pub old : BoardParts
  pub rows : List WalkRow
  pub covers : Covers trusted old rows scene
  pub calls : List SteppedCall
  pub events : ℕ
  pub between : BoardParts
  pub between_rows : List WalkRow
  pub turns : DoSteppedInTurn trusted events old rows calls between between_rows
  pub new : BoardParts
  pub makes : CommitsOldestAccess between id (Ok (Some made)) new

-- each access that is made had its way at the beginning
abbrev pub SteppedAccessesHadWays : Type 0
SteppedAccessesHadWays = (trusted : ℕ → Bool) (scene : HardwareScene) (id : ℕ) (made : MadeAt) → IsSafe scene → AreTimely scene
    → MakesAfter trusted scene id made → Way scene id made.frame made.kind

-- WHAT WAS WITHDRAWN IS OUT OF REACH: a device without a way to a frame, but those that it may take, makes no other access there
abbrev pub SteppedQuietStaysQuiet : Type 0
SteppedQuietStaysQuiet = (trusted : ℕ → Bool) (may : Permission) (scene : HardwareScene) (id : ℕ) (made : MadeAt) → IsSafe scene → AreTimely scene
    → HasAllowedWaysAlone may scene id made.frame → MakesAfter trusted scene id made → may id made.frame made.kind ≡ true

-- A CLAIM THAT IS GOOD STAYS TRUE
abbrev pub SteppedGoodClaimsHold : Type 0
SteppedGoodClaimsHold = (trusted : ℕ → Bool) (claimed : History) (scene : HardwareScene) (id : ℕ) (made : MadeAt) → IsSafe scene → AreTimely scene
    → ((kind : AccessKind) → Way scene id made.frame kind → May claimed id made.frame kind) → MakesAfter trusted scene id made → May claimed id made.frame made.kind

-- NOBODY USES THE FRAME: where no device has a way to it, no access is made there
abbrev pub SteppedFreeStaysFree : Type 0
SteppedFreeStaysFree = (trusted : ℕ → Bool) (scene : HardwareScene) (id : ℕ) (made : MadeAt) → IsSafe scene → AreTimely scene
    → IsOutOfReach scene made.frame → ¬ MakesAfter trusted scene id made
