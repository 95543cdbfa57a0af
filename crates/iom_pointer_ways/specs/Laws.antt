-- What is proved of hardware that caches pointers to tables, and of the ways that devices have in it.
use Rattle.std.specs.Prelude.{◌≡◌, ◌⊎◌, ℕ, ◌<◌, Bool, true, List, ◌∷◌, replicate, Contains, Some, Ok}
use Rattle.iom_base.specs.Tables.{table_entries}
use Rattle.iom_base.specs.declared.access.AccessKind.{AccessKind}
use Rattle.iom_board.specs.BoardParts.{BoardParts}
use Rattle.iom_board.specs.Commits.{CommitsOldestAccess}
use Rattle.iom_board.specs.Invariant.{BoardInvariant}
use Rattle.iom_hardware_ways.specs.Formats.{steps_along}
use Rattle.iom_inflight.specs.declared.made.MadeAt.{MadeAt}
use Rattle.iom_ledger.specs.History.{History, May}
use Rattle.iom_pointers.specs.Pointers.{Follows}
use Rattle.iom_pointers.specs.declared.pointer.Pointer.{Pointer}
use Rattle.iom_reach.specs.Laws.{AddsNoWay, UsesNoMore, Permission, HasAllowedWaysAlone, IsOutOfReach}
use Rattle.iom_reach.specs.Memory.{ReadsFrame}
use Rattle.iom_reach.specs.Safe.{IsSafe, AreTimely, IsOfTables}
use Rattle.iom_reach.specs.Scene.{Context, Mapping, HardwareScene}
use Rattle.iom_reach.specs.Transitions.{Transition, ComeInTurn}
use Rattle.iom_reach.specs.Ways.{Way, WalkBegins, MayFind, LeadsToMapping, ServesKind, space_of}
use Rattle.iom_stepped_walk.specs.Indices.{width_of}
use Rattle.iom_stepped_walk.specs.declared.hand.TableInHand.{TableInHand}
use Rattle.iom_stepped_ways.specs.Scenes.{address_space, with_added}
use Rattle.iom_tlb.specs.declared.space.Space.{Space}
use Rattle.iom_pointer_ways.specs.Calls.{PointedCall, PointedEffect, ArePassed, IsByHardware, DoPointedInTurn}
use Rattle.iom_pointer_ways.specs.Scenes.{walk_from, walks_from, pointed_scene}

-- WHAT POINTERS ADD to a scene

-- a context that a request of the device may find has the address space of one of the pointers, and a walk from there leads to the frame
abbrev pub LeadsByPointer : HardwareScene → List Pointer → (device frame : ℕ) → AccessKind → Type 0
LeadsByPointer scene pointers device frame kind =
    (context : Context) × MayFind scene device context
    × ((pointer : Pointer) × Contains pointers pointer × (space_of context.stages ≡ Some (address_space pointer.space))
    × ((mapping : Mapping) × LeadsToMapping scene.formats scene.memory pointer.table.number (walk_from pointer).steps_to mapping × ServesKind mapping frame kind))

-- each way of the scene with them is one of the scene without, or leads by a pointer; and each of these is one
abbrev pub PointersAddTheirWays : Type 0
PointersAddTheirWays = (scene : HardwareScene) (pointers : List Pointer) (device frame : ℕ) (kind : AccessKind)
    → (Way (with_added scene (walks_from pointers)) device frame kind → Way scene device frame kind ⊎ LeadsByPointer scene pointers device frame kind)
    × (Way scene device frame kind ⊎ LeadsByPointer scene pointers device frame kind → Way (with_added scene (walks_from pointers)) device frame kind)

-- a walk from one of the pointers reads the frame
abbrev pub ReadsByPointer : HardwareScene → List Pointer → ℕ → Type 0
ReadsByPointer scene pointers frame =
    (pointer : Pointer) × Contains pointers pointer
    × ((page : ℕ) × ReadsFrame scene.formats.entry scene.memory pointer.table.number ((walk_from pointer).steps_to page) frame)

abbrev pub PointersAddTheirTables : Type 0
PointersAddTheirTables = (scene : HardwareScene) (pointers : List Pointer) (frame : ℕ)
    → (IsOfTables (with_added scene (walks_from pointers)) frame → IsOfTables scene frame ⊎ ReadsByPointer scene pointers frame)
    × (IsOfTables scene frame ⊎ ReadsByPointer scene pointers frame → IsOfTables (with_added scene (walks_from pointers)) frame)

-- WHAT IS FOLLOWED IS PASSED: from a table at which a walk of the space may begin, each pointer that is kept was kept before, or such a walk passes by it
abbrev pub FollowedArePassed : Type 0
FollowedArePassed = (napot : Bool) (trusted : ℕ → Bool) (parts : BoardParts) (pointers new_pointers : List Pointer) (space : Space) (hand : TableInHand) → hand.level < 4
    → WalkBegins (pointed_scene napot trusted parts pointers) (address_space space) hand.table.number
    (steps_along (width_of hand.is_wide ∷ replicate hand.level table_entries))
    → Follows parts.memory space hand pointers new_pointers → ArePassed napot trusted parts pointers new_pointers

-- THE CALLS

-- each call is a list of transitions
abbrev pub PointedCallsAreTransitions : Type 0
PointedCallsAreTransitions = (napot : Bool) (trusted : ℕ → Bool) (call : PointedCall) (events : ℕ) (old new : BoardParts) (pointers new_pointers : List Pointer) → BoardInvariant old events
    → PointedEffect napot trusted call old pointers new new_pointers → IsByHardware trusted call
    → (transitions : List Transition) × ComeInTurn (pointed_scene napot trusted old pointers) transitions (pointed_scene napot trusted new new_pointers)

-- NO CALL ADDS A WAY: where hardware and devices can't write what hardware reads, also by a pointer, no list of calls does
abbrev pub PointedCallsAddNoWay : Type 0
PointedCallsAddNoWay = (napot : Bool) (trusted : ℕ → Bool) (calls : List PointedCall) (events : ℕ) (old new : BoardParts) (pointers new_pointers : List Pointer)
    → IsSafe (pointed_scene napot trusted old pointers) → AreTimely (pointed_scene napot trusted old pointers) → DoPointedInTurn napot trusted events old pointers calls new new_pointers
    → AddsNoWay (pointed_scene napot trusted old pointers) (pointed_scene napot trusted new new_pointers) × UsesNoMore (pointed_scene napot trusted old pointers) (pointed_scene napot trusted new new_pointers)
    × IsSafe (pointed_scene napot trusted new new_pointers) × AreTimely (pointed_scene napot trusted new new_pointers)

-- these calls come one after another from there, and then the device makes this access
pub record MakesAfter (napot : Bool) (trusted : ℕ → Bool) (parts : BoardParts) (pointers : List Pointer) (id : ℕ) (made : MadeAt) : Type 0 where
  pub calls : List PointedCall
  pub events : ℕ
  pub between : BoardParts
  pub between_pointers : List Pointer
  pub turns : DoPointedInTurn napot trusted events parts pointers calls between between_pointers
  pub new : BoardParts
  pub makes : CommitsOldestAccess between id (Ok (Some made)) new

-- WHAT WAS WITHDRAWN IS OUT OF REACH: a device without a way to a frame, but those that it may take, makes no other access there
abbrev pub PointedQuietStaysQuiet : Type 0
PointedQuietStaysQuiet = (napot : Bool) (trusted : ℕ → Bool) (may : Permission) (parts : BoardParts) (pointers : List Pointer) (id : ℕ) (made : MadeAt)
    → IsSafe (pointed_scene napot trusted parts pointers) → AreTimely (pointed_scene napot trusted parts pointers)
    → HasAllowedWaysAlone may (pointed_scene napot trusted parts pointers) id made.frame → MakesAfter napot trusted parts pointers id made → may id made.frame made.kind ≡ true

-- A CLAIM THAT IS GOOD STAYS TRUE
abbrev pub PointedGoodClaimsHold : Type 0
PointedGoodClaimsHold = (napot : Bool) (trusted : ℕ → Bool) (claimed : History) (parts : BoardParts) (pointers : List Pointer) (id : ℕ) (made : MadeAt)
    → IsSafe (pointed_scene napot trusted parts pointers) → AreTimely (pointed_scene napot trusted parts pointers)
    → ((kind : AccessKind) → Way (pointed_scene napot trusted parts pointers) id made.frame kind → May claimed id made.frame kind)
    → MakesAfter napot trusted parts pointers id made → May claimed id made.frame made.kind

-- NOBODY USES THE FRAME: where no device has a way to it, no access is made there
abbrev pub PointedFreeStaysFree : Type 0
PointedFreeStaysFree = (napot : Bool) (trusted : ℕ → Bool) (parts : BoardParts) (pointers : List Pointer) (id : ℕ) (made : MadeAt)
    → IsSafe (pointed_scene napot trusted parts pointers) → AreTimely (pointed_scene napot trusted parts pointers)
    → IsOutOfReach (pointed_scene napot trusted parts pointers) made.frame → ¬ MakesAfter napot trusted parts pointers id made
