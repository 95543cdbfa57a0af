-- What follows of a claim that is good: the reclaim theorem of somebody else's driver.
use Rattle.std.specs.Prelude.{◌≡◌, ℕ, Bool, List, None, Some, Ok}
use Rattle.iom_claims.specs.Claimed.{Claimed, IsOpen, after_done}
use Rattle.iom_claims.specs.declared.grant.Grant.{Grant}
use Rattle.iom_board.specs.BoardParts.{BoardParts, board_parts}
use Rattle.iom_board.specs.Commits.{CommitsOldestAccess}
use Rattle.iom_hardware_script.specs.declared.script.Claim.TheVariants as claim
use Rattle.iom_hardware_session.specs.declared.beside.Beside.{Beside}
use Rattle.iom_hardware_session.specs.declared.beside.Beside.TheVariants.{Nothing, UnderWay, Pointers}
use Rattle.iom_hardware_session.specs.declared.state.Session.{Session}
use Rattle.iom_hardware_session.specs.declared.watched.GoodClaim.{GoodClaim}
use Rattle.iom_hardware_session.specs.declared.watched.GoodClaim.TheVariants as good
use Rattle.iom_hardware_session.specs.Good.{GoodMeans}
use Rattle.iom_hardware_session.specs.Shown.{shown_in}
use Rattle.iom_hardware_session.specs.Watching.{IsVerdictOf}
use Rattle.iom_hardware_ways.specs.Calls.{HardwareCall, DoInTurn}
use Rattle.iom_hardware_ways.specs.Laws.{MakesIn}
use Rattle.iom_inflight.specs.declared.made.MadeAt.{MadeAt}
use Rattle.iom_ledger.specs.History.{May}
use Rattle.iom_pointer_ways.specs.Calls.{PointedCall, DoPointedInTurn}
use Rattle.iom_pointers.specs.declared.pointer.Pointer.{Pointer}
use Rattle.iom_stepped_ways.specs.Calls.{SteppedCall, DoSteppedInTurn}
use Rattle.iom_walks.specs.Walks.{WalkRow}
use Rattle.iom_way_survey.specs.Surveys.{is_id_among}

-- these calls of hardware and devices alone come one after another from there, and then the device makes this access
abbrev pub ComesFromParts : (ℕ → Bool) → BoardParts → List HardwareCall → ℕ → MadeAt → Type 0
ComesFromParts trusted parts calls id made =
    (events : ℕ) × (between : BoardParts) × (new : BoardParts) × DoInTurn trusted events parts calls between × MakesIn trusted between id made new

-- the same where a walk takes several events, and these are under way
abbrev pub ComesFromWalks : (ℕ → Bool) → BoardParts → List WalkRow → List SteppedCall → ℕ → MadeAt → Type 0
ComesFromWalks trusted parts rows calls id made =
    (events : ℕ) × (between : BoardParts) × (between_rows : List WalkRow) × (new : BoardParts)
    × DoSteppedInTurn trusted events parts rows calls between between_rows × CommitsOldestAccess between id (Ok (Some made)) new

-- the same where it caches these pointers to tables, and its walks know leaves of 64 KiB, or don't
abbrev pub ComesFromPointers : Bool → (ℕ → Bool) → BoardParts → List Pointer → List PointedCall → ℕ → MadeAt → Type 0
ComesFromPointers napot trusted parts pointers calls id made =
    (events : ℕ) × (between : BoardParts) × (between_pointers : List Pointer) × (new : BoardParts)
    × DoPointedInTurn napot trusted events parts pointers calls between between_pointers × CommitsOldestAccess between id (Ok (Some made)) new

-- WHAT MAY COME from there: after some calls of hardware and devices alone the device makes this access
abbrev pub Comes : (ℕ → Bool) → BoardParts → Beside → ℕ → MadeAt → Type 0
Comes trusted parts Nothing id made = (calls : List HardwareCall) × ComesFromParts trusted parts calls id made
Comes trusted parts (UnderWay rows) id made = (calls : List SteppedCall) × ComesFromWalks trusted parts rows calls id made
Comes trusted parts (Pointers features pointers) id made = (calls : List PointedCall) × ComesFromPointers features.napot trusted parts pointers calls id made

-- so from where the session stands
abbrev pub ComesToMake : Session → ℕ → MadeAt → Type 0
ComesToMake session id made = Comes (is_id_among session.trusted.items) (board_parts session.hardware.board) session.beside id made

-- WHAT WAS WITHDRAWN IS OUT OF REACH. After a claim is done and good, the device makes no access to that frame but those that what is claimed allows
abbrev pub DoneStaysDone : Type 0
DoneStaysDone = (session : Session) (before : Claimed) (number : ℕ) (grant : Grant) (made : MadeAt)
    → GoodMeans (claim.Done number) (shown_in session) session.trusted.items before (after_done number before) → IsOpen before.history (record { number = number; grant = grant })
    → made.frame ≡ grant.frame → ComesToMake session grant.device made → May (after_done number before).history grant.device made.frame made.kind

-- NOBODY TOUCHES A FRAME THAT WAS HANDED OFF and good: no device makes any access there
abbrev pub HandedOffStaysFree : Type 0
HandedOffStaysFree = (session : Session) (before after : Claimed) (frame id : ℕ) (made : MadeAt)
    → GoodMeans (claim.HandOff frame) (shown_in session) session.trusted.items before after → made.frame ≡ frame → ¬ ComesToMake session id made

-- so of a claim that is watched and good still
abbrev pub HoldsOn : GoodClaim → Session → Claimed → Type 0
HoldsOn (good.Done number device frame) session claimed =
    (made : MadeAt) → made.frame ≡ frame → ComesToMake session device made → May claimed.history device made.frame made.kind
HoldsOn (good.HandedOff frame) session claimed = (id : ℕ) (made : MadeAt) → made.frame ≡ frame → ¬ ComesToMake session id made

-- WHAT WAS FOUND GOOD AGAIN, of whatever was claimed by then, holds on until software changes something
abbrev pub GoodAgainHolds : Type 0
GoodAgainHolds = (session : Session) (claimed : Claimed) (claim : GoodClaim) → IsVerdictOf None claim (shown_in session) session.trusted.items claimed → HoldsOn claim session claimed
