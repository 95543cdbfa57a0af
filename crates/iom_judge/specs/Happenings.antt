-- What the lines of a trace say happened, and what it does to the machine of a trace.
use Rattle.std.specs.Prelude.{◌≡◌, ◌+◌, ◌&&◌, ◌||◌, ℕ, zero, suc, Bool, true, false, not, List, [], ◌∷◌, ◌++◌, map, Option, None, Some, IfSome, IsTrue, if◌then◌else◌, nat_eq, ⊤}
use Rattle.iom_base.specs.declared.access.Access.{Access}
use Rattle.iom_base.specs.declared.grant_rights.GrantRights.{GrantRights}
use Rattle.iom_base.specs.declared.mode.Mode.{Mode}
use Rattle.iom_machine.specs.declared.choice.Choice.{Choice}
use Rattle.iom_machine.specs.declared.event.Event.{Event}
use Rattle.iom_machine.specs.declared.event.Event.TheVariants as events
use Rattle.iom_machine.specs.declared.outcome.Outcome.{Outcome}
use Rattle.iom_machine.specs.declared.outcome.Outcome.TheVariants as outcomes
use Rattle.iom_machine.specs.Machine.{ChosenStep}
use Rattle.iom_trace_lines.specs.TraceLines.{Said, Step, Made, Grants, Joins, Releases, Handoff, Take, TablesFreed, takes_frames}
use Rattle.iom_judge.specs.Sharing.{is_this, own_domain, sharers, tables_end, GetsDomain, NoneWalks}
use Rattle.iom_judge.specs.TraceStates.{TraceState}
use Rattle.iom_judge.specs.declared.changes.Change.{Change}
use Rattle.iom_judge.specs.declared.changes.Change.TheVariants.{Grant, Release}

-- What happens: this came of an event, where what the outcome doesn't show was chosen so; a frame is given to somebody else; it is taken back; the device
-- has the domain of the other one from here on; and these are the devices that share the domain of this one.
pub data Happening : Type 0 where
  Came : Event → Outcome → Choice → Happening
  GivenAway : ℕ → Happening
  TakenBack : ℕ → Happening
  Joined : (device with : ℕ) → Happening
  Shared : (device : ℕ) → List ℕ → Happening

-- whether the frame is in the list
abbrev pub is_in : ℕ → List ℕ → Bool
is_in frame [] = false
is_in frame (first ∷ rest) = nat_eq first frame || is_in frame rest

-- the frames that became tables of the device, and behind them those that became pages of the device directory
abbrev pub tables_of : Event → List ℕ → List ℕ → List ℕ
tables_of (events.Attach id mode ats) taken directory = taken ++ directory
tables_of _ taken directory = taken

abbrev pub tables_chosen : Event → Choice → List ℕ
tables_chosen event choice = tables_of event choice.taken choice.directory

-- the frame that is granted, if one is
abbrev pub frame_granted : Event → Outcome → Option ℕ
frame_granted (events.Grant id page frame rights) outcomes.Done = Some frame
frame_granted _ _ = None

-- whether the frame is in use from here on: it is granted, or becomes a table
abbrev pub is_used : Event → Outcome → Choice → ℕ → Bool
is_used event outcome choice frame =
    is_this (frame_granted event outcome) frame || (takes_frames event outcome && is_in frame (tables_chosen event choice))

-- This came of an event in a trace. A frame that was given away isn't used, from the first one on that was taken back; before, a frame that is used is
-- somebody's no more. Tables don't go back while another device walks in them.
pub record ComesOf (old : TraceState) (event : Event) (outcome : Outcome) (choice : Choice) (new : TraceState) : Type 0 where
  pub step : ChosenStep choice old.machine event outcome new.machine
  pub unused : IsTrue old.takes_back → (frame : ℕ) → IsTrue (is_used event outcome choice frame) → old.is_given frame ≡ false
  pub given : (frame : ℕ) → new.is_given frame ≡ (old.is_given frame && not (is_used event outcome choice frame))
  pub takes_back : new.takes_back ≡ old.takes_back
  pub tables_stay : IfSome (tables_end event outcome) (NoneWalks old.first_with old.machine.history old.machine.devices)
  pub domains : (k : ℕ) → new.first_with k ≡ (if is_this (own_domain event outcome) k then None else old.first_with k)

-- nothing else changes than which frames were given away
abbrev pub ChangesGiven : TraceState → TraceState → Type 0
ChangesGiven old new = (new.machine ≡ old.machine) × ((k : ℕ) → new.first_with k ≡ old.first_with k)

-- this happens in a trace
abbrev pub Happens : TraceState → Happening → TraceState → Type 0
Happens old (Came event outcome choice) new = ComesOf old event outcome choice new
Happens old (GivenAway frame) new =
    ChangesGiven old new × ((k : ℕ) → new.is_given k ≡ (nat_eq frame k || old.is_given k)) × (new.takes_back ≡ old.takes_back)
Happens old (TakenBack frame) new =
    (old.is_given frame ≡ true) × ChangesGiven old new × ((k : ℕ) → new.is_given k ≡ (old.is_given k && not (nat_eq frame k)))
    × (new.takes_back ≡ true)
Happens old (Joined device with) new = GetsDomain old device with new
Happens old (Shared device devices) new = (devices ≡ sharers old.first_with old.machine.devices device) × (new ≡ old)

-- these happen, one after another
abbrev pub HappenInTurn : TraceState → List Happening → TraceState → Type 0
HappenInTurn old [] new = new ≡ old
HappenInTurn old (happening ∷ others) new = (mid : TraceState) × Happens old happening mid × HappenInTurn mid others new

-- the events of what happened, and what came of each
abbrev pub events_of : List Happening → List Event
events_of [] = []
events_of (Came event outcome choice ∷ others) = event ∷ events_of others
events_of (GivenAway frame ∷ others) = events_of others
events_of (TakenBack frame ∷ others) = events_of others
events_of (Joined device with ∷ others) = events_of others
events_of (Shared device devices ∷ others) = events_of others

abbrev pub outcomes_of : List Happening → List Outcome
outcomes_of [] = []
outcomes_of (Came event outcome choice ∷ others) = outcome ∷ outcomes_of others
outcomes_of (GivenAway frame ∷ others) = outcomes_of others
outcomes_of (TakenBack frame ∷ others) = outcomes_of others
outcomes_of (Joined device with ∷ others) = outcomes_of others
outcomes_of (Shared device devices ∷ others) = outcomes_of others

-- What is shown of a step is what was chosen: which frames became tables, on which frame an access was accepted, and which access a step began. Tables
-- that a poll gave back have a line of their own.
pub record IsAsShown (event : Event) (choice : Choice) (has_tables : Bool) (tables : List ℕ) (on : Option ℕ) (began : Option Access) : Type 0 where
  pub tables_taken : IsTrue has_tables → tables_chosen event choice ≡ tables
  pub frame : IfSome on (λ frame. choice.frame ≡ frame)
  pub access : IfSome began (λ access. choice.access ≡ access)
  pub returned : choice.returned ≡ []

-- what may be told of an access that was made: of a read its bytes
abbrev pub MayBeTold : Bool → Outcome → Type 0
MayBeTold is_read (outcomes.Read bytes) = ⊤
MayBeTold false (outcomes.Wrote len) = ⊤
MayBeTold _ _ = ⊥

-- These events came one after another, this came of each, and none took a table.
abbrev pub CameInTurn : List Event → Outcome → List Happening → Type 0
CameInTurn [] outcome happened = happened ≡ []
CameInTurn (event ∷ events) outcome happened =
    (others : List Happening) × (choice : Choice) × (choice.taken ≡ []) × CameInTurn events outcome others × (happened ≡ Came event outcome choice ∷ others)

-- what changed by this of the pages of a domain, if something did, and the device of which it did: a page was granted, or released
abbrev pub change_by : Event → Outcome → Option (ℕ × Change)
change_by (events.Grant id page frame rights) outcomes.Done = Some (id, Grant page frame rights)
change_by (events.Release id page) (outcomes.Ticket ticket) = Some (id, Release page)
change_by _ _ = None

-- the event that changes this of the device
abbrev pub event_of : ℕ → Change → Event
event_of device (Grant page frame rights) = events.Grant device page frame rights
event_of device (Release page) = events.Release device page

-- the same so many pages behind, and on a frame as far behind
abbrev pub behind : ℕ → Change → Change
behind n (Grant page frame rights) = Grant (page + n) (frame + n) rights
behind n (Release page) = Release (page + n)

-- What changes of a device changes of each other one that shares its domain.
abbrev pub IsShared : Option (ℕ × Change) → Outcome → List Happening → Type 0
IsShared None outcome happened = happened ≡ []
IsShared (Some (id, change)) outcome happened =
    (devices : List ℕ) × (others : List Happening) × CameInTurn (map (λ device. event_of device change) devices) outcome others
    × (happened ≡ Shared id devices ∷ others)

-- What happened where a line says that this came of the event. A grant and a release are also those of each device that shares the domain.
abbrev pub Comes : Event → Outcome → Choice → List Happening → Type 0
Comes event outcome choice happened =
    (others : List Happening) × IsShared (change_by event outcome) outcome others × (happened ≡ Came event outcome choice ∷ others)

-- It changed so of the device at so many pages, one after another, this came of each, and these became tables.
abbrev pub CameAtEach : ℕ → Change → Outcome → ℕ → List ℕ → List Happening → Type 0
CameAtEach device first outcome zero tables happened = (tables ≡ []) × (happened ≡ [])
CameAtEach device first outcome (suc n) tables happened =
    (before : List ℕ) × (others own : List Happening) × (choice : Choice) × CameAtEach device first outcome n before others
    × (tables ≡ before ++ choice.taken) × Comes (event_of device (behind n first)) outcome choice own × (happened ≡ others ++ own)

-- The device was attached in some mode, without tables of its own, and then granted what the other one holds. Pages of the device directory may have been taken.
abbrev pub AttachesWith : (device with : ℕ) → (ats has_tables : Bool) → List ℕ → List Happening → Type 0
AttachesWith device with ats has_tables tables happened =
    (mode : Mode) × (choice : Choice) × (pages : List (ℕ × ℕ × GrantRights)) × (grants : List Happening)
    × (choice.taken ≡ []) × (IsTrue has_tables → choice.directory ≡ tables)
    × CameInTurn (map (λ page. events.Grant device page.0 page.1 page.2) pages) outcomes.Done grants
    × (happened ≡ Came (events.Attach device mode ats) outcomes.Done choice ∷ (grants ++ Joined device with ∷ []))

-- Who says this, with these frames of tables beside, says that this happened.
abbrev pub Tells : Said → List ℕ → List Happening → Type 0
Tells (Step event outcome has_tables on began) tables happened =
    (choice : Choice) × IsAsShown event choice has_tables tables on began × Comes event outcome choice happened
Tells (Made device is_read) tables happened =
    (outcome : Outcome) × (choice : Choice) × MayBeTold is_read outcome × (happened ≡ Came (events.Commit device) outcome choice ∷ [])
Tells (Grants device page count frame rights has_tables) tables happened =
    (taken : List ℕ) × CameAtEach device (Grant page frame rights) outcomes.Done count taken happened × (IsTrue has_tables → taken ≡ tables)
Tells (Joins device with ats has_tables) tables happened = AttachesWith device with ats has_tables tables happened
Tells (Releases device page count ticket) tables happened = (taken : List ℕ) × CameAtEach device (Release page) (outcomes.Ticket ticket) count taken happened
Tells (Handoff frame) tables happened = (choice : Choice) × (happened ≡ Came (events.Free frame) (outcomes.Free true) choice ∷ GivenAway frame ∷ [])
Tells (Take frame) tables happened = happened ≡ TakenBack frame ∷ []
Tells TablesFreed tables happened =
    (choice : Choice) × (choice.returned ≡ tables) × (happened ≡ Came events.Poll (outcomes.NoneConfirmed false) choice ∷ [])
Tells _ tables happened = ⊥
