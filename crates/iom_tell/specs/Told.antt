-- The line that tells an event: what a trace says of it, with what its answer doesn't show.
use Rattle.std.specs.Prelude.{◌≡◌, ℕ, zero, suc, ◌-◌, ◌<◌, Bool, true, false, not, ◌&&◌, List, [], ◌∷◌, ◌++◌, codes, get_or, Option, None, Some, option_map, if◌then◌else◌, ⊤}
use Rattle.iom_base.specs.declared.access.Access.{Access}
use Rattle.iom_base.specs.declared.access.AccessKind.{AccessKind}
use Rattle.iom_base.specs.declared.access.AccessKind.TheVariants as kinds
use Rattle.iom_base.specs.Accesses.{read_of, write_of}
use Rattle.iom_block_devices.specs.Changes.{block_with}
use Rattle.iom_block_devices.specs.Wanted.{wanted_of}
use Rattle.iom_event_text.specs.Texts.{event_text, IsSayable}
use Rattle.iom_inflight.specs.declared.made.MadeAt.{MadeAt}
use Rattle.iom_inflight.specs.Flights.{count_in, row_of, waiting_at}
use Rattle.iom_iommu.specs.Parts.{flights_of}
use Rattle.iom_machine.specs.declared.event.Event.{Event}
use Rattle.iom_machine.specs.declared.event.Event.TheVariants as events
use Rattle.iom_machine.specs.declared.outcome.Outcome.{Outcome}
use Rattle.iom_script.specs.Grammar.{IsEventLine}
use Rattle.iom_script.specs.Lines.{outcome_text}
use Rattle.iom_table_frames.specs.Owners.{has_owner}
use Rattle.iom_trace_lines.specs.TraceLines.{Said, Step, access_text, is_accepted, on_text, tables_text, takes_frames}
use Rattle.iom_world.specs.Shown.{Shown}
use Rattle.iom_tell.specs.declared.behind.Behind.{Behind}
use Rattle.iom_tell.specs.declared.behind.Behind.TheVariants.{Nothing, Tables, On, Began}

-- WHAT IS SHOWN of a world as it is after the event

-- whether the frame is reserved, for tables or for the system
abbrev pub is_reserved_in : Shown → ℕ → Bool
is_reserved_in now frame = has_owner now.parts.driver.owners frame

-- the frame of the device's access that was accepted last, of those in flight
abbrev pub newest_frame : Shown → ℕ → Option ℕ
newest_frame now id =
    option_map (λ (made : MadeAt). made.frame) (waiting_at (row_of (flights_of now.parts.iommu).rows id) (count_in (row_of (flights_of now.parts.iommu).rows id) - 1))

abbrev pub behind_asked : Option ℕ → Behind
behind_asked None = Nothing
behind_asked (Some frame) = On frame

-- the event by which the device asks for the access
abbrev pub asking_so : AccessKind → ℕ → Access → Event
asking_so kinds.Read device access = events.Read device access.address access.len
asking_so kinds.Write device access = events.Write device access.address access.bytes

abbrev pub asking : ℕ → Access → Event
asking device access = asking_so access.kind device access

-- the access that the device's step began, and its frame
abbrev pub began_by : ℕ → Option ℕ → Option Access → Behind
began_by device frame None = Nothing
began_by device frame (Some access) = Began (asking device access) frame

-- where an access was accepted: of a step the access and its frame; of a request its frame
abbrev pub behind_accepted : Shown → Event → Behind
behind_accepted now (events.Step device) = began_by device (newest_frame now device) (wanted_of (block_with now.inside.blocks device))
behind_accepted now (events.Read device address len) = behind_asked (newest_frame now device)
behind_accepted now (events.Write device address bytes) = behind_asked (newest_frame now device)
behind_accepted now (events.ReadTranslated device address len) = behind_asked (newest_frame now device)
behind_accepted now (events.WriteTranslated device address bytes) = behind_asked (newest_frame now device)
behind_accepted now (events.ReadThroughCache device address len) = behind_asked (newest_frame now device)
behind_accepted now (events.WriteThroughCache device address bytes) = behind_asked (newest_frame now device)
behind_accepted now _ = Nothing

-- behind the `ok` of an attach or a grant the tables; behind an `accepted` what was accepted; else nothing
abbrev pub behind_of : Shown → Event → Outcome → Behind
behind_of now event outcome =
    if takes_frames event outcome then Tables else (if is_accepted outcome then behind_accepted now event else Nothing)

-- THE FRAMES THAT WERE TAKEN

-- those below the limit of which this is true, in order
unfoldable pub taken_below : (ℕ → Bool) → ℕ → List ℕ
taken_below is_taken zero = []
taken_below is_taken (suc frame) = taken_below is_taken frame ++ (if is_taken frame then frame ∷ [] else [])

-- those that weren't reserved before, and are now; no memory has more than 4,096 frames
abbrev pub taken_by : Shown → Shown → List ℕ
taken_by old new = taken_below (λ frame. is_reserved_in new frame && not (is_reserved_in old frame)) 4096

-- `; tables` and the frames, or nothing where there is none
abbrev pub shown_tables : List ℕ → List ℕ
shown_tables [] = []
shown_tables (frame ∷ frames) = tables_text true (frame ∷ frames)

-- THE LINE

-- what is shown, in the words of traces
abbrev pub behind_text : List ℕ → Behind → List ℕ
behind_text taken Nothing = []
behind_text taken Tables = shown_tables taken
behind_text taken (On frame) = on_text (Some frame)
behind_text taken (Began asks on) = access_text (event_text asks) on

-- THE LINE THAT TELLS AN EVENT, without its line feed: the event, ` => `, what came of it, and what that doesn't show
abbrev pub told_line : Shown → Event → Outcome → Shown → List ℕ
told_line old event outcome new =
    event_text event ++ codes " => " ++ outcome_text outcome ++ behind_text (taken_by old new) (behind_of new event outcome)

-- a line can say what is shown
abbrev pub IsSayableBehind : Behind → Type 0
IsSayableBehind (Began asks on) = IsSayable asks
IsSayableBehind _ = ⊤

-- WHAT THE LINE SAYS in the grammar of traces: that this came of the event, with these tables, on this frame, of this access

abbrev pub shows_tables : Behind → List ℕ → Bool
shows_tables Tables (frame ∷ frames) = true
shows_tables Tables [] = false
shows_tables _ _ = false

abbrev pub frame_shown : Behind → Option ℕ
frame_shown (On frame) = Some frame
frame_shown (Began asks on) = on
frame_shown _ = None

abbrev pub access_asked : Event → Option Access
access_asked (events.Read device address len) = Some (read_of address len)
access_asked (events.Write device address bytes) = Some (write_of address bytes)
access_asked _ = None

abbrev pub access_shown : Behind → Option Access
access_shown (Began asks on) = access_asked asks
access_shown _ = None

abbrev pub said_behind : List ℕ → Event → Outcome → Behind → Said
said_behind taken event outcome behind = Step event outcome (shows_tables behind taken) (frame_shown behind) (access_shown behind)

abbrev pub told_said : Shown → Event → Outcome → Shown → Said
told_said old event outcome new = said_behind (taken_by old new) event outcome (behind_of new event outcome)

-- FOR THE CALLS INSIDE: which frames were reserved is noted before the event

-- so it is noted of each frame
abbrev pub AreReservedOf : List Bool → Shown → Type 0
AreReservedOf noted now = (frame : ℕ) → frame < 4096 → get_or noted frame false ≡ is_reserved_in now frame

-- the frame wasn't reserved when that was noted, and is now
abbrev pub is_taken_since : List Bool → Shown → ℕ → Bool
is_taken_since noted now frame = is_reserved_in now frame && not (get_or noted frame false)

-- the event may take frames
abbrev pub may_take : Event → Bool
may_take (events.Attach id mode ats) = true
may_take (events.Grant id page frame rights) = true
may_take _ = false

-- the access that is shown is shown by a line that says it
abbrev pub SaysBehind : Behind → Type 0
SaysBehind (Began asks on) = IsEventLine (event_text asks) asks
SaysBehind _ = ⊤
