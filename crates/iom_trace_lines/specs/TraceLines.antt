-- What a line of a trace says: a script's line, ` => `, and the line of what came of it, with what is shown behind that.
use Rattle.std.specs.Prelude.{◌≡◌, ◌≢◌, ◌⊎◌, ◌<◌, ◌+◌, ◌^◌, ℕ}
use Rattle.std.specs.Prelude.{Bool, true, false, List, [], ◌∷◌, ◌++◌, Option, None, Some, option_copied, IfSome, IsTrue, codes, ⊤}
use Rattle.std.specs.List.{flat_map}
use Rattle.std.specs.Fmt.{decimal}
use Rattle.iom_base.specs.Accesses.{read_of, write_of}
use Rattle.iom_base.specs.declared.access.Access.{Access}
use Rattle.iom_base.specs.declared.grant_rights.GrantRights.{GrantRights}
use Rattle.iom_machine.specs.declared.event.Event.{Event}
use Rattle.iom_machine.specs.declared.event.Event.TheVariants as events
use Rattle.iom_machine.specs.declared.outcome.Outcome.{Outcome}
use Rattle.iom_machine.specs.declared.outcome.Outcome.TheVariants as outcomes
use Rattle.iom_script.specs.Grammar.{IsEventLine, is_spoken}
use Rattle.iom_script.specs.Lines.{line_of}
use Rattle.iom_script.specs.Words.{◌␣◌, IsDevice, IsNumber, IsRight}
use Rattle.iom_script.specs.declared.script.WorldSize.{WorldSize}
use Rattle.iom_trace_lines.specs.WorldLimits.{limits_text, SaysSize}
use Rattle.iom_trace_lines.specs.declared.trace.TraceLine.{TraceLine}
use Rattle.iom_trace_lines.specs.declared.trace.TraceLine.TheVariants as lines
use Rattle.iom_trace_lines.specs.declared.trace.WorldLimits.{WorldLimits}

-- What a line says: nothing, how large the world is and how much its machine allows, that this came of an event, with what is shown
-- behind that, more than one event or less than an outcome, or what isn't in the grammar.
pub data Said : Type 0 where
  Nothing : Said
  World : WorldSize → WorldLimits → Said
  Step : Event → Outcome → Bool → Option ℕ → Option Access → Said
  -- the oldest access of the device was made: a read, or whatever it is
  Made : ℕ → Bool → Said
  -- the device was granted so many frames, at so many pages, with this right; whether it is shown which frames became tables
  Grants : (device page count frame : ℕ) → GrantRights → Bool → Said
  -- the device was attached to the domain of the other one, whose tables it shares; whether with ATS, and whether it is shown which
  -- frames became tables
  Joins : (device with : ℕ) → (ats has_tables : Bool) → Said
  -- what it held at so many pages was released under the ticket
  Releases : (device page count ticket : ℕ) → Said
  -- the frame is now given to somebody else, and is taken back
  Handoff : ℕ → Said
  Take : ℕ → Said
  -- tables were given back, while their device stays attached
  TablesFreed : Said
  Bad : Said

-- frames, with a space before each
abbrev pub frames_text : List ℕ → List ℕ
frames_text frames = flat_map (λ frame. codes " " ++ decimal frame) frames

-- the frames that were taken for tables, where they are shown
abbrev pub tables_text : Bool → List ℕ → List ℕ
tables_text true tables = codes "; tables" ++ frames_text tables
tables_text false tables = []

-- the frame on which an access was accepted, where that is shown
abbrev pub on_text : Option ℕ → List ℕ
on_text (Some frame) = codes "; on " ++ decimal frame
on_text None = []

-- whether frames are taken for tables where this comes of the event
abbrev pub takes_frames : Event → Outcome → Bool
takes_frames (events.Attach id mode ats) outcomes.Done = true
takes_frames (events.Grant id page frame rights) outcomes.Done = true
takes_frames _ _ = false

-- whether an access is accepted
abbrev pub is_accepted : Outcome → Bool
is_accepted (outcomes.Accepted number) = true
is_accepted _ = false

-- Tables are shown only where frames are taken for them, and a frame only where an access is accepted.
abbrev pub TraceMayShow : Event → Outcome → Bool → Option ℕ → Type 0
TraceMayShow event outcome has_tables on =
    (IsTrue has_tables → IsTrue (takes_frames event outcome)) × IfSome on (λ frame. IsTrue (is_accepted outcome))

-- the event's line, ` => `, and the line of the outcome, with this behind it
abbrev pub IsStepLine : List ℕ → Event → Outcome → List ℕ → Type 0
IsStepLine line event outcome behind =
    (said answer : List ℕ) × IsEventLine said event × (line_of outcome ≡ answer ++ 10 ∷ [])
    × (line ≡ said ++ codes " => " ++ answer ++ behind)

-- the name and the frame, with ` => ok` behind or without
abbrev pub IsHandingLine : List ℕ → List ℕ → ℕ → Type 0
IsHandingLine name line frame =
    (word : List ℕ) × IsNumber word frame × ((line ≡ name ␣ word) ⊎ (line ≡ (name ␣ word) ++ codes " => ok"))

-- what is told of an access that was made: of a read without its bytes, of whatever it is
abbrev pub made_text : Bool → List ℕ
made_text true = codes "read ?"
made_text false = codes "made"

-- the first of some pages and how many they are, as `P+N` says
abbrev pub IsPages : List ℕ → ℕ → ℕ → Type 0
IsPages text page count =
    (p n : List ℕ) × IsNumber p page × IsNumber n count × (0 < count) × (page + count < 2 ^ 64) × (text ≡ p ++ 43 ∷ n)

-- the line of a grant of so many frames at so many pages, and of a release of so many pages
abbrev pub IsGrantsLine : List ℕ → (device page count frame : ℕ) → GrantRights → Type 0
IsGrantsLine said device page count frame rights =
    (id pages f right : List ℕ) × IsDevice id device × IsPages pages page count × IsNumber f frame × IsRight right rights
    × (frame + count < 2 ^ 64) × (said ≡ codes "grant" ␣ id ␣ pages ␣ f ␣ right)

abbrev pub IsReleasesLine : List ℕ → (device page count : ℕ) → Type 0
IsReleasesLine said device page count =
    (id pages : List ℕ) × IsDevice id device × IsPages pages page count × (said ≡ codes "release" ␣ id ␣ pages)

-- `ats`, or nothing
abbrev pub ats_text : Bool → List ℕ
ats_text true = codes " ats"
ats_text false = []

-- the line of an attach to the domain of another device
abbrev pub IsJoinsLine : List ℕ → (device with : ℕ) → Bool → Type 0
IsJoinsLine said device with ats =
    (id other : List ℕ) × IsDevice id device × IsDevice other with × (said ≡ (codes "attach" ␣ id ␣ codes "with" ␣ other) ++ ats_text ats)

-- tables that are given back, one at least, with ` => ok` behind or without
abbrev pub IsFreedLine : List ℕ → List ℕ → Type 0
IsFreedLine line tables =
    (tables ≢ [])
    × ((line ≡ codes "tables-freed" ++ frames_text tables) ⊎ (line ≡ (codes "tables-freed" ++ frames_text tables) ++ codes " => ok"))

-- by this event the device asks for the access
abbrev pub EventAsksFor : Event → ℕ → Access → Type 0
EventAsksFor (events.Read id address len) device access = (id ≡ device) × (access ≡ read_of address len)
EventAsksFor (events.Write id address bytes) device access = (id ≡ device) × (access ≡ write_of address bytes)
EventAsksFor _ device access = ⊥

-- the access that a step began, as its device would ask for it, and the frame on which it was accepted, where that is shown
abbrev pub access_text : List ℕ → Option ℕ → List ℕ
access_text asked None = codes "; " ++ asked
access_text asked (Some frame) = codes "; " ++ asked ++ codes "; on " ++ decimal frame

-- The line of a step that began this access, which was accepted, with the line by which its device would ask for it behind the answer,
-- and this frame behind that.
abbrev pub ShowsAccess : List ℕ → Event → Outcome → Access → Option ℕ → Type 0
ShowsAccess line event outcome access on =
    (device : ℕ) × (event ≡ events.Step device) × IsTrue (is_accepted outcome)
    × (asked : List ℕ) × (asks : Event) × IsEventLine asked asks × EventAsksFor asks device access
    × IsStepLine line event outcome (access_text asked on)

-- The line says that this came of the event, with what is shown behind it.
abbrev pub SaysWhat : List ℕ → Event → Outcome → Bool → Option ℕ → Option Access → List ℕ → Type 0
SaysWhat line event outcome has_tables on None tables =
    TraceMayShow event outcome has_tables on × IsStepLine line event outcome (tables_text has_tables tables ++ on_text on)
SaysWhat line event outcome has_tables on (Some access) tables = ShowsAccess line event outcome access on

-- The line, without its line feed, says this. The frames of its tables stand beside.
abbrev pub SaysLine : List ℕ → Said → List ℕ → Type 0
SaysLine line Nothing tables = is_spoken line ≡ false
SaysLine line (World size limits) tables =
    (said : List ℕ) × SaysSize limits said size × (line ≡ said ++ limits_text limits ++ codes " => ok")
SaysLine line (Step event outcome has_tables on began) tables = SaysWhat line event outcome has_tables on began tables
SaysLine line (Made device is_read) tables =
    (id : List ℕ) × IsDevice id device × (line ≡ (codes "commit" ␣ id) ++ codes " => " ++ made_text is_read)
SaysLine line (Grants device page count frame rights has_tables) tables =
    (said : List ℕ) × IsGrantsLine said device page count frame rights × (line ≡ said ++ codes " => ok" ++ tables_text has_tables tables)
SaysLine line (Joins device with ats has_tables) tables =
    (said : List ℕ) × IsJoinsLine said device with ats × (line ≡ said ++ codes " => ok" ++ tables_text has_tables tables)
SaysLine line (Releases device page count ticket) tables =
    (said word : List ℕ) × IsReleasesLine said device page count × IsNumber word ticket × (line ≡ said ++ codes " => ticket " ++ word)
SaysLine line (Handoff frame) tables = IsHandingLine (codes "handoff") line frame
SaysLine line (Take frame) tables = IsHandingLine (codes "take") line frame
SaysLine line TablesFreed tables = IsFreedLine line tables
SaysLine line Bad tables = ⊤

-- what was read of a line, with the outcome, and the access that a step began, in the places that are lent
abbrev pub said_of : TraceLine → Said
said_of lines.Nothing = Nothing
said_of (lines.World size limits) = World size limits
said_of (lines.Step event outcome has_tables on began) = Step event outcome.now has_tables on (option_copied began)
said_of (lines.Made device is_read) = Made device is_read
said_of (lines.Grants granted has_tables) = Grants granted.device granted.page granted.count granted.frame granted.rights has_tables
said_of (lines.Joins device with ats has_tables) = Joins device with ats has_tables
said_of (lines.Releases released ticket) = Releases released.device released.page released.count ticket
said_of (lines.Handoff frame) = Handoff frame
said_of (lines.Take frame) = Take frame
said_of lines.TablesFreed = TablesFreed
said_of lines.Bad = Bad
