-- What a script of a driver under test comes to: a run of a session from power-on.
use Rattle.std.specs.Prelude.{◌≡◌, ◌==◌, ℕ, ◌+◌, ◌/◌, ◌<◌, ◌≤◌, ⊤, Bool, true, false, not, nat_le, ◌&&◌, ◌||◌, ◌⊎◌, List, [], ◌∷◌, ◌++◌, map, fold, length, Option, None, Some, is_some}
use Rattle.iom_base.specs.declared.refusal.Refusal.{Refusal}
use Rattle.iom_board.specs.declared.board.Board.{Board}
use Rattle.iom_claims.specs.Claimed.{Claimed, nothing_claimed}
use Rattle.iom_device.specs.declared.device.Device.{Device}
use Rattle.iom_hardware_runner.specs.Traffic.{CanMakeRequests, TrafficIsRefused, with_traffic}
use Rattle.iom_hardware_runner.specs.declared.faults.RunFault.{RunFault}
use Rattle.iom_hardware_runner.specs.declared.helper.Traffic.{Traffic}
use Rattle.iom_hardware_runner.specs.declared.faults.RunFault.TheVariants.{BadScript, Reading, Writing, Memory, TooManyEvents}
use Rattle.iom_hardware_script.specs.declared.script.HardwareLine.{HardwareLine}
use Rattle.iom_hardware_script.specs.declared.script.HardwareLine.TheVariants as line
use Rattle.iom_hardware_script.specs.declared.script.HardwareScript.{HardwareScript}
use Rattle.iom_hardware_script.specs.declared.script.Help.TheVariants as help
use Rattle.iom_hardware_script.specs.declared.script.Setup.{Setup}
use Rattle.iom_hardware_script.specs.Grammar.{IsSetupLine, IsHardwareLine, SayHardware}
use Rattle.iom_hardware_session.specs.Runs.{LineReply, LineGoesOn, GoThrough, claimed_then, is_wrong, is_any_reply_wrong, IsSessionAtPowerOn}
use Rattle.iom_hardware_session.specs.Shown.{walks_in}
use Rattle.iom_hardware_session.specs.declared.state.Session.{Session}
use Rattle.iom_inflight.specs.Flights.{first_busy}
use Rattle.iom_iommu.specs.Parts.{flights_of, registers_of}
use Rattle.iom_machine.specs.declared.event.Event.TheVariants.{Read, Write, WriteThroughCache, Ask, Commit, Fetch, Deliver, Step, Poke, Peek}
use Rattle.iom_registers.specs.Queues.{command_head, command_tail, is_processing_commands}
use Rattle.iom_script.specs.Words.{IsWithout}
use Rattle.iom_script.specs.Grammar.{SayEach, spoken, bytes_of_lines}
use Rattle.iom_walks.specs.Walks.{WalkRow, under_way_of}
use Rattle.std.specs.List.{All, AllPass, list_any}

-- the row of traffic is at the page of the device
abbrev pub is_at : (device page : ℕ) → Traffic → Bool
is_at device page row = (row.device == device) && (nat_le row.first page && nat_le page row.last)

-- with these rows the device makes requests at the page by itself
abbrev pub asks_in : List Traffic → (device page : ℕ) → Bool
asks_in rows device page = list_any (is_at device page) rows

-- a walk of the session's hardware takes several events
abbrev pub is_stepped : Session → Bool
is_stepped session = is_some (walks_in session.beside)

-- hardware or a device does this by itself: a command is taken, an access made, a message delivered, the next load of a walk made, a block device takes a step,
-- or a device asks for something at a page where it may
abbrev pub is_own : (stepped : Bool) → (may : ℕ → ℕ → Bool) → HardwareLine → Bool
is_own stepped may (line.Event Fetch) = true
is_own stepped may (line.Event (Commit device)) = true
is_own stepped may (line.Event (Deliver place)) = true
is_own stepped may (line.Event (Step device)) = true
is_own stepped may (line.Load device) = stepped
is_own stepped may (line.Event (Read device address len)) = may device (address / 4096)
is_own stepped may (line.Event (Write device address bytes)) = may device (address / 4096)
is_own stepped may (line.Event (WriteThroughCache device address bytes)) = may device (address / 4096)
is_own stepped may (line.Event (Ask device page)) = may device page
is_own stepped may said = false

-- this brings hardware to rest: a command is taken, an access made, the first message delivered, or the next load of a walk made
abbrev pub brings_to_rest : (stepped : Bool) → HardwareLine → Bool
brings_to_rest stepped (line.Event Fetch) = true
brings_to_rest stepped (line.Event (Commit device)) = true
brings_to_rest stepped (line.Event (Deliver place)) = place == 0
brings_to_rest stepped (line.Load device) = stepped
brings_to_rest stepped said = false

-- software does this: before it hardware may act by itself
abbrev pub is_of_software : HardwareLine → Bool
is_of_software (line.RegisterRead offset width) = true
is_of_software (line.RegisterWrite offset width value) = true
is_of_software (line.Claim claim) = true
is_of_software (line.Event (Poke address bytes)) = true
is_of_software (line.Event (Peek address len)) = true
is_of_software said = false

-- the line asks hardware to act by itself
abbrev pub is_help : HardwareLine → Bool
is_help (line.Help help) = true
is_help said = false

-- whether hardware acts by itself behind the line, by whether it did before: `auto` says so, and no other line does
abbrev pub acts_behind : HardwareLine → Bool → Bool
acts_behind (line.Help (help.Auto seed)) before = not (seed == 0)
acts_behind said before = before

-- HARDWARE ACTS BY ITSELF behind these lines, from power-on: the last `auto` among them has a seed other than 0
abbrev pub acts : List HardwareLine → Bool
acts said = fold (λ before next. acts_behind next before) false said

-- what hardware does by itself before a line, where it acts: three such steps at most; and else nothing
abbrev pub AreDrawn : (can : HardwareLine → Bool) → (acting : Bool) → List HardwareLine → Type 0
AreDrawn can true own = AllPass can own × (length own ≤ 3)
AreDrawn can false own = own ≡ []

-- the lines of what was told
abbrev pub lines_of : List LineReply → List HardwareLine
lines_of all = map (λ (reply : LineReply). reply.said) all

-- THE SESSION WENT THROUGH THESE LINES from power-on, and this is whether anything was wrong
pub record HasRun (setup : Setup) (ran : List HardwareLine) (session : Session) (wrong : Bool) : Type 0 where
  pub first : Session
  pub all : List LineReply
  pub claimed : Claimed
  pub begins : IsSessionAtPowerOn setup first
  pub same : lines_of all ≡ ran
  pub through : GoThrough first nothing_claimed all session claimed
  pub tells : is_any_reply_wrong all ≡ wrong

-- A LINE `traffic` is taken where the device can make requests at these pages: they take the place of its earlier ones. Else it is refused for a reason that is so
abbrev pub Directs : Board → (device first last : ℕ) → List Traffic → List Traffic → Type 0
Directs hardware device first last old new =
    (CanMakeRequests hardware device first last × (new ≡ with_traffic (record { device = device; first = first; last = last }) old))
    ⊎ ((why : Refusal) × TrafficIsRefused why hardware device first last × (new ≡ old))

-- no request of these devices is under way: where a walk is one event, none ever is
abbrev pub NoneUnderWay : List Device → Option (List WalkRow) → Type 0
NoneUnderWay devices None = ⊤
NoneUnderWay devices (Some rows) = All (λ (device : Device). under_way_of rows device.id ≡ None) devices

-- no access is in flight, no message under way, and no request of a device that is plugged in
pub record IsStill (hardware : Board) (walks : Option (List WalkRow)) : Type 0 where
  pub accesses : first_busy (flights_of hardware.iommu).rows ≡ None
  pub messages : hardware.fabric ≡ []
  pub requests : NoneUnderWay hardware.devices.items walks

-- a command waits that may be taken
abbrev pub command_waits : Board → Bool
command_waits hardware = is_processing_commands (registers_of hardware.iommu) && not (command_head (registers_of hardware.iommu) == command_tail (registers_of hardware.iommu))

-- HARDWARE RESTS: it is still, and no command waits; or one was tried last, and wasn't taken
abbrev pub RestsBehind : Session → (last : List HardwareLine) → Session → Type 0
RestsBehind old last new =
    IsStill new.hardware.board (walks_in new.beside)
    × (((last ≡ []) × (command_waits new.hardware.board ≡ false))
    ⊎ ((last ≡ line.Event Fetch ∷ []) × (command_head (registers_of new.hardware.board.iommu) ≡ command_head (registers_of old.hardware.board.iommu))))

-- behind a `quiesce` it took commands, made accesses and loads of walks, and delivered messages, until it rested
pub record ComesToRest (old : Session) (before : Claimed) (own : List LineReply) (new : Session) (after : Claimed) (wrong : Bool) : Type 0 where
  pub front : List LineReply
  pub between : Session
  pub middle : Claimed
  pub last : List LineReply
  pub all : own ≡ front ++ last
  pub settles : AllPass (brings_to_rest (is_stepped old)) (lines_of front)
  pub through : GoThrough old before front between middle
  pub ends : GoThrough between middle last new after
  pub rests : RestsBehind between (lines_of last) new
  pub tells : wrong ≡ is_any_reply_wrong own

-- WHAT A SCRIPT COMES TO, line by line from power-on: where the session stands, what is claimed, at which pages devices make requests by themselves, and whether
-- anything was wrong. Before a line of software hardware may act by itself, where that is on; a line that asks for this does nothing itself
pub data Comes (setup : Setup) : List HardwareLine → Session → Claimed → List Traffic → Bool → Type 0 where
  PowerOn : (session : Session) → IsSessionAtPowerOn setup session → Comes setup [] session nothing_claimed [] false
  Line : (said : List HardwareLine) (next : HardwareLine) (old between new : Session) (before middle : Claimed) (own : List LineReply) (reply : LineReply) (traffic : List Traffic)
      (wrong : Bool) → Comes setup said old before traffic wrong → is_help next ≡ false → AreDrawn (is_own (is_stepped old) (asks_in traffic)) (acts said && is_of_software next) (lines_of own)
      → GoThrough old before own between middle → reply.said ≡ next → LineGoesOn between middle reply new
      → Comes setup (said ++ next ∷ []) new (claimed_then reply middle) traffic ((wrong || is_any_reply_wrong own) || is_wrong reply)
  TurnedOn : (said : List HardwareLine) (seed : ℕ) (session : Session) (claimed : Claimed) (traffic : List Traffic) (wrong : Bool) → Comes setup said session claimed traffic wrong
      → Comes setup (said ++ line.Help (help.Auto seed) ∷ []) session claimed traffic wrong
  Directed : (said : List HardwareLine) (device first last : ℕ) (session : Session) (claimed : Claimed) (traffic directed : List Traffic) (wrong : Bool)
      → Comes setup said session claimed traffic wrong → Directs session.hardware.board device first last traffic directed
      → Comes setup (said ++ line.Help (help.Traffic device first last) ∷ []) session claimed directed wrong
  Rested : (said : List HardwareLine) (old new : Session) (before after : Claimed) (own : List LineReply) (traffic : List Traffic) (wrong any : Bool)
      → Comes setup said old before traffic wrong → ComesToRest old before own new after any
      → Comes setup (said ++ line.Help help.Quiesce ∷ []) new after traffic (wrong || any)

-- lines that all say something: none of them, or one that says which hardware there is, and then what happens
abbrev pub TextsRun : List (List ℕ) → Bool → Type 0
TextsRun [] wrong = wrong ≡ false
TextsRun (first ∷ texts) wrong =
    (setup : Setup) × (said : List HardwareLine) × (session : Session) × (claimed : Claimed) × (traffic : List Traffic)
    × IsSetupLine first setup × SayEach IsHardwareLine texts said × Comes setup said session claimed traffic wrong

-- THE BYTES ARE A SCRIPT that was run so, and this is whether anything was wrong
abbrev pub ScriptRuns : List ℕ → Bool → Type 0
ScriptRuns bytes wrong = (texts : List (List ℕ)) × All (IsWithout 10) texts × (bytes ≡ bytes_of_lines texts) × TextsRun (spoken texts) wrong

-- lines of a live session, each up to its line feed: none has more than 65,536 bytes, and they say a script, as long as it may be
pub record MakeSession (lines : List (List ℕ)) (script : HardwareScript) : Type 0 where
  pub whole : All (IsWithout 10) lines
  pub short : All (λ line. length line ≤ 65536) lines
  pub says : SayHardware lines script

-- these lines make a session, bytes follow them, and with the line that begins there, if it ends at all, they make none
pub record SessionBreaksAfter (bytes : List ℕ) (lines : List (List ℕ)) (rest : List ℕ) : Type 0 where
  pub before : (script : HardwareScript) × MakeSession lines script
  pub place : bytes ≡ bytes_of_lines lines ++ rest
  pub more : 0 < length rest
  pub bad : (line after : List ℕ) (script : HardwareScript) → rest ≡ line ++ 10 ∷ after → ¬ MakeSession (lines ++ line ∷ []) script

-- THE BYTES AREN'T A LIVE SESSION, and this is the first line that isn't in the grammar: counted from 1, over comments and empty lines too
abbrev pub IsFirstBadSessionLine : List ℕ → ℕ → Type 0
IsFirstBadSessionLine bytes number = (lines : List (List ℕ)) × (rest : List ℕ) × SessionBreaksAfter bytes lines rest × (number ≡ length lines + 1)

-- where the fault names a line, this is so of its number
abbrev pub NamesLine : (ℕ → Type 0) → RunFault → Type 0
NamesLine Is (BadScript number) = Is number
NamesLine Is Reading = ⊤
NamesLine Is Writing = ⊤
NamesLine Is Memory = ⊤
NamesLine Is TooManyEvents = ⊤
