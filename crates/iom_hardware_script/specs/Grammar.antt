-- The grammar of a script for a driver under test: which bytes say what, apart from how they are read.
use Rattle.std.specs.Prelude.{◌≡◌, ℕ, ◌+◌, ◌≤◌, Bool, true, false, IsTrue, List, [], ◌∷◌, filter, codes, None, Some}
use Rattle.iom_machine.specs.declared.event.Event.{Event}
use Rattle.iom_machine.specs.declared.event.Event.TheVariants as events
use Rattle.iom_script.specs.Words.{◌␣◌, IsDevice, IsNumber, IsAddress, IsRight}
use Rattle.iom_script.specs.Grammar.{IsEventLine, is_spoken, SayEach, IsText}
use Rattle.iom_script.specs.BadLines.{IsFirstBadLineOf}
use Rattle.iom_hardware_script.specs.declared.script.Claim.{Claim}
use Rattle.iom_hardware_script.specs.declared.script.Claim.TheVariants as claims
use Rattle.iom_hardware_script.specs.declared.script.Help.{Help}
use Rattle.iom_hardware_script.specs.declared.script.Help.TheVariants as helps
use Rattle.iom_hardware_script.specs.declared.script.HardwareLine.{HardwareLine}
use Rattle.iom_hardware_script.specs.declared.script.HardwareLine.TheVariants as says
use Rattle.iom_hardware_script.specs.declared.script.NumberedLine.{NumberedLine}
use Rattle.iom_hardware_script.specs.declared.script.Pace.{Pace}
use Rattle.iom_hardware_script.specs.declared.script.Pace.TheVariants.{Whole, Stepped, Pointed, Napot, PointedNapot}
use Rattle.iom_hardware_script.specs.declared.script.Setup.{Setup}
use Rattle.iom_hardware_script.specs.declared.script.HardwareScript.{HardwareScript}

-- whether devices or hardware do this, or it is a store or a load of the processor
abbrev pub is_of_hardware : Event → Bool
is_of_hardware (events.Plug device new) = true
is_of_hardware (events.Reset device) = true
is_of_hardware (events.Read device address len) = true
is_of_hardware (events.Write device address bytes) = true
is_of_hardware (events.ReadTranslated device address len) = true
is_of_hardware (events.WriteTranslated device address bytes) = true
is_of_hardware (events.ReadThroughCache device address len) = true
is_of_hardware (events.WriteThroughCache device address bytes) = true
is_of_hardware (events.Ask device page) = true
is_of_hardware (events.Forge device serial) = true
is_of_hardware (events.Commit device) = true
is_of_hardware events.Fetch = true
is_of_hardware events.Timeout = true
is_of_hardware (events.Deliver place) = true
is_of_hardware (events.Drop place) = true
is_of_hardware (events.Repeat place) = true
is_of_hardware (events.Poke address bytes) = true
is_of_hardware (events.Peek address len) = true
is_of_hardware (events.Medium device disk) = true
is_of_hardware (events.Queue device size descriptors available used) = true
is_of_hardware (events.Step device) = true
is_of_hardware (events.Status device) = true
is_of_hardware (events.Attach device mode ats) = false
is_of_hardware (events.Detach device) = false
is_of_hardware (events.Grant device page frame rights) = false
is_of_hardware (events.Release device page) = false
is_of_hardware (events.Quarantine device) = false
is_of_hardware (events.Revive device) = false
is_of_hardware events.Restart = false
is_of_hardware events.Poll = false
is_of_hardware events.Faults = false
is_of_hardware (events.Free frame) = false

-- the same as a fact
abbrev pub IsOfHardware : Event → Type 0
IsOfHardware event = IsTrue (is_of_hardware event)

-- the text, which stands behind `claim`, says what is claimed
abbrev pub IsClaim : List ℕ → Claim → Type 0
IsClaim text (claims.Grant device page frame rights) =
    (id p f right : List ℕ) × IsDevice id device × IsNumber p page × IsNumber f frame × IsRight right rights
    × (text ≡ codes "grant" ␣ id ␣ p ␣ f ␣ right)
IsClaim text (claims.Ready device page) =
    (id p : List ℕ) × IsDevice id device × IsNumber p page × (text ≡ codes "ready" ␣ id ␣ p)
IsClaim text (claims.Release device page) =
    (id p : List ℕ) × IsDevice id device × IsNumber p page × (text ≡ codes "release" ␣ id ␣ p)
IsClaim text (claims.Done number) =
    (t : List ℕ) × IsNumber t number × (text ≡ codes "done" ␣ t)
IsClaim text (claims.HandOff frame) =
    (f : List ℕ) × IsNumber f frame × (text ≡ codes "handoff" ␣ f)
IsClaim text (claims.Take frame) =
    (f : List ℕ) × IsNumber f frame × (text ≡ codes "take" ␣ f)
IsClaim text (claims.Trust device) =
    (id : List ℕ) × IsDevice id device × (text ≡ codes "trust" ␣ id)

-- the line asks hardware so to act by itself
abbrev pub IsHelp : List ℕ → Help → Type 0
IsHelp line (helps.Auto seed) =
    (s : List ℕ) × IsNumber s seed × (line ≡ codes "auto" ␣ s)
IsHelp line (helps.Traffic device first last) =
    (id f l : List ℕ) × IsDevice id device × IsNumber f first × IsNumber l last × (line ≡ codes "traffic" ␣ id ␣ f ␣ l)
IsHelp line helps.Quiesce = line ≡ codes "quiesce"

-- the line, without its line feed, says this
abbrev pub IsHardwareLine : List ℕ → HardwareLine → Type 0
IsHardwareLine line (says.Event event) = IsOfHardware event × IsEventLine line event
IsHardwareLine line (says.RegisterRead offset width) =
    (o w : List ℕ) × IsNumber o offset × IsNumber w width × (line ≡ codes "mmio-read" ␣ o ␣ w)
IsHardwareLine line (says.RegisterWrite offset width value) =
    (o w v : List ℕ) × IsNumber o offset × IsNumber w width × IsAddress v value × (line ≡ codes "mmio-write" ␣ o ␣ w ␣ v)
IsHardwareLine line (says.Claim claim) =
    (text : List ℕ) × IsClaim text claim × (line ≡ codes "claim" ␣ text)
IsHardwareLine line (says.Help help) = IsHelp line help
IsHardwareLine line (says.Load device) =
    (id : List ℕ) × IsDevice id device × (line ≡ codes "load" ␣ id)

-- so many frames as a memory can have: 64 to 4,096
abbrev pub IsFrameCount : ℕ → Type 0
IsFrameCount frames = (64 ≤ frames) × (frames ≤ 4096)

-- a first line, by the word of its number: the pace is named where each load is an event of its own, where pointers to tables are cached too, and where walks
-- know leaves of 64 KiB
abbrev pub setup_words : Pace → List ℕ → List ℕ
setup_words Whole f = codes "hardware" ␣ f
setup_words Stepped f = codes "hardware" ␣ f ␣ codes "stepped"
setup_words Pointed f = codes "hardware" ␣ f ␣ codes "nonleaf"
setup_words Napot f = codes "hardware" ␣ f ␣ codes "napot"
setup_words PointedNapot f = codes "hardware" ␣ f ␣ codes "nonleaf napot"

-- the line, without its line feed, says how many frames the memory of the hardware has, how many events a walk takes, where it may begin, and which leaves it
-- knows
abbrev pub IsSetupLine : List ℕ → Setup → Type 0
IsSetupLine line setup =
    (f : List ℕ) × IsNumber f setup.frames × IsFrameCount setup.frames × (line ≡ setup_words setup.pace f)

-- the lines with their numbers, the first of which is this
abbrev pub numbered_lines : ℕ → List (List ℕ) → List (ℕ × List ℕ)
numbered_lines first [] = []
numbered_lines first (line ∷ lines) = (first, line) ∷ numbered_lines (first + 1) lines

-- the lines that say something, each with its number among all, from 1 on
abbrev pub spoken_numbered : List (List ℕ) → List (ℕ × List ℕ)
spoken_numbered lines = filter (λ line. is_spoken line.1) (numbered_lines 1 lines)

-- the line with its number says this
abbrev pub IsNumberedLine : ℕ × List ℕ → NumberedLine → Type 0
IsNumberedLine line said = (said.number ≡ line.0) × IsHardwareLine line.1 said.line

-- Lines that all say something make a script: none of them, or one that says which hardware there is, and then the others.
abbrev pub SaysHardwareScript : List (ℕ × List ℕ) → HardwareScript → Type 0
SaysHardwareScript [] script = (script.setup ≡ None) × (script.lines ≡ [])
SaysHardwareScript (line ∷ lines) script =
    (setup : Setup) × (script.setup ≡ Some setup) × IsSetupLine line.1 setup × SayEach IsNumberedLine lines script.lines

-- the lines say the script, those that say something
abbrev pub SayHardware : List (List ℕ) → HardwareScript → Type 0
SayHardware lines script = SaysHardwareScript (spoken_numbered lines) script

-- the bytes are in the grammar, have 1,048,576 bytes at most, and say the script
abbrev pub IsHardwareScript : List ℕ → HardwareScript → Type 0
IsHardwareScript bytes script = IsText SayHardware bytes script

-- the bytes aren't in the grammar, and this is the first line that isn't, counted from 1
abbrev pub IsFirstBadHardwareLine : List ℕ → ℕ → Type 0
IsFirstBadHardwareLine bytes number = IsFirstBadLineOf SayHardware bytes number
