-- Where the parts of a runner have come to: what their private functions keep. No public contract cites it.
use Rattle.std.specs.Prelude.{◌≡◌, ℕ, ◌+◌, ◌<◌, ◌≤◌, ◌==◌, ◌||◌, ◌⊎◌, Bool, true, false, List, [], ◌∷◌, ◌++◌, length, Option, None, Some, find, option_map, is_some}
use Rattle.std.specs.List.{All, AllPass}
use Rattle.iom_claims.specs.Claimed.{Claimed}
use Rattle.iom_claims.specs.Shown.{ShowsClaimed}
use Rattle.iom_device.specs.declared.device.Device.{Device}
use Rattle.iom_hardware_runner.specs.Runs.{Comes, ComesToRest, RestsBehind, acts, asks_in, brings_to_rest, is_own, is_stepped, lines_of, NamesLine}
use Rattle.iom_hardware_runner.specs.declared.arriving.Arriving.{Arriving}
use Rattle.iom_hardware_runner.specs.declared.faults.RunFault.{RunFault}
use Rattle.iom_hardware_runner.specs.declared.faults.RunFault.TheVariants.{BadScript, Reading, Memory}
use Rattle.iom_hardware_runner.specs.declared.helper.Helper.{Helper}
use Rattle.iom_hardware_runner.specs.declared.machine.Machine.{Machine}
use Rattle.iom_hardware_runner.specs.declared.machine.Settling.{Settling}
use Rattle.iom_hardware_runner.specs.declared.machine.Settling.TheVariants as settling
use Rattle.iom_hardware_runner.specs.declared.teller.Teller.{Teller}
use Rattle.iom_hardware_script.specs.declared.script.HardwareLine.{HardwareLine}
use Rattle.iom_hardware_script.specs.declared.script.HardwareScript.{HardwareScript}
use Rattle.iom_hardware_script.specs.declared.script.Setup.{Setup}
use Rattle.iom_hardware_script.specs.Grammar.{IsSetupLine, IsHardwareLine, SayHardware}
use Rattle.iom_hardware_session.specs.Runs.{GoThrough, LineGoesOn, LineReply, is_any_reply_wrong, is_wrong}
use Rattle.iom_script.specs.declared.parser.ScriptFault.{ScriptFault}
use Rattle.iom_script.specs.declared.parser.ScriptFault.TheVariants as script_faults
use Rattle.iom_script.specs.Words.{IsWithout}
use Rattle.iom_script.specs.Grammar.{SayEach, is_spoken, spoken, bytes_of_lines}
use Rattle.iom_script.specs.Reading.{Reads}
use Rattle.iom_script_reading.specs.declared.reading.ReadFault.{ReadFault}
use Rattle.iom_script_reading.specs.declared.reading.ReadFault.TheVariants as read_faults
use Rattle.iom_walks.specs.Walks.{WalkRow, under_way_of}

-- the session stays, and whether anything was wrong
abbrev pub KeepsSession : Teller → Teller → Type 0
KeepsSession old new = (new.session ≡ old.session) × (new.is_wrong ≡ old.is_wrong)

-- the line happens, whatever is claimed
abbrev pub TellsLine : Teller → HardwareLine → Teller → Type 0
TellsLine old said new = (before : Claimed) → ShowsClaimed old.session.claims before
    → (reply : LineReply) × (reply.said ≡ said) × LineGoesOn old.session before reply new.session × (new.is_wrong ≡ (old.is_wrong || is_wrong reply))

-- these lines happen, from where a session stands and from what is claimed
pub record DoesSo (old new : Teller) (before : Claimed) (own : List LineReply) (after : Claimed) : Type 0 where
  pub through : GoThrough old.session before own new.session after
  pub tells : new.is_wrong ≡ (old.is_wrong || is_any_reply_wrong own)

-- hardware does something by itself, whatever is claimed, and this is so of all that it does
abbrev pub Does : (List HardwareLine → Type 0) → Teller → Teller → Type 0
Does Are old new = (before : Claimed) → ShowsClaimed old.session.claims before → (own : List LineReply) × (after : Claimed) × Are (lines_of own) × DoesSo old new before own after

-- it comes to rest
abbrev pub Rests : Teller → Teller → Type 0
Rests old new = (before : Claimed) → ShowsClaimed old.session.claims before
    → (own : List LineReply) × (after : Claimed) × (any : Bool) × ComesToRest old.session before own new.session after any × (new.is_wrong ≡ (old.is_wrong || any))

-- by this last thing, or by none
abbrev pub RestsNow : Teller → Teller → Type 0
RestsNow old new = (before : Claimed) → ShowsClaimed old.session.claims before
    → (last : List LineReply) × (after : Claimed) × RestsBehind old.session (lines_of last) new.session × DoesSo old new before last after

-- by what came of a step on the way to rest
abbrev pub SettlesSo : Settling → Teller → Teller → Type 0
SettlesSo settling.Rests old new = RestsNow old new
SettlesSo settling.Moved old new = Does (AllPass (brings_to_rest (is_stepped old.session))) old new
SettlesSo settling.Violated old new = Does (AllPass (brings_to_rest (is_stepped old.session))) old new

-- it did so many things at most
abbrev pub AreFew : (can : HardwareLine → Bool) → (most : ℕ) → List HardwareLine → Type 0
AreFew can most own = AllPass can own × (length own ≤ most)

-- the device makes requests there by itself
abbrev pub asks_at : Helper → (device page : ℕ) → Bool
asks_at helper device page = asks_in helper.traffic.items device page

-- hardware does this by itself, as it stands and with this traffic
abbrev pub does_itself : Teller → Helper → HardwareLine → Bool
does_itself teller helper = is_own (is_stepped teller.session) (asks_at helper)

-- it does where it did
abbrev pub KeepsTraffic : Helper → Helper → Type 0
KeepsTraffic old new = new.traffic.items ≡ old.traffic.items

-- the id of the first of these devices of which a request is under way
abbrev pub first_walking : List WalkRow → List Device → Option ℕ
first_walking rows devices = option_map (λ (device : Device). device.id) (find (λ (device : Device). is_some (under_way_of rows device.id)) devices)

-- hardware does nothing by itself
abbrev pub is_off : Helper → Bool
is_off helper = helper.draws.last == 0

-- where it did nothing by itself, it does nothing
abbrev pub StaysOff : Helper → Helper → Type 0
StaysOff old new = is_off new ≡ false → is_off old ≡ false

-- these lines were said, and the machine came so far by them; numbers are drawn only where hardware acts by itself
pub record CameBy (setup : Setup) (said : List HardwareLine) (machine : Machine) : Type 0 where
  pub claimed : Claimed
  pub comes : Comes setup said machine.teller.session claimed machine.helper.traffic.items machine.teller.is_wrong
  pub on : is_off machine.helper ≡ false → acts said ≡ true

-- whatever was said before, the line was said too
abbrev pub MachineTakesLine : Machine → HardwareLine → Machine → Type 0
MachineTakesLine old next new = (setup : Setup) (said : List HardwareLine) → CameBy setup said old → CameBy setup (said ++ next ∷ []) new

-- the texts that say something were taken: none, and there is no machine; or that of the hardware, and then others
abbrev pub TookTexts : List (List ℕ) → Option Machine → Type 0
TookTexts [] machine = machine ≡ None
TookTexts (first ∷ texts) machine =
    (own : Machine) × (setup : Setup) × (said : List HardwareLine) × (machine ≡ Some own) × IsSetupLine first setup × SayEach IsHardwareLine texts said × CameBy setup said own

-- the text isn't in the grammar in its place: it says something, and neither which hardware there is, where nothing was said yet, nor what happens
abbrev pub IsRefused : Option Machine → List ℕ → Type 0
IsRefused None text = (is_spoken text ≡ true) × Reads None (IsSetupLine text)
IsRefused (Some machine) text = (is_spoken text ≡ true) × Reads None (IsHardwareLine text)

-- a line came in these two parts, and isn't in the grammar in its place; or it came in pieces, and has too many bytes
abbrev pub IsBadLine : Option Machine → (piece part : List ℕ) → Type 0
IsBadLine machine piece part = IsRefused machine (piece ++ part) ⊎ ((0 < length piece) × (65536 < length piece + length part))

-- these bytes arrived: so many lines that were taken, none of more bytes than these, and a piece of one
abbrev pub HasTakenBytes : (most : ℕ) → List ℕ → List ℕ → (count : ℕ) → Option Machine → Type 0
HasTakenBytes most bytes piece count machine =
    (texts : List (List ℕ)) × All (IsWithout 10) texts × All (λ text. length text ≤ most) texts × IsWithout 10 piece × (bytes ≡ bytes_of_lines texts ++ piece)
    × (count ≡ length texts) × TookTexts (spoken texts) machine

abbrev pub HasArrived : (most : ℕ) → List ℕ → Arriving → Type 0
HasArrived most bytes arriving = HasTakenBytes most bytes arriving.piece.items arriving.conversation.lines arriving.conversation.machine

-- a line may have so many bytes, those of the longest line in pieces at least, and those that come now
abbrev pub IsRoomFor : (most : ℕ) → List ℕ → Type 0
IsRoomFor most bytes = (65536 ≤ most) × (length bytes ≤ most)

-- WHERE BYTES STOP BEING LINES OF THE GRAMMAR: these lines were taken, and what begins there is bad
pub record Breaks (IsBad : List (List ℕ) → List ℕ → Type 0) (most : ℕ) (bytes : List ℕ) (number : ℕ) : Type 0 where
  pub texts : List (List ℕ)
  pub rest : List ℕ
  pub whole : All (IsWithout 10) texts
  pub short : All (λ text. length text ≤ most) texts
  pub says : (script : HardwareScript) × SayHardware texts script
  pub place : bytes ≡ bytes_of_lines texts ++ rest
  pub count : number ≡ length texts + 1
  pub bad : IsBad texts rest

-- a line ends there with which they say nothing; or one in pieces has too many bytes, and where its first piece was to come yet, it doesn't end
abbrev pub IsBadRest : (starts : Type 0) → List (List ℕ) → List ℕ → Type 0
IsBadRest starts texts rest =
    ((line after : List ℕ) × (rest ≡ line ++ 10 ∷ after) × IsWithout 10 line × ((script : HardwareScript) → ¬ SayHardware (texts ++ line ∷ []) script))
    ⊎ ((line after : List ℕ) × (rest ≡ line ++ after) × IsWithout 10 line × (65536 < length line) × (starts → after ≡ []))

-- no line ends there, and there are bytes
abbrev pub IsUnended : List (List ℕ) → List ℕ → Type 0
IsUnended texts rest = IsWithout 10 rest × (0 < length rest)

-- a fault that names a line names the one behind these, and this is so
abbrev pub NamesNext : (count : ℕ) → Type 0 → RunFault → Type 0
NamesNext count IsBad fault = NamesLine (λ number. (number ≡ count + 1) × IsBad) fault

-- it names none
abbrev pub NamesNone : RunFault → Type 0
NamesNone fault = NamesLine (λ number. ⊥) fault

-- THE FAULTS THAT COME FROM BELOW
abbrev pub script_fault_of : ScriptFault → RunFault
script_fault_of (script_faults.Line number) = BadScript number
script_fault_of script_faults.Memory = Memory

abbrev pub read_fault_of : ReadFault → RunFault
read_fault_of read_faults.Reading = Reading
read_fault_of read_faults.Memory = Memory
