-- What a teller does with an event: the world takes it, and its line goes to the writer, up to the first that fails.
use Rattle.std.specs.Prelude.{◌≡◌, ℕ, Bool, true, false, List, [], ◌++◌, take, Option, None, Some}
use Rattle.std.specs.Io.KnownBytes.{Appends}
use Rattle.iom_explain.specs.Notes.{AddsNotes}
use Rattle.iom_line_writer.specs.declared.writing.LineWriter.{LineWriter}
use Rattle.iom_line_writer.specs.Writing.{AppendsFront, KeepsWriter, TakesText}
use Rattle.iom_machine.specs.declared.event.Event.{Event}
use Rattle.iom_machine.specs.declared.outcome.Outcome.{Outcome}
use Rattle.iom_script.specs.declared.script.ScriptLine.{ScriptLine}
use Rattle.iom_tell.specs.Told.{told_line}
use Rattle.iom_virtio_blk.specs.declared.disk.Disk.{Ghosts}
use Rattle.iom_virtio_blk.specs.DiskStates.{DiskState}
use Rattle.iom_world.specs.Happens.{Happens}
use Rattle.iom_world.specs.Shown.{Shown, shown_of}
use Rattle.iom_telling.specs.declared.fault.TellingFault.{TellingFault}
use Rattle.iom_telling.specs.declared.teller.Teller.{Teller}
use Rattle.iom_telling.specs.Scripts.{Telling, IsToldLine, TellsLine, TellsLines}

-- of what was in the buffer and the text a beginning is written
abbrev pub BeginsText : {W : Type 0} → (W → Option (List ℕ)) → LineWriter W → List ℕ → LineWriter W → Type 0
BeginsText contents first text now = KeepsWriter first now × AppendsFront (contents first.writer.now) (contents now.writer.now) (first.buffer ++ text)

-- the text was told: the sink took it; or at a fault a beginning is written
abbrev pub HasTold : {W : Type 0} → (W → Option (List ℕ)) → LineWriter W → List ℕ → Option TellingFault → LineWriter W → Type 0
HasTold contents first text None now = TakesText contents first text now
HasTold contents first text (Some fault) now = BeginsText contents first text now

-- from one event to the next: behind a fault nothing is told, and nothing changes
abbrev pub GoesOnTelling : {W : Type 0} → (W → Option (List ℕ)) → Option TellingFault → LineWriter W → List ℕ → Option TellingFault → LineWriter W → Type 0
GoesOnTelling contents None old text fault new = HasTold contents old text fault new
GoesOnTelling contents (Some first) old text fault new = (fault ≡ Some first) × (new ≡ old)

-- of a line, with notes where answers are explained, the text was told
pub record HasToldLine {W : Type 0} (contents : W → Option (List ℕ)) (first : LineWriter W) (explains : Bool) (line : List ℕ) (fault : Option TellingFault) (now : LineWriter W) : Type 0 where
  pub text : List ℕ
  pub told : IsToldLine explains line text
  pub has : HasTold contents first text fault now

-- notes are added where answers are explained, and else nothing
abbrev pub AddsIf : Bool → List ℕ → List ℕ → Type 0
AddsIf false old new = new ≡ old
AddsIf true old new = AddsNotes old new

-- THE TELLER TAKES AN EVENT
pub record TellerTakes {W D : Type 0} {d : Ghosts D} (contents : W → Option (List ℕ)) (shown : D → DiskState) (old : Teller W D d) (event : Event) (outcome : Outcome) (new : Teller W D d) : Type 0 where
  pub happens : Happens (shown_of shown old.world) event outcome (shown_of shown new.world)
  pub line : List ℕ
  pub told : IsToldLine old.explains (told_line (shown_of shown old.world) event outcome (shown_of shown new.world)) line
  pub goes : GoesOnTelling contents old.fault old.lines line new.fault new.lines
  pub explains : new.explains ≡ old.explains

-- WHAT IS TOLD OF LINES, for the calls inside this crate

abbrev pub telling_of : {W D : Type 0} {d : Ghosts D} → (D → DiskState) → Teller W D d → List ℕ → Telling
telling_of shown teller text = record { now = shown_of shown teller.world; text = text; explains = teller.explains }

-- Whatever was told before, the teller goes on so, and what it told is what goes on by this.
abbrev pub GoesBy : {W D : Type 0} {d : Ghosts D} → (Telling → Telling → Type 0) → (W → Option (List ℕ)) → (D → DiskState) → Teller W D d → Teller W D d → Type 0
GoesBy {W} How contents shown old new =
    (first : LineWriter W) (text : List ℕ) → HasTold contents first text old.fault old.lines
    → (more : List ℕ) × How (telling_of shown old text) (telling_of shown new more) × HasTold contents first more new.fault new.lines

-- by a line, by all of them, and by the first of them
abbrev pub GoesByLine : {W D : Type 0} {d : Ghosts D} → (W → Option (List ℕ)) → (D → DiskState) → Teller W D d → ScriptLine → Teller W D d → Type 0
GoesByLine contents shown old line new = GoesBy (λ before after. TellsLine before line after) contents shown old new

abbrev pub GoesByLines : {W D : Type 0} {d : Ghosts D} → (W → Option (List ℕ)) → (D → DiskState) → Teller W D d → List ScriptLine → Teller W D d → Type 0
GoesByLines contents shown old lines new = GoesBy (λ before after. TellsLines before lines after) contents shown old new

abbrev pub GoesByFirst : {W D : Type 0} {d : Ghosts D} → (W → Option (List ℕ)) → (D → DiskState) → Teller W D d → List ScriptLine → Teller W D d → Type 0
GoesByFirst contents shown old lines new = (count : ℕ) × GoesByLines contents shown old (take count lines) new

-- Where a sink with an empty buffer took the text so far: all that is told is written; or a beginning of what the first lines tell
abbrev pub WritesAll : {W D : Type 0} {d : Ghosts D} → (W → Option (List ℕ)) → (D → DiskState) → Teller W D d → List ScriptLine → Teller W D d → Type 0
WritesAll {W} contents shown old lines new =
    (first : LineWriter W) (text : List ℕ) → first.buffer ≡ [] → TakesText contents first text old.lines
    → KeepsWriter first new.lines
    × (more : List ℕ) × TellsLines (telling_of shown old text) lines (telling_of shown new more)
    × Appends (contents first.writer.now) (contents new.lines.writer.now) more

abbrev pub BeginsAll : {W D : Type 0} {d : Ghosts D} → (W → Option (List ℕ)) → (D → DiskState) → Teller W D d → List ScriptLine → Teller W D d → Type 0
BeginsAll {W} contents shown old lines new =
    (first : LineWriter W) (text : List ℕ) → first.buffer ≡ [] → TakesText contents first text old.lines
    → KeepsWriter first new.lines
    × (count : ℕ) × (more : List ℕ) × TellsLines (telling_of shown old text) (take count lines) (telling_of shown new more)
    × AppendsFront (contents first.writer.now) (contents new.lines.writer.now) more

-- the same without the teller, from this world and this text on
abbrev pub WritesRun : Shown → Bool → List ℕ → List ScriptLine → Option (List ℕ) → Option (List ℕ) → Type 0
WritesRun now explains text lines old new = (last : Telling) × TellsLines (record { now = now; text = text; explains = explains }) lines last × Appends old new last.text

abbrev pub BeginsRun : Shown → Bool → List ℕ → List ScriptLine → Option (List ℕ) → Option (List ℕ) → Type 0
BeginsRun now explains text lines old new =
    (count : ℕ) × (last : Telling) × TellsLines (record { now = now; text = text; explains = explains }) (take count lines) last × AppendsFront old new last.text
