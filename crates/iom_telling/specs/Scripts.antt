-- THE TEXT OF A SCRIPT THAT IS TOLD: the line of the world, and behind it the line of each event of a run that a world goes through from power-on, those of
-- each settling in its place.
use Rattle.std.specs.Prelude.{◌≡◌, ◌⊎◌, ℕ, Bool, true, false, List, [], ◌∷◌, ◌++◌, codes, take, Option, Result, Ok, Err, MatchOption}
use Rattle.std.specs.Fmt.{decimal}
use Rattle.std.specs.Io.KnownBytes.{Appends, Keeps}
use Rattle.iom_base.specs.declared.refusal.Refusal.{Refusal}
use Rattle.iom_explain.specs.Notes.{AreNotes}
use Rattle.iom_line_writer.specs.Writing.{AppendsFront}
use Rattle.iom_machine.specs.declared.event.Event.{Event}
use Rattle.iom_machine.specs.declared.outcome.Outcome.{Outcome}
use Rattle.iom_script.specs.declared.script.Script.{Script}
use Rattle.iom_script.specs.declared.script.ScriptLine.{ScriptLine}
use Rattle.iom_script.specs.declared.script.ScriptLine.TheVariants as says
use Rattle.iom_script.specs.declared.script.WorldSize.{WorldSize}
use Rattle.iom_settling.specs.Stages.{Settled}
use Rattle.iom_tell.specs.Told.{told_line}
use Rattle.iom_virtio_blk.specs.DiskStates.{DiskState}
use Rattle.iom_world.specs.Happens.{Happens}
use Rattle.iom_world.specs.PowerOn.{BeginsAt}
use Rattle.iom_world.specs.Shown.{Shown}
use Rattle.iom_world_effects.specs.Parts.{Parts}
use Rattle.iom_telling.specs.declared.fault.TellingFault.{TellingFault}
use Rattle.iom_telling.specs.declared.fault.TellingFault.TheVariants.{Memory}

-- a world, the text that was told so far, and whether answers are explained
pub record Telling : Type 0 where
  pub now : Shown
  pub text : List ℕ
  pub explains : Bool

abbrev pub parts_in : Telling → Parts
parts_in telling = telling.now.parts

-- the text of a line with its line feed; where answers are explained, notes may stand behind it, each a line of its own that begins with `# `
abbrev pub IsToldLine : Bool → List ℕ → List ℕ → Type 0
IsToldLine false line text = text ≡ line ++ 10 ∷ []
IsToldLine true line text = (notes : List ℕ) × AreNotes notes × (text ≡ (line ++ 10 ∷ []) ++ notes)

-- an event happens to the world, and its line is told
pub record TellsOne (old : Telling) (event : Event) (outcome : Outcome) (new : Telling) : Type 0 where
  pub happens : Happens old.now event outcome new.now
  pub line : List ℕ
  pub told : IsToldLine old.explains (told_line old.now event outcome new.now) line
  pub text : new.text ≡ old.text ++ line
  pub explains : new.explains ≡ old.explains

-- what a line of the script says happens, and is told: an event; or the events of a settling, each as one
abbrev pub TellsLine : Telling → ScriptLine → Telling → Type 0
TellsLine old (says.Event event) new = (outcome : Outcome) × TellsOne old event outcome new
TellsLine old says.Settle new = (answer : Result ℕ Refusal) × Settled parts_in TellsOne old answer new

-- and lines, one after another
abbrev pub TellsLines : Telling → List ScriptLine → Telling → Type 0
TellsLines old [] new = new ≡ old
TellsLines old (line ∷ lines) new = (mid : Telling) × TellsLine old line mid × TellsLines mid lines new

-- the line of the world
abbrev pub world_text : WorldSize → List ℕ
world_text size = codes "world " ++ decimal size.frames ++ codes " " ++ decimal size.levels ++ codes " => ok" ++ 10 ∷ []

-- the text of the lines in a world of this size, from power-on with these disks
abbrev pub IsToldText : List DiskState → Bool → WorldSize → List ScriptLine → List ℕ → Type 0
IsToldText disks explains size lines text =
    (first last : Telling) × BeginsAt size.frames size.levels disks first.now × (first.text ≡ world_text size) × (first.explains ≡ explains)
    × TellsLines first lines last × (text ≡ last.text)

-- known contents grow by the text of the lines
abbrev pub WritesTold : List DiskState → Bool → WorldSize → List ScriptLine → Option (List ℕ) → Option (List ℕ) → Type 0
WritesTold disks explains size lines old new = (text : List ℕ) × IsToldText disks explains size lines text × Appends old new text

-- known contents grow by a beginning of the text of the first lines
abbrev pub BeginsTold : List DiskState → Bool → WorldSize → List ScriptLine → Option (List ℕ) → Option (List ℕ) → Type 0
BeginsTold disks explains size lines old new = (count : ℕ) × (text : List ℕ) × IsToldText disks explains size (take count lines) text × AppendsFront old new text

-- TELLING A SCRIPT, with answers explained or not, ends so. Of a script that says nothing nothing is written. Where it ends well the whole text is; where something fails, a beginning of the
-- text of its first lines, or for want of memory nothing.
abbrev pub TellsScript : List DiskState → Bool → Script → Result (Unit {0}) TellingFault → Option (List ℕ) → Option (List ℕ) → Type 0
TellsScript disks explains script (Ok done) old new = MatchOption script.world (Keeps old new) (λ size. WritesTold disks explains size script.lines old new)
TellsScript disks explains script (Err fault) old new =
    MatchOption script.world ⊥ (λ size. ((fault ≡ Memory) × Keeps old new) ⊎ BeginsTold disks explains size script.lines old new)
