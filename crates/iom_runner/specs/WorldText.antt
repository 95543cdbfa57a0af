-- The text of a script, told of a run that a world goes along; and what is written of it where writing fails.
use Rattle.std.specs.Prelude.{◌≡◌, ℕ, ◌≤◌, ⊤, List, [], ◌∷◌, take, Option, Ok, Err}
use Rattle.std.specs.Io.KnownBytes.{Appends}
use Rattle.std.proofs.Common.{inl, inr}
use Rattle.iom_machine.specs.declared.outcome.Trace.{Trace}
use Rattle.iom_machine.specs.declared.state.State.{State}
use Rattle.iom_driver.specs.Fences.{last_fence}
use Rattle.iom_world.specs.PowerOn.{BeginsAt}
use Rattle.iom_world.specs.Runs.{AreCounts}
use Rattle.iom_world.specs.Shown.{Shown}
use Rattle.iom_script.specs.declared.script.Script.{Script}
use Rattle.iom_script.specs.declared.script.ScriptLine.{ScriptLine}
use Rattle.iom_script.specs.declared.script.WorldSize.{WorldSize}
use Rattle.iom_settling_runs.specs.Laws.{GoesThroughAll}
use Rattle.iom_world.specs.Shows.{Shows}
use Rattle.iom_line_writer.specs.Writing.{AppendsFront, AppendsPart}
use Rattle.iom_runner.specs.LineRuns.{Answer, LineLeads, LineRun, unrolled_line, unrolled, ReclaimsIn}
use Rattle.iom_runner.specs.Text.{Setting, power_on, run_text, AreThere, TellsRun, IsTextOf}

-- settling is refused only where the numbers of fences are used up
abbrev pub IsRefusedRightly : Answer → Shown → Type 0
IsRefusedRightly (inl outcome) new = ⊤
IsRefusedRightly (inr (Ok count)) new = ⊤
IsRefusedRightly (inr (Err why)) new = 4294967295 ≤ last_fence (new.parts.driver)

-- the world goes through the events of a line that is answered so
abbrev pub GoesBy : (state : State) → Shown → (line : ScriptLine) (answer : Answer) (last : State) → LineLeads state line answer last → Shown → Type 0
GoesBy state old line answer last step new = GoesThroughAll state old last (unrolled_line state line answer last step) new × IsRefusedRightly answer new

-- the world goes through the events of each line, and is this one in the end: it shows the states that the run is in, each event does to it what it may,
-- and the counts beside each answer are those of the state then
abbrev pub GoesAlong : (state : State) → Shown → (lines : List ScriptLine) (answers : List Answer) → List (Option Trace) → (last : State)
    → LineRun state lines answers last → Shown → Type 0
GoesAlong state old [] [] [] last run new = Shows new last × (new ≡ old)
GoesAlong state old (line ∷ lines) (answer ∷ answers) (trace ∷ traces) last (mid, step, rest) new =
    (later : Shown) × GoesBy state old line answer mid step later × AreCounts mid later trace
    × GoesAlong mid later lines answers traces last rest new
GoesAlong state old _ _ _ last run new = ⊥

-- the text of a run over the lines from power-on that a world goes along from its own, and of whose events, those of each settling in its place, the
-- sentences of the headline hold; each event also does to the world what the machine doesn't see, and the counts are also those of the messages under way
abbrev pub TellsWorld : Setting → WorldSize → List ScriptLine → List ℕ → Type 0
TellsWorld setting size lines text =
    (old new : Shown) × (answers : List Answer) × (last : State) × (first : Option Trace) × (traces : List (Option Trace))
    × BeginsAt size.frames size.levels setting.disks old
    × (run : LineRun (power_on setting size) lines answers last)
    × GoesAlong (power_on setting size) old lines answers traces last run new
    × ReclaimsIn (power_on setting size) last (unrolled (power_on setting size) lines answers last run)
    × AreThere setting.counts (first ∷ traces) × AreCounts (power_on setting size) old first
    × (text ≡ run_text first answers traces)

-- the text of such a run over some of the lines, from the first on
abbrev pub TellsSoFar : Setting → WorldSize → List ScriptLine → List ℕ → Type 0
TellsSoFar setting size lines text = (count : ℕ) × TellsWorld setting size (take count lines) text

-- known contents grow by the text of a run over the lines that a world goes along
abbrev pub WritesRun : Setting → WorldSize → List ScriptLine → Option (List ℕ) → Option (List ℕ) → Type 0
WritesRun setting size lines old new = (text : List ℕ) × TellsWorld setting size lines text × Appends old new text

-- known contents grow by a beginning of the text of a run over the lines
abbrev pub BeginsRun : Setting → WorldSize → List ScriptLine → Option (List ℕ) → Option (List ℕ) → Type 0
BeginsRun setting size lines old new = (text : List ℕ) × TellsRun setting size lines text × AppendsFront old new text

-- known contents grow by a beginning, but not by all, of the text of a run over the first lines that a world goes along
abbrev pub BeginsRunSoFar : Setting → WorldSize → List ScriptLine → Option (List ℕ) → Option (List ℕ) → Type 0
BeginsRunSoFar setting size lines old new = (text : List ℕ) × TellsSoFar setting size lines text × AppendsPart old new text

-- known contents grow by a text of the script, told of a run that a world goes along
abbrev pub WritesText : Setting → Script → Option (List ℕ) → Option (List ℕ) → Type 0
WritesText setting script old new = (text : List ℕ) × IsTextOf (TellsWorld setting) script text × Appends old new text

-- known contents grow by a beginning of a text of the script
abbrev pub BeginsText : Setting → Script → Option (List ℕ) → Option (List ℕ) → Type 0
BeginsText setting script old new = (text : List ℕ) × IsTextOf (TellsRun setting) script text × AppendsFront old new text

-- known contents grow by a beginning, but not by all, of a text of the script's first lines, told of a run that a world goes along
abbrev pub BeginsTextSoFar : Setting → Script → Option (List ℕ) → Option (List ℕ) → Type 0
BeginsTextSoFar setting script old new = (text : List ℕ) × IsTextOf (TellsSoFar setting) script text × AppendsPart old new text
