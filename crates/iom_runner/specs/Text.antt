-- The text of a script, told of a run of the ledger machine: what is right to print for it.
use Rattle.std.specs.Prelude.{◌≡◌, ℕ, Bool, ⊤, List, [], ◌∷◌, ◌++◌, map, All, Option, MatchOption, IfSome, is_some}
use Rattle.std.specs.Io.KnownBytes.{Appends}
use Rattle.std.proofs.Common.{inl, inr}
use Rattle.iom_machine.specs.declared.outcome.Outcome.TheVariants.{Done}
use Rattle.iom_machine.specs.declared.outcome.Trace.{Trace}
use Rattle.iom_machine.specs.declared.state.State.{State}
use Rattle.iom_machine.specs.PowerOn.{model_limits, opening}
use Rattle.iom_machine.specs.Traces.{IsTrace}
use Rattle.iom_block_devices.specs.Numbered.{numbered, disk_number_of}
use Rattle.iom_script.specs.declared.script.Script.{Script}
use Rattle.iom_script.specs.declared.script.ScriptLine.{ScriptLine}
use Rattle.iom_script.specs.declared.script.WorldSize.{WorldSize}
use Rattle.iom_virtio_blk.specs.DiskStates.{DiskState}
use Rattle.iom_line_writer.specs.AnswerLines.{outcome_lines, settled_lines}
use Rattle.iom_runner.specs.LineRuns.{Answer, LineRun, unrolled, ReclaimsIn}

-- what scripts are run with: the disks that are at hand, whose numbers are their places from 0, and whether the counts stand behind each line
pub record Setting : Type 0 where
  pub disks : List DiskState
  pub counts : Bool

-- the state at power-on
abbrev pub power_on : Setting → WorldSize → State
power_on setting size = opening model_limits size.frames size.levels (map disk_number_of (numbered 0 setting.disks))

-- the line of an answer, with that of its counts, where there are any
abbrev pub answer_line : Answer → Option Trace → List ℕ
answer_line (inl outcome) trace = outcome_lines outcome trace
answer_line (inr answer) trace = settled_lines answer trace

abbrev pub answer_lines : List Answer → List (Option Trace) → List ℕ
answer_lines [] traces = []
answer_lines (answer ∷ answers) [] = []
answer_lines (answer ∷ answers) (trace ∷ traces) = answer_line answer trace ++ answer_lines answers traces

-- a line for the world, `ok`, and one for each answer, each with the line of its counts, where there are any
abbrev pub run_text : Option Trace → List Answer → List (Option Trace) → List ℕ
run_text first answers traces = outcome_lines Done first ++ answer_lines answers traces

-- there are counts each time, or never
abbrev pub AreThere : Bool → List (Option Trace) → Type 0
AreThere counts traces = All (λ (trace : Option Trace). is_some trace ≡ counts) traces

-- the counts beside each answer of a run are those of the state that its line leads to
abbrev pub AreTraces : (state : State) (lines : List ScriptLine) (answers : List Answer) → List (Option Trace) → (last : State) → LineRun state lines answers last → Type 0
AreTraces state [] [] [] last run = ⊤
AreTraces state (line ∷ lines) (answer ∷ answers) (trace ∷ traces) last (next, step, rest) =
    IfSome trace (IsTrace next) × AreTraces next lines answers traces last rest
AreTraces state _ _ _ last run = ⊥

-- the text of a run over the lines from power-on, of whose events, those of each settling in its place, the sentences of the headline hold; the counts are
-- those of its states, from power-on on
abbrev pub TellsRun : Setting → WorldSize → List ScriptLine → List ℕ → Type 0
TellsRun setting size lines text =
    (answers : List Answer) × (last : State) × (first : Option Trace) × (traces : List (Option Trace))
    × (run : LineRun (power_on setting size) lines answers last)
    × ReclaimsIn (power_on setting size) last (unrolled (power_on setting size) lines answers last run)
    × AreThere setting.counts (first ∷ traces) × IfSome first (IsTrace (power_on setting size))
    × AreTraces (power_on setting size) lines answers traces last run
    × (text ≡ run_text first answers traces)

-- The text of a script, by what tells the text of lines in a world of some size: nothing where the script says nothing; else that of its lines.
abbrev pub IsTextOf : (WorldSize → List ScriptLine → List ℕ → Type 0) → Script → List ℕ → Type 0
IsTextOf Tells script text = MatchOption script.world (text ≡ []) (λ size. Tells size script.lines text)

-- known contents grow by a text of the script, told of a run of the ledger machine: what this says needs no world
abbrev pub WritesLines : Setting → Script → Option (List ℕ) → Option (List ℕ) → Type 0
WritesLines setting script old new = (text : List ℕ) × IsTextOf (TellsRun setting) script text × Appends old new text
