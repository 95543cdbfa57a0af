-- What a line does to a world, and how far along the lines it is.
-- For the calls inside this crate alone; no public contract cites these.
use Rattle.std.specs.Prelude.{ℕ, Bool, List, take, Option}
use Rattle.iom_machine.specs.declared.outcome.Trace.{Trace}
use Rattle.iom_machine.specs.declared.state.State.{State}
use Rattle.iom_world.specs.Runs.{AreCounts}
use Rattle.iom_world.specs.Shown.{Shown}
use Rattle.iom_script.specs.declared.script.ScriptLine.{ScriptLine}
use Rattle.iom_world.specs.Shows.{Shows}
use Rattle.iom_line_writer.specs.declared.writing.LineWriter.{LineWriter}
use Rattle.iom_line_writer.specs.Writing.{TakesText, FailsAt}
use Rattle.iom_runner.specs.LineRuns.{Answer, LineLeads, LineRun}
use Rattle.iom_runner.specs.WorldText.{GoesAlong, GoesBy}
use Rattle.iom_runner.specs.Text.{answer_lines, AreThere}

-- A line is answered so, with these counts: from every state that the world shows, the machine comes to one that it shows then, through events that
-- the world goes through.
abbrev pub LineHappens : Shown → ScriptLine → Answer → Option Trace → Shown → Type 0
LineHappens old line answer trace new = (state : State) → Shows old state
    → (last : State) × (step : LineLeads state line answer last) × GoesBy state old line answer last step new
    × AreCounts last new trace × Shows new last

-- the world went along these lines, with counts or without
pub record WentAlong (state : State) (old : Shown) (lines : List ScriptLine) (counts : Bool) (new : Shown) : Type 0 where
  pub answers : List Answer
  pub traces : List (Option Trace)
  pub last : State
  pub run : LineRun state lines answers last
  pub along : GoesAlong state old lines answers traces last run new
  pub there : AreThere counts traces

-- and the sink took the lines of all answers
abbrev pub RunsAlong : {W : Type 0} → (W → Option (List ℕ)) → State → Shown → List ScriptLine → (before after : LineWriter W) → Shown → Type 0
RunsAlong contents state old lines before after new =
    (went : WentAlong state old lines before.counts new) × TakesText contents before (answer_lines went.answers went.traces) after

-- or failed at those of the first lines
abbrev pub FailsAlong : {W : Type 0} → (W → Option (List ℕ)) → State → Shown → List ScriptLine → (before after : LineWriter W) → Shown → Type 0
FailsAlong contents state old lines before after new =
    (count : ℕ) × (went : WentAlong state old (take count lines) before.counts new) × FailsAt contents before (answer_lines went.answers went.traces) after
