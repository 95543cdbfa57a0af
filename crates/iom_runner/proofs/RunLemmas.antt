-- Runs from power-on, and the texts that tell them.
use Rattle.std.proofs.Common.{◌≡◌, ◌++◌, ◌∙◌, ℕ, Bool, List, [], ◌∷◌, length, map, take, drop, Option, IfSome, is_some, refl, sym, subst, arith}
use Rattle.std.specs.Io.KnownBytes.{Appends}
use Rattle.std.proofs.lemmas.List.{take_all, take-append-drop}
use Rattle.std.proofs.lemmas.List.Elements.{All-cons, All-head, All-tail, All-append}
use Rattle.iom_machine.specs.declared.outcome.Outcome.TheVariants.{Done}
use Rattle.iom_machine.specs.declared.outcome.Trace.{Trace}
use Rattle.iom_machine.specs.declared.state.State.{State}
use Rattle.iom_machine.specs.Laws.{IsReached}
use Rattle.iom_machine.specs.PowerOn.{model_limits}
use Rattle.iom_machine.specs.Traces.{IsTrace}
use Rattle.iom_machine.proofs.ReclaimLemmas.{reclaims}
use Rattle.iom_world.specs.PowerOn.{BeginsAt}
use Rattle.iom_block_devices.specs.Numbered.{numbered, disk_number_of}
use Rattle.iom_world.specs.Runs.{AreCounts}
use Rattle.iom_world.specs.Shown.{Shown}
use Rattle.iom_script.specs.declared.script.ScriptLine.{ScriptLine}
use Rattle.iom_script.specs.declared.script.WorldSize.{WorldSize}
use Rattle.iom_line_writer.specs.declared.writing.LineWriter.{LineWriter}
use Rattle.iom_line_writer.specs.AnswerLines.{outcome_lines}
use Rattle.iom_line_writer.specs.Writing.{AppendsFront, AppendsPart, KeepsWriter, TakesText, TakesLine, FailsWriting}
use Rattle.iom_line_writer.proofs.WritingLemmas.{front-longer, part-front, part-longer, takes-more, fails-later, all_written, part_written, part_failed}
use Rattle.iom_runner.specs.Going.{WentAlong, RunsAlong, FailsAlong}
use Rattle.iom_runner.specs.LineRuns.{Answer, LineRun, unrolled, ReclaimsIn}
use Rattle.iom_runner.specs.WorldText.{TellsWorld, WritesRun, BeginsRun, BeginsRunSoFar}
use Rattle.iom_runner.specs.Text.{Setting, power_on, run_text, answer_lines, AreThere, TellsRun}
use Rattle.iom_runner.proofs.AlongLemmas.{state_counts, along_traces, went_none}
use Rattle.iom_runner.proofs.AnswerLemmas.{CountedRun, goes_on}
use Rattle.iom_runner.proofs.ToldLemmas.{traces_as_many, text_more}

-- power-on is reached, by no events
power_on_is_reached : (setting : Setting) (size : WorldSize) → IsReached (power_on setting size)
power_on_is_reached setting size = ([], [], (model_limits, size.frames, size.levels, map disk_number_of (numbered 0 setting.disks), refl))

-- the sentences of the headline hold of every run from power-on
run_reclaims : (setting : Setting) (size : WorldSize) (lines : List ScriptLine) (answers : List Answer) (last : State) (run : LineRun (power_on setting size) lines answers last)
    → ReclaimsIn (power_on setting size) last (unrolled (power_on setting size) lines answers last run)
run_reclaims setting size lines answers last run =
    let all = unrolled (power_on setting size) lines answers last run in reclaims (power_on setting size) all.events all.outcomes last (power_on_is_reached setting size) all.run

-- a run that a world goes along, as it is told, is one of the machine
pub machine_run : (setting : Setting) (size : WorldSize) (lines : List ScriptLine) (text : List ℕ) → TellsWorld setting size lines text → TellsRun setting size lines text
machine_run setting size lines text (shown, end, answers, last, first, traces, begins, run, along, reclaim, there, counts, is) = (
  answers,
  last,
  first,
  traces,
  run,
  reclaim,
  there,
  state_counts (power_on setting size) shown first counts,
  along_traces (power_on setting size) last shown end lines answers traces run along,
  is,
)

-- the text of a run over the first lines is a beginning of one over all, as every line has an answer
tells_more : (setting : Setting) (size : WorldSize) (lines : List ScriptLine) (count : ℕ) (answers : List Answer) (first : Option Trace) (traces : List (Option Trace)) (last : State) (old new : Option (List ℕ))
    → CountedRun (power_on setting size) (take count lines) answers traces last → is_some first ≡ setting.counts → AreThere setting.counts traces → IfSome first (IsTrace (power_on setting size))
    → AppendsFront old new (run_text first answers traces) → BeginsRun setting size lines old new
tells_more setting size lines count answers first traces last old new ran first_there there counted front =
    let rest = goes_on setting.counts (power_on setting size) last (take count lines) (drop count lines) answers traces (power_on_is_reached setting size, refl) ran in
    let whole : CountedRun (power_on setting size) lines (answers ++ rest.0) (traces ++ rest.1) rest.2 =
    subst (λ (ls : List ScriptLine). CountedRun (power_on setting size) ls (answers ++ rest.0) (traces ++ rest.1) rest.2) (take-append-drop count lines) rest.3 in
    let all : AreThere setting.counts (first ∷ traces ++ rest.1) =
    All-cons (λ (t : Option Trace). is_some t ≡ setting.counts) first (traces ++ rest.1) first_there (All-append (λ (t : Option Trace). is_some t ≡ setting.counts) traces rest.1 there rest.4) in (
      run_text first (answers ++ rest.0) (traces ++ rest.1),
      (
        answers ++ rest.0,
        rest.2,
        first,
        traces ++ rest.1,
        whole.0,
        run_reclaims setting size lines (answers ++ rest.0) rest.2 whole.0,
        all,
        counted,
        whole.1,
        refl,
      ),
      subst (AppendsFront old new) (sym (text_more first answers rest.0 traces rest.1 (traces_as_many (power_on setting size) last (take count lines) answers traces ran)))
          (front-longer old new (run_text first answers traces) (answer_lines rest.0 rest.1) front),
    )

-- a part of a text of the first lines is a beginning of a text of all
pub begins_whole : (setting : Setting) (size : WorldSize) (lines : List ScriptLine) (old new : Option (List ℕ))
    → BeginsRunSoFar setting size lines old new → BeginsRun setting size lines old new
begins_whole setting size lines old new (text, (count, (shown, end, answers, last, first, traces, begins, run, along, reclaim, there, counts, is)), part) =
    tells_more setting size lines count answers first traces last old new
    (run, along_traces (power_on setting size) last shown end (take count lines) answers traces run along)
    (All-head (λ (t : Option Trace). is_some t ≡ setting.counts) first traces there) (All-tail (λ (t : Option Trace). is_some t ≡ setting.counts) first traces there)
    (state_counts (power_on setting size) shown first counts) (subst (AppendsFront old new) is (part-front old new text part))

-- what the world and the sink have in common at the first line: the sink wants counts or not, and there they are
pub record IsFirst {W : Type 0} (setting : Setting) (size : WorldSize) (shown : Shown) (lines : LineWriter W) (first : Option Trace) : Type 0 where
  pub begins : BeginsAt size.frames size.levels setting.disks shown
  pub counts : lines.counts ≡ setting.counts
  pub wanted : is_some first ≡ lines.counts
  pub counted : AreCounts (power_on setting size) shown first

-- a run, which a world goes along, is told by its lines
tells_world : {W : Type 0} (setting : Setting) (size : WorldSize) (lines : List ScriptLine) (counts : Bool) (shown end : Shown) (writer : LineWriter W) (first : Option Trace)
    → IsFirst setting size shown writer first → counts ≡ setting.counts → (went : WentAlong (power_on setting size) shown lines counts end)
    → TellsWorld setting size lines (run_text first went.answers went.traces)
tells_world setting size lines counts shown end writer first is same went = (
  shown,
  end,
  went.answers,
  went.last,
  first,
  went.traces,
  is.begins,
  went.run,
  went.along,
  run_reclaims setting size lines went.answers went.last went.run,
  All-cons (λ (t : Option Trace). is_some t ≡ setting.counts) first went.traces (is.wanted ∙ is.counts) (subst (λ (b : Bool). AreThere b went.traces) same went.there),
  is.counted,
  refl,
)

-- what a sink that had nothing takes of the line of the world and of those of a run
takes_run : {W : Type 0} (contents : W → Option (List ℕ)) (old opened new : LineWriter W) (first : Option Trace) (state : State) (lines : List ScriptLine) (shown end : Shown)
    → TakesLine contents old Done first opened → (ran : RunsAlong contents state shown lines opened new end) → TakesText contents old (run_text first ran.0.answers ran.0.traces) new
takes_run contents old opened new first state lines shown end put ran =
    takes-more contents old opened new (outcome_lines Done first) (answer_lines ran.0.answers ran.0.traces) put ran.1

-- a run whose lines are all written is told
pub told_whole : {W : Type 0} (contents : W → Option (List ℕ)) (setting : Setting) (size : WorldSize) (lines : List ScriptLine) (old opened mid new : LineWriter W) (first : Option Trace) (shown end : Shown)
    → old.buffer ≡ [] → IsFirst setting size shown old first → TakesLine contents old Done first opened
    → RunsAlong contents (power_on setting size) shown lines opened mid end
    → Appends (contents mid.writer.now) (contents new.writer.now) mid.buffer
    → WritesRun setting size lines (contents old.writer.now) (contents new.writer.now)
told_whole contents setting size lines old opened mid new first shown end empty is put ran wrote = (
  run_text first ran.0.answers ran.0.traces,
  tells_world setting size lines opened.counts shown end old first is (put.0.1 ∙ is.counts) ran.0,
  all_written contents old mid (contents new.writer.now) (run_text first ran.0.answers ran.0.traces) empty (takes_run contents old opened mid first (power_on setting size) lines shown end put ran) wrote,
)

-- of the line of the world a part is written, and no other came
pub so_far_none : {W : Type 0} (contents : W → Option (List ℕ)) (setting : Setting) (size : WorldSize) (lines : List ScriptLine) (old new : LineWriter W) (first : Option Trace) (shown : Shown)
    → old.buffer ≡ [] → IsFirst setting size shown old first → FailsWriting contents old Done first new
    → BeginsRunSoFar setting size lines (contents old.writer.now) (contents new.writer.now)
so_far_none contents setting size lines old new first shown empty is failed = (
  run_text first [] [],
  (0, tells_world setting size [] old.counts shown shown old first is is.counts (went_none (power_on setting size) shown old.counts is.begins.shows)),
  part-longer _ _ (outcome_lines Done first) [] (part_failed contents old new (outcome_lines Done first) empty failed),
)

-- a run of which a part is written at the end
pub told_in_part : {W : Type 0} (contents : W → Option (List ℕ)) (setting : Setting) (size : WorldSize) (lines : List ScriptLine) (old opened mid new : LineWriter W) (first : Option Trace) (shown end : Shown)
    → old.buffer ≡ [] → IsFirst setting size shown old first → TakesLine contents old Done first opened
    → RunsAlong contents (power_on setting size) shown lines opened mid end
    → AppendsPart (contents mid.writer.now) (contents new.writer.now) mid.buffer
    → BeginsRunSoFar setting size lines (contents old.writer.now) (contents new.writer.now)
told_in_part contents setting size lines old opened mid new first shown end empty is put ran wrote =
    let all : take (length lines) lines ≡ lines = take_all (length lines) lines (omega arith) in
    let text = run_text first ran.0.answers ran.0.traces in (
      text,
      (
        length lines,
        subst (λ (ls : List ScriptLine). TellsWorld setting size ls text) (sym all) (tells_world setting size lines opened.counts shown end old first is (put.0.1 ∙ is.counts) ran.0),
      ),
      part_written contents old mid (contents new.writer.now) text empty (takes_run contents old opened mid first (power_on setting size) lines shown end put ran) wrote,
    )

-- a run that ends where the sink fails
pub told_until_failure : {W : Type 0} (contents : W → Option (List ℕ)) (setting : Setting) (size : WorldSize) (lines : List ScriptLine) (old opened new : LineWriter W) (first : Option Trace) (shown end : Shown)
    → old.buffer ≡ [] → IsFirst setting size shown old first → TakesLine contents old Done first opened
    → FailsAlong contents (power_on setting size) shown lines opened new end
    → BeginsRunSoFar setting size lines (contents old.writer.now) (contents new.writer.now)
told_until_failure contents setting size lines old opened new first shown end empty is put (count, went, failed) = (
  run_text first went.answers went.traces,
  (count, tells_world setting size (take count lines) opened.counts shown end old first is (put.0.1 ∙ is.counts) went),
  part_failed contents old new (run_text first went.answers went.traces) empty (fails-later contents old opened new (outcome_lines Done first) (answer_lines went.answers went.traces) put failed),
)

-- the sink writes to the same writer, where the run goes to its end
pub same_if_ran : {W : Type 0} (contents : W → Option (List ℕ)) (lines : List ScriptLine) (old opened mid new : LineWriter W) (first : Option Trace) (state : State) (shown end : Shown)
    → TakesLine contents old Done first opened → RunsAlong contents state shown lines opened mid end → KeepsWriter mid new → KeepsWriter old new
same_if_ran contents lines old opened mid new first state shown end put ran same =
    let took = takes_run contents old opened mid first state lines shown end put ran in (same.0 ∙ took.0.0, same.1 ∙ took.0.1)

-- the same, where the sink fails
pub same_if_failed : {W : Type 0} (contents : W → Option (List ℕ)) (lines : List ScriptLine) (old opened new : LineWriter W) (first : Option Trace) (state : State) (shown end : Shown)
    → TakesLine contents old Done first opened → FailsAlong contents state shown lines opened new end → KeepsWriter old new
same_if_failed contents lines old opened new first state shown end put (count, went, failed) = (failed.0.0 ∙ put.0.0, failed.0.1 ∙ put.0.1)
