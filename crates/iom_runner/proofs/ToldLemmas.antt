-- The texts of answers, and of later ones.
use Rattle.std.proofs.Common.{◌≡◌, ◌++◌, ◌∙◌, suc, List, [], ◌∷◌, length, Option, refl, sym, ap, append_assoc, append-nil}
use Rattle.iom_machine.specs.declared.outcome.Trace.{Trace}
use Rattle.iom_machine.specs.declared.state.State.{State}
use Rattle.iom_script.specs.declared.script.ScriptLine.{ScriptLine}
use Rattle.iom_line_writer.specs.AnswerLines.{outcome_lines}
use Rattle.iom_machine.specs.declared.outcome.Outcome.TheVariants.{Done}
use Rattle.iom_runner.specs.LineRuns.{Answer}
use Rattle.iom_runner.specs.Text.{answer_line, answer_lines, run_text}
use Rattle.iom_runner.proofs.AnswerLemmas.{CountedRun}

-- there are as many counts as answers
pub traces_as_many : (state last : State) (lines : List ScriptLine) (answers : List Answer) (traces : List (Option Trace)) → CountedRun state lines answers traces last
    → length answers ≡ length traces
traces_as_many state last [] [] [] ran = refl
traces_as_many state last [] [] (trace ∷ traces) ran = absurd ran.1
traces_as_many state last [] (answer ∷ answers) traces ran = absurd ran.0
traces_as_many state last (line ∷ lines) [] traces ran = absurd ran.0
traces_as_many state last (line ∷ lines) (answer ∷ answers) [] ran = absurd ran.1
traces_as_many state last (line ∷ lines) (answer ∷ answers) (trace ∷ traces) ((next, step, run), are) = ap (λ n. suc n) (traces_as_many next last lines answers traces (run, are.1))

-- the text of answers, and of later ones
pub answers_append : (answers later : List Answer) (traces more : List (Option Trace)) → length answers ≡ length traces
    → answer_lines (answers ++ later) (traces ++ more) ≡ answer_lines answers traces ++ answer_lines later more
answers_append [] later [] more same = refl
answers_append [] later (trace ∷ traces) more same = cc
answers_append (answer ∷ answers) later [] more same = cc
answers_append (answer ∷ answers) later (trace ∷ traces) more same =
    let rest : length answers ≡ length traces = cc in
    ap (λ l. answer_line answer trace ++ l) (answers_append answers later traces more rest) ∙ sym (append_assoc (answer_line answer trace) (answer_lines answers traces) (answer_lines later more))

-- and of one more
pub answers_more : (answers : List Answer) (answer : Answer) (traces : List (Option Trace)) (trace : Option Trace) → length answers ≡ length traces
    → answer_lines (answers ++ answer ∷ []) (traces ++ trace ∷ []) ≡ answer_lines answers traces ++ answer_line answer trace
answers_more answers answer traces trace same =
    answers_append answers (answer ∷ []) traces (trace ∷ []) same ∙ ap (λ l. answer_lines answers traces ++ l) (append-nil (answer_line answer trace))

-- the text of a run that goes on
pub text_more : (first : Option Trace) (answers later : List Answer) (traces more : List (Option Trace)) → length answers ≡ length traces
    → run_text first (answers ++ later) (traces ++ more) ≡ run_text first answers traces ++ answer_lines later more
text_more first answers later traces more same =
    ap (λ l. outcome_lines Done first ++ l) (answers_append answers later traces more same) ∙ sym (append_assoc (outcome_lines Done first) (answer_lines answers traces) (answer_lines later more))
