use Rattle.iom_machine_judge.proofs.VerdictLemmas.{lines_of_run, run_if_lines}
use Rattle.iom_machine_judge.proofs.decide.lawful_runs_have_choices.Goals as goal

pub returns : goal.returns
returns c = λ old new events outcomes. (
  (λ run. lines_of_run old new events outcomes run),
  (λ found. run_if_lines old new events outcomes found.0 found.1 found.2 found.3),
)
