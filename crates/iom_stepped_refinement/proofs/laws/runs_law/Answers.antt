use Rattle.iom_stepped_refinement.proofs.RunSteps.{events_are_steps, runs_are_reached, runs_are_runs, step_laws}
use Rattle.iom_stepped_refinement.proofs.laws.runs_law.Goals as goal

pub returns-clause-step : goal.returns-clause-step
returns-clause-step c =
    events_are_steps (step_laws c.begins_law.ensures c.waits_law.ensures c.loads_law.ensures c.fetches_law.ensures c.others_law.ensures c.busy_law.ensures)

pub returns-clause-run : goal.returns-clause-run
returns-clause-run c = runs_are_runs c.facts_law.ensures (returns-clause-step c)

pub returns-clause-reached : goal.returns-clause-reached
returns-clause-reached c = runs_are_reached (returns-clause-run c)
