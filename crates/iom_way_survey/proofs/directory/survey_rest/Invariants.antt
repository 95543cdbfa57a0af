use Rattle.iom_way_survey.proofs.SoughtLemmas.{IsLeftOf}
use Rattle.iom_way_survey.proofs.directory.survey_rest.Given as goal

-- what is still to come
abbrev pub invariant-loop-made : goal.invariant-loop-made
invariant-loop-made l = IsLeftOf l.memory l.fn.walk l.fn.read l.read l._made l.progress
