use Rattle.iom_way_survey.proofs.SafeLemmas.{none_is_safe, some_conflicts, some_clash}
use Rattle.iom_way_survey.proofs.findings.Survey.is_safe.Goals as goal

pub returns : goal.returns
returns c = record {
  safe = none_is_safe c.args.self.now c.first_conflict.result c.is_none.result c.first_conflict.ensures.none c.is_none.ensures;
  conflict = some_conflicts c.args.self.now c.first_conflict.result c.is_none.result c.first_conflict.ensures.some c.is_none.ensures;
  clash = some_clash c.args.self.now c.first_conflict.result c.is_none.result c.first_conflict.ensures.some c.is_none.ensures;
}
