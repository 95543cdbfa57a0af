use Rattle.std.proofs.Common.{add-one}
use Rattle.iom_way_survey.proofs.GrowLemmas.{tables_along, leaves_along}
use Rattle.iom_way_survey.proofs.along.survey_along.Goals as goal

pub returns : goal.returns
returns c = record {
  tables = tables_along c.args.napot c.args.memory.now c.args.pointer _ _ c.args.tables.now c.survey.new.tables c.number.ensures.value (add-one c.args.pointer.level) c.survey.ensures.tables;
  leaves = leaves_along c.args.napot c.args.memory.now c.args.pointer _ _ c.args.reach.now c.survey.new.reach c.number.ensures.value (add-one c.args.pointer.level) c.survey.ensures.leaves;
}
