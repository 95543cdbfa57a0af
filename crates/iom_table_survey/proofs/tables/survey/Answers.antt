use Rattle.iom_table_survey.specs.Rows.{IsInRun}
use Rattle.iom_table_survey.proofs.AddLemmas.{of_none}
use Rattle.iom_table_survey.proofs.LevelLemmas.{tables_from, leaves_from}
use Rattle.iom_table_survey.proofs.tables.survey.Goals as goal

pub returns : goal.returns
returns c =
    let run = of_none c.new-level.result c.insert_run.new.self (IsInRun c.args.root c.args.frames) c.new-level.ensures c.insert_run.ensures in
    record {
      tables = tables_from c.args.napot c.args.memory.now c.requires.size c.insert_run.new.self (IsInRun c.args.root c.args.frames) run c.args.tables.now c.survey_levels.new.tables c.args.levels c.survey_levels.ensures.tables;
      leaves = leaves_from c.args.napot c.args.memory.now c.requires.size c.insert_run.new.self (IsInRun c.args.root c.args.frames) run c.args.reach.now c.survey_levels.new.reach c.args.levels c.survey_levels.ensures.leaves;
    }
