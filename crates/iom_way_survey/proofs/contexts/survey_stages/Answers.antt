use Rattle.iom_way_survey.proofs.FoundLemmas.{tables_of_second, leaves_of_second, tables_of_first, leaves_of_first}
use Rattle.iom_way_survey.proofs.contexts.survey_stages.Goals as goal

pub returns-in-Tables : goal.returns-in-Tables
returns-in-Tables c =
    let memory = c.args.memory.now in
    let size = c.in-Tables.size in
    let root = c.in-Tables.root in
    record {
      tables = tables_of_second c.args.napot memory c.args.first c.args.second size root c.number.result c.levels.result c.args.tables.now c.survey.new.tables c.in-Tables.is c.number.ensures.value c.levels.ensures c.survey.ensures.tables;
      leaves = leaves_of_second c.args.napot memory c.args.first c.args.second size root c.number.result c.levels.result c.args.reach.now c.survey.new.reach c.in-Tables.is c.number.ensures.value c.levels.ensures c.survey.ensures.leaves;
    }

pub returns-in-Tables-first : goal.returns-in-Tables-first
returns-in-Tables-first c =
    let memory = c.args.memory.now in
    let size = c.in-Tables-first.size in
    let root = c.in-Tables-first.root in
    let number = c.number-in-Tables-first.result in
    let levels = c.levels-in-Tables-first.result in
    record {
      tables = tables_of_first c.args.napot memory c.args.first c.args.second size root number levels c.args.tables.now c.survey-in-Tables-first.new.tables c.in-Bare.is c.in-Tables-first.is
          c.number-in-Tables-first.ensures.value c.levels-in-Tables-first.ensures c.survey-in-Tables-first.ensures.tables;
      leaves = leaves_of_first c.args.napot memory c.args.first c.args.second size root number levels c.args.reach.now c.survey-in-Tables-first.new.reach c.in-Bare.is c.in-Tables-first.is
          c.number-in-Tables-first.ensures.value c.levels-in-Tables-first.ensures c.survey-in-Tables-first.ensures.leaves;
    }
