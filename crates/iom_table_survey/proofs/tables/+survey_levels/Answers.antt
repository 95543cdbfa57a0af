use Rattle.iom_table_survey.proofs.LevelLemmas.{tables_on, leaves_on}
use Rattle.iom_table_survey.proofs.tables.+survey_levels.Goals as goal

pub returns-clause-tables : goal.returns-clause-tables
returns-clause-tables t c =
    tables_on c.args.napot c.args.memory.now c.requires.size c.args.level.now c.survey_level-next.result c.args.tables.now c.union.new.self c.survey_levels.new.tables c.args.levels c.if-levels-eq0.false
    c.union.ensures c.survey_level-next.ensures.pointers c.survey_levels.ensures.tables

pub returns-clause-leaves : goal.returns-clause-leaves
returns-clause-leaves t c =
    leaves_on c.args.napot c.args.memory.now c.requires.size c.args.level.now c.survey_level-next.result c.args.reach.now c.survey_level-next.new.reach c.survey_levels.new.reach c.args.levels c.if-levels-eq0.false
    c.survey_level-next.ensures.leaves c.survey_level-next.ensures.pointers c.survey_levels.ensures.leaves
