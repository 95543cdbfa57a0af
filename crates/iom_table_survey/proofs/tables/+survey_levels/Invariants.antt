use Rattle.iom_table_survey.proofs.tables.+survey_levels.Given as goal

abbrev pub decreases-survey_levels : goal.decreases-survey_levels
decreases-survey_levels l = l.levels
