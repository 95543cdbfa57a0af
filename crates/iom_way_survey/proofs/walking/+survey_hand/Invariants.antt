use Rattle.iom_way_survey.proofs.walking.+survey_hand.Given as goal

-- the level of the table in hand
abbrev pub decreases-survey_hand : goal.decreases-survey_hand
decreases-survey_hand l = l.hand.level
