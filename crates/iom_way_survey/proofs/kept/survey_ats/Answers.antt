use Rattle.iom_way_survey.proofs.FoundLemmas.{lets_cached}
use Rattle.iom_way_survey.proofs.kept.survey_ats.Goals as goal

pub returns-in-Ats : goal.returns-in-Ats
returns-in-Ats c = lets_cached c.args.hardware.now.fabric c.args.device.now c.args.device.now.kind c.epoch.result c.args.reach.now c.survey_cache.new.reach c.survey_messages.new.reach
    c.in-Ats.is c.epoch.ensures c.survey_cache.ensures c.survey_messages.ensures
