use Rattle.iom_table_survey.proofs.AddLemmas.{reach_where, reach_not}
use Rattle.iom_way_survey.specs.Found.{LetsDevice}
use Rattle.iom_way_survey.proofs.devices.survey_by_ats.Goals as goal

pub returns-then-lets_ats : goal.returns-then-lets_ats
returns-then-lets_ats c =
    reach_where c.args.reach.now c.survey_ats.new.reach (LetsDevice c.args.hardware.now.fabric c.args.device.now) c.args.lets_ats c.if-lets_ats.true c.survey_ats.ensures

pub returns-else-lets_ats : goal.returns-else-lets_ats
returns-else-lets_ats c = reach_not c.args.reach.now (LetsDevice c.args.hardware.now.fabric c.args.device.now) c.args.lets_ats c.if-lets_ats.false
