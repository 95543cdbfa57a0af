use Rattle.std.proofs.Common.{sym}
use Rattle.iom_walks.specs.Walks.{under_way_of}
use Rattle.iom_way_survey.proofs.GuestLemmas.{next_let}
use Rattle.iom_way_survey.proofs.walking.survey_own.Goals as goal

pub returns-in-Some-serving : goal.returns-in-Some-serving
returns-in-Some-serving c =
    next_let (under_way_of c.args.walks.now c.args.id) c.in-Some.request c.in-Some-serving.serving c.args.reach.now c.survey_next.new.reach (sym c.in-Some.ensures) (sym c.in-Some-serving.ensures)
    c.survey_next.ensures
