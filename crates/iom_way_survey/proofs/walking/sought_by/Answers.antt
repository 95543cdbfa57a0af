use Rattle.iom_way_survey.proofs.SoughtLemmas.{within_three}
use Rattle.iom_way_survey.proofs.walking.sought_by.Goals as goal

pub finish_locating-requires : goal.finish_locating-requires
finish_locating-requires c = within_three c.in-Some-GoesOn-InDirectory.walk
