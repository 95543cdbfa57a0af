use Rattle.iom_ats_cache.proofs.LawLemmas.{none_since}
use Rattle.iom_ats_cache.proofs.laws.keeps_only_what_was_asked_since.Goals as goal

pub returns : goal.returns
returns c = none_since
