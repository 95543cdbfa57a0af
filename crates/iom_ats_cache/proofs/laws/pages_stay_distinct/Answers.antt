use Rattle.iom_ats_cache.proofs.LawLemmas.{after_calls}
use Rattle.iom_ats_cache.proofs.laws.pages_stay_distinct.Goals as goal

pub returns : goal.returns
returns c calls cache run = (after_calls calls cache run).2
