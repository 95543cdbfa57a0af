use Rattle.iom_ats_cache.proofs.LawLemmas.{after_calls}
use Rattle.iom_ats_cache.proofs.laws.epoch_counts.Goals as goal

pub returns : goal.returns
returns c calls cache run = (after_calls calls cache run).0
