use Rattle.iom_ats_cache.proofs.FindLemmas.{found_exactly}
use Rattle.iom_ats_cache.proofs.laws.finds_the_pages_entry.Goals as goal

pub returns : goal.returns
returns c = found_exactly
