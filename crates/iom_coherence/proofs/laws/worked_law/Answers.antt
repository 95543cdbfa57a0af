use Rattle.iom_coherence.proofs.RevivalLemmas.{revivals_occur}
use Rattle.iom_coherence.proofs.WorkedLemmas.{stale_writes_occur}
use Rattle.iom_coherence.proofs.laws.worked_law.Goals as goal

pub returns : goal.returns
returns c = record {
  stale_write = stale_writes_occur;
  revival = revivals_occur;
}
