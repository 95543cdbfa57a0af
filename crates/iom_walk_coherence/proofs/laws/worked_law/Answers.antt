use Rattle.iom_walk_coherence.proofs.WorkedLemmas.{stale_walks_occur, walks_must_begin_anew}
use Rattle.iom_walk_coherence.proofs.laws.worked_law.Goals as goal

pub returns : goal.returns
returns c = record {
  stale_walk = stale_walks_occur;
  anew = walks_must_begin_anew;
}
