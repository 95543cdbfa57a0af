use Rattle.iom_coherence.proofs.HistoryLemmas.{facts_are_of_all_histories}
use Rattle.iom_coherence.proofs.TransitionLemmas.{faithful_after_fence, transitions_keep_facts, turns_keep_facts, accesses_always_may}
use Rattle.iom_coherence.proofs.SourceLemmas.{accesses_may}
use Rattle.iom_coherence.proofs.laws.reclaim_law.Goals as goal

pub returns : goal.returns
returns c = record {
  opening = faithful_after_fence;
  kept = transitions_keep_facts;
  in_turn = turns_keep_facts;
  history = facts_are_of_all_histories;
  may = accesses_may;
  run = accesses_always_may;
}
