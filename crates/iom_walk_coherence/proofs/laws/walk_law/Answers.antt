use Rattle.iom_walk_coherence.proofs.LawLemmas.{walks_are_of_all_histories}
use Rattle.iom_walk_coherence.proofs.TransitionLemmas.{faithful_without_walks, stepped_scenes_are_faithful, transitions_keep_all_facts, turns_keep_all_facts}
use Rattle.iom_walk_coherence.proofs.laws.walk_law.Goals as goal

pub returns : goal.returns
returns c = record {
  opening = faithful_without_walks;
  kept = transitions_keep_all_facts;
  in_turn = turns_keep_all_facts;
  run = stepped_scenes_are_faithful;
  history = walks_are_of_all_histories;
}
