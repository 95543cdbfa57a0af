use Rattle.iom_walk_coherence.proofs.TransitionLemmas.{stepped_turns_are_turns, turns_are_stepped_turns}
use Rattle.iom_walk_coherence.proofs.laws.scene_law.Goals as goal

pub returns : goal.returns
returns c = record {
  scenes = stepped_turns_are_turns;
  whole = turns_are_stepped_turns;
}
