-- Whatever occurs to a scene keeps the facts on copies, and those on the walks that are under way beside it.
use Rattle.std.proofs.Common.{List}
use Rattle.iom_coherence.specs.Scene.{Scene}
use Rattle.iom_coherence.specs.Transitions.{Transition, Occurs}
use Rattle.iom_walk_coherence.specs.Transitions.{OfScene, LeavesWalks}
use Rattle.iom_walk_coherence.specs.Walks.{Walk}
use Rattle.iom_walk_coherence.proofs.TransitionLemmas.{transitions_keep_all_facts}
use Rattle.iom_world_effects.specs.Scenes.{FactsHold}

pub facts_kept : (transition : Transition) (old new : Scene) (walks left : List Walk) → LeavesWalks transition walks left → FactsHold old walks → Occurs transition old new
    → FactsHold new left
facts_kept transition old new walks left leaves facts occurs =
    let both = transitions_keep_all_facts (OfScene transition) (record { scene = old; walks = walks }) (record { scene = new; walks = left }) (facts.copies, facts.standing) (occurs, leaves) in
    record { copies = both.0; standing = both.1 }
