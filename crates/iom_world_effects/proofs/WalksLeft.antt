-- What stays true where of a world's walks alone something changes, and which are left behind a call that gives up those of a device.
use Rattle.std.proofs.Common.{ℕ, List, []}
use Rattle.std.proofs.Math.Logic.{∥∥₁_map}
use Rattle.iom_coherence.specs.Among.{AreAmong}
use Rattle.iom_coherence.proofs.ListLemmas.{in_none}
use Rattle.iom_walk_coherence.specs.Transitions.{AreOfOthers}
use Rattle.iom_walk_coherence.specs.Walks.{Walk}
use Rattle.iom_world_effects.specs.Parts.{Parts}
use Rattle.iom_world_effects.specs.Read.{values_of}
use Rattle.iom_world_effects.specs.Scenes.{HasSceneWith}
use Rattle.iom_world_effects.specs.Invariant.{InvariantWith}
use Rattle.iom_world_effects.proofs.WalkScenes.{end_scene}

-- nothing of a world changes but which walks are under way
pub walks_change : {walks left : List Walk} (parts : Parts) (events : ℕ) → InvariantWith walks parts events → (HasSceneWith (values_of parts) walks → HasSceneWith (values_of parts) left)
    → InvariantWith left parts events
walks_change parts events invariants scenes = record {
  ready = invariants.ready;
  started = invariants.started;
  unmarked = invariants.unmarked;
  size = invariants.size;
  known = invariants.known;
  small = invariants.small;
  counted = invariants.counted;
  serials = invariants.serials;
  epochs = invariants.epochs;
  contexts = invariants.contexts;
  copies = ∥∥₁_map invariants.copies scenes;
}

-- WALKS END, or are given up
pub given_up : {walks left : List Walk} (parts : Parts) (events : ℕ) → AreAmong left walks → InvariantWith walks parts events → InvariantWith left parts events
given_up {walks = walks} {left = left} parts events among invariants = walks_change parts events invariants (end_scene (values_of parts) walks left among)

-- these walks are left behind a call; none is the device's, where the call was done
abbrev pub AreLeft : Type 0 → ℕ → List Walk → List Walk → Type 0
AreLeft done id left walks = AreAmong left walks × (done → AreOfOthers left id walks)

-- where none was under way none is
pub none_left : {done : Type 0} (id : ℕ) → AreLeft done id [] []
none_left id = (λ walk there. there, λ done walk there. absurd (in_none walk there))
