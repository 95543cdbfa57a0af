-- How a search goes on.
use Rattle.std.specs.Prelude.{◌≡◌, ℕ, ◌+◌, ◌<◌, ◌≤◌, List, [], ◌∷◌, ◌++◌, Some, length, slice_get, get_or}
use Rattle.iom_litmus_test.specs.declared.observable.Spot.{Spot}
use Rattle.iom_litmus_test.specs.declared.test.Test.{Test}
use Rattle.iom_litmus.specs.declared.node.Edge.{Edge}
use Rattle.iom_litmus.specs.declared.node.Node.{Node}
use Rattle.iom_litmus.specs.declared.place.Place.{Place}
use Rattle.iom_litmus.specs.declared.step.Step.{Step}
use Rattle.iom_litmus.specs.Behaviours.{Behaviour}
use Rattle.iom_litmus.specs.Graphs.{Answer, IsExpanded, WasTried}
use Rattle.iom_litmus.specs.declared.taking.Tried.TheVariants.{Taken}
use Rattle.iom_litmus.specs.Listed.{IsListed}
use Rattle.iom_litmus.specs.Readings.{Readings}
use Rattle.iom_litmus.specs.Rules.{Rules, Noted, noting}
use Rattle.iom_litmus.specs.Seen.{seen_at}
use Rattle.iom_litmus.specs.Steps.{IsLawful, IsWayOf, opening_place}
use Rattle.iom_litmus.specs.Tallies.{edges_at}

-- steps may lead from a place there
abbrev pub LeadsOn : {S : Type 0} → Rules S → Readings S → Test → Place S → List Step → Place S → Type 0
LeadsOn rules r test place [] end = end ≡ place
LeadsOn {S} rules r test place (step ∷ rest) end = (next : Place S) × WasTried rules r test place step (Taken next) × LeadsOn rules r test next rest end

-- from a system made anew
abbrev pub ComesTo : {S : Type 0} → (S → Type 0) → Rules S → Readings S → Test → List Step → Place S → Type 0
ComesTo {S} opens rules r test steps end = (system : S) × opens system × LeadsOn rules r test (opening_place system) steps end

-- a place was found by a step from an earlier one
abbrev pub IsFoundBy : {S : Type 0} → List (Node S) → List (List Edge) → ℕ → Node S → Type 0
IsFoundBy {S} nodes edges k node = (n : ℕ) × (n < k) × (earlier : Node S) × (slice_get nodes n ≡ Some earlier)
    × (edge : Edge) × IsListed (edges_at edges n) edge × (edge.to ≡ k) × (node.way ≡ earlier.way ++ edge.step ∷ [])

-- of the places that were found the first so many have their edges, by these answers
pub record IsExploring {S : Type 0} (noted : Noted S) (r : Readings S) (test : Test) (system : S) (nodes : List (Node S)) (edges : List (List Edge))
    (table : List (List (Answer S))) : Type 0 where
  pub begun : (node : Node S) × (slice_get nodes 0 ≡ Some node) × (node.place ≡ opening_place system) × (node.way ≡ [])
  pub answered : length table ≡ length edges
  pub within : length edges ≤ length nodes
  pub expanded : (n : ℕ) → n < length edges → (node : Node S) × (slice_get nodes n ≡ Some node)
      × IsExpanded noted r test nodes node.place (edges_at edges n) (get_or table n [])
  pub found : (k : ℕ) (node : Node S) → 0 < k → slice_get nodes k ≡ Some node → IsFoundBy nodes edges k node
  pub seen : (k : ℕ) (node : Node S) → slice_get nodes k ≡ Some node → node.outcome ≡ seen_at r test node.place
  -- places with longer ways come later, and no edge leads further than by one step
  pub sorted : (j k : ℕ) (earlier later : Node S) → slice_get nodes j ≡ Some earlier → slice_get nodes k ≡ Some later → j ≤ k → length earlier.way ≤ length later.way
  pub near : (n : ℕ) (node end : Node S) (edge : Edge) → IsListed (edges_at edges n) edge → slice_get nodes n ≡ Some node → slice_get nodes edge.to ≡ Some end
      → length end.way ≤ length node.way + 1
  pub next : (k : ℕ) (node current : Node S) → slice_get nodes (length edges) ≡ Some current → slice_get nodes k ≡ Some node → length node.way ≤ length current.way + 1

-- all places were found, and each has its edges
abbrev pub IsExplored : {S : Type 0} → (S → Type 0) → Noted S → Readings S → Test → List (Node S) → List (List Edge) → Type 0
IsExplored {S} opens noted r test nodes edges = (system : S) × opens system × (table : List (List (Answer S))) × IsExploring noted r test system nodes edges table × (length edges ≡ length nodes)

-- by some behaviour, of which each answer is one that the system may give, steps can be taken for ever
pub record IsEndless {S : Type 0} (opens : S → Type 0) (rules : Rules S) (r : Readings S) (test : Test) : Type 0 where
  pub system : S
  pub behaviour : Behaviour S
  pub cells : List Spot
  pub opened : opens system
  pub lawful : IsLawful (noting rules cells) r behaviour test system
  pub endless : (count : ℕ) → (steps : List Step) × (length steps ≡ count) × IsWayOf r behaviour test system steps
