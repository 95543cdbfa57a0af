-- How many ways through the places lead to an end with an outcome.
use Rattle.std.specs.Prelude.{◌≡◌, ◌↔◌, ℕ, ◌+◌, ◌<◌, ◌≤◌, Bool, true, false, List, [], ◌∷◌, Option, Some, None, length, slice_get, get_or}
use Rattle.iom_litmus_test.specs.declared.observable.Value.{Value}
use Rattle.iom_litmus.specs.declared.node.Edge.{Edge}
use Rattle.iom_litmus.specs.declared.node.Node.{Node}
use Rattle.iom_litmus.specs.declared.step.Step.{Step}
use Rattle.iom_litmus.specs.declared.histogram.Row.{Row}
use Rattle.iom_litmus.specs.Graphs.{steps_of}
use Rattle.iom_litmus.specs.Histograms.{outcomes}
use Rattle.iom_litmus.specs.Listed.{IsListed, AreListedOnce}

-- the edges from a place
abbrev pub edges_at : List (List Edge) → ℕ → List Edge
edges_at edges n = get_or edges n []

-- a place from which no step goes on, where this is seen
abbrev pub IsEndWith : {S : Type 0} → List (Node S) → List (List Edge) → List Value → ℕ → Type 0
IsEndWith {S} nodes edges outcome n = (edges_at edges n ≡ []) × ((node : Node S) × (slice_get nodes n ≡ Some node) × (node.outcome ≡ outcome))

-- steps along edges, to such an end
abbrev pub IsRoute : {S : Type 0} → List (Node S) → List (List Edge) → List Value → ℕ → List Step → Type 0
IsRoute nodes edges outcome n [] = IsEndWith nodes edges outcome n
IsRoute nodes edges outcome n (step ∷ rest) = (to : ℕ) × IsListed (edges_at edges n) (record { step = step; to = to }) × IsRoute nodes edges outcome to rest

-- the same, where the first step is by one of these edges
abbrev pub IsRouteBy : {S : Type 0} → List (Node S) → List (List Edge) → List Value → List Edge → List Step → Type 0
IsRouteBy nodes edges outcome by [] = ⊥
IsRouteBy nodes edges outcome by (step ∷ rest) = (to : ℕ) × IsListed by (record { step = step; to = to }) × IsRoute nodes edges outcome to rest

-- there are so many of them
abbrev pub AreSoMany : (List Step → Type 0) → ℕ → Type 0
AreSoMany IsSuch count = (routes : List (List Step)) × AreListedOnce routes × (length routes ≡ count) × ((route : List Step) → IsListed routes route ↔ IsSuch route)

-- what is told of each place so far is the number of its routes
abbrev pub AreTallies : {S : Type 0} → List (Node S) → List (List Edge) → List Value → List (Option ℕ) → Type 0
AreTallies nodes edges outcome tallies = (n : ℕ) (count : ℕ) → slice_get tallies n ≡ Some (Some count) → AreSoMany (IsRoute nodes edges outcome n) count

-- nothing is told of a place yet
abbrev pub IsUntold : List (Option ℕ) → ℕ → Type 0
IsUntold tallies n = (count : ℕ) → ¬ (slice_get tallies n ≡ Some (Some count))

abbrev pub IsToldOf : List (Option ℕ) → ℕ → Option ℕ → Type 0
IsToldOf tallies n None = IsUntold tallies n
IsToldOf tallies n (Some count) = slice_get tallies n ≡ Some (Some count)

-- the sum of what is told, where each is told
abbrev pub IsSum : List (Option ℕ) → List Edge → Option ℕ → Type 0
IsSum tallies edges None = (edge : Edge) × IsListed edges edge × IsUntold tallies edge.to
IsSum tallies [] (Some sum) = sum ≡ 0
IsSum tallies (edge ∷ rest) (Some sum) = (one : ℕ) × (others : ℕ) × (slice_get tallies edge.to ≡ Some (Some one)) × IsSum tallies rest (Some others) × (sum ≡ one + others)

-- what is to be told of a place: None where an edge from it leads where nothing is told
abbrev pub IsTally : {S : Type 0} → List (Node S) → List (List Edge) → List Value → List (Option ℕ) → ℕ → Option ℕ → Type 0
IsTally nodes edges outcome tallies n None = (edge : Edge) × IsListed (edges_at edges n) edge × IsUntold tallies edge.to
IsTally nodes edges outcome tallies n (Some count) = AreSoMany (IsRoute nodes edges outcome n) count

-- from each place of which nothing is told, an edge leads to another one
abbrev pub IsStuckAt : List (List Edge) → List (Option ℕ) → ℕ → Type 0
IsStuckAt edges tallies n = IsUntold tallies n → (edge : Edge) × IsListed (edges_at edges n) edge × IsUntold tallies edge.to

-- how many places there are of which nothing is told
abbrev pub untold : List (Option ℕ) → ℕ
untold [] = 0
untold (None ∷ rest) = 1 + untold rest
untold (Some count ∷ rest) = untold rest

abbrev pub IsNothingTold : ℕ → List (Option ℕ) → Type 0
IsNothingTold count tallies = (length tallies ≡ count) × ((n : ℕ) → IsUntold tallies n)

-- of one place it was told, or can't be yet
abbrev pub WasTold : {S : Type 0} → List (Node S) → List (List Edge) → List Value → ℕ → List (Option ℕ) → List (Option ℕ) → Bool → Type 0
WasTold nodes edges outcome n old new true = AreTallies nodes edges outcome new × (length new ≡ length old) × (untold new < untold old)
WasTold nodes edges outcome n old new false = (new ≡ old) × IsStuckAt edges old n

-- of some of the last so many places it was told, or of none of them can it be
abbrev pub WasPassed : {S : Type 0} → List (Node S) → List (List Edge) → List Value → ℕ → List (Option ℕ) → List (Option ℕ) → Bool → Type 0
WasPassed nodes edges outcome count old new true = AreTallies nodes edges outcome new × (length new ≡ length old) × (untold new < untold old)
WasPassed nodes edges outcome count old new false = (new ≡ old) × ((n : ℕ) → n < length edges → length edges ≤ n + count → IsStuckAt edges old n)

-- steps along edges
abbrev pub IsWalk : List (List Edge) → ℕ → List Step → Type 0
IsWalk edges n [] = Unit {0}
IsWalk edges n (step ∷ rest) = (to : ℕ) × IsListed (edges_at edges n) (record { step = step; to = to }) × IsWalk edges to rest

-- which go on for ever
abbrev pub GoesOnForEver : List (List Edge) → ℕ → Type 0
GoesOnForEver edges n = (count : ℕ) → (walk : List Step) × (length walk ≡ count) × IsWalk edges n walk

-- each edge leads to one of the places, no place has two edges for one step, and there is a place to begin from
pub record IsGraph {S : Type 0} (nodes : List (Node S)) (edges : List (List Edge)) : Type 0 where
  pub apart : (n : ℕ) → AreListedOnce (steps_of (edges_at edges n))
  pub within : (n : ℕ) (edge : Edge) → IsListed (edges_at edges n) edge → edge.to < length edges
  pub as_many : length nodes ≡ length edges
  pub some : 0 < length edges

-- the first of the places from which no step goes on, where this is seen
abbrev pub IsFirstEndWith : {S : Type 0} → List (Node S) → List (List Edge) → List Value → List Step → Type 0
IsFirstEndWith {S} nodes edges outcome way = (k : ℕ) × (node : Node S) × (slice_get nodes k ≡ Some node) × (edges_at edges k ≡ []) × (node.outcome ≡ outcome) × (node.way ≡ way)
    × ((j : ℕ) (other : Node S) → slice_get nodes j ≡ Some other → edges_at edges j ≡ [] → other.outcome ≡ outcome → k ≤ j)

-- rows that tell of the first so many places: a row for each outcome at an end among them
pub record AreRows {S : Type 0} (nodes : List (Node S)) (edges : List (List Edge)) (n : ℕ) (rows : List Row) : Type 0 where
  pub complete : (k : ℕ) (node : Node S) → k < n → slice_get nodes k ≡ Some node → edges_at edges k ≡ [] → IsListed (outcomes rows) node.outcome
  pub counted : (row : Row) → IsListed rows row → AreSoMany (IsRoute nodes edges row.outcome 0) row.count
  pub first : (row : Row) → IsListed rows row → IsFirstEndWith nodes edges row.outcome row.schedule
  pub apart : AreListedOnce (outcomes rows)
