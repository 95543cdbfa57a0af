use Rattle.std.proofs.Common.{◌≡◌, List, length}
use Rattle.iom_litmus_test.specs.declared.observable.Spot.{Spot}
use Rattle.iom_litmus.specs.Graphs.{Answer}
use Rattle.iom_litmus.specs.Listed.{KeepsListed}
use Rattle.iom_litmus.specs.Rules.{noting}
use Rattle.iom_litmus.specs.Searches.{IsExploring}
use Rattle.iom_litmus.proofs.search.Search.explore_places.Given as goal

abbrev pub invariant-loop-current : goal.invariant-loop-current
invariant-loop-current g l = (cells : List Spot) → KeepsListed l.tries.changing cells
    → (system : g.row.S.Denot) × g.S.System.opens l.self.opening.now system × (table : List (List (Answer g.row.S.Denot)))
    × IsExploring (noting g.S.System.rules cells) g.S.System.readings l.self.test.now system l.places l.edges table × (length l.edges ≡ l.current)
