use Rattle.std.proofs.Common.{◌≡◌, List, Some, slice_get, take}
use Rattle.iom_litmus_test.specs.declared.observable.Spot.{Spot}
use Rattle.iom_litmus.specs.declared.node.Node.{Node}
use Rattle.iom_litmus.specs.Graphs.{IsSpareOf}
use Rattle.iom_litmus.specs.Listed.{KeepsListed}
use Rattle.iom_litmus.specs.Rules.{noting}
use Rattle.iom_litmus.proofs.ExpandLemmas.{IsExpanding}
use Rattle.iom_litmus.proofs.search.Search.take_steps.Given as goal

abbrev pub invariant-loop-step : goal.invariant-loop-step
invariant-loop-step g l = KeepsListed l.initial.tries.changing l.tries.changing
    × ((node : Node g.row.S.Denot) → slice_get l.initial.places l.current ≡ Some node
    → IsSpareOf l.self.test.now node l.tries.spare
    × ((cells : List Spot) → KeepsListed l.tries.changing cells
    → IsExpanding (noting g.S.System.rules cells) g.S.System.readings l.self.test.now node l.initial.places l.places (take l.step-index l.steps) l.edges))
