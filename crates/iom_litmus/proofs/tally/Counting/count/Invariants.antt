use Rattle.std.proofs.Common.{◌≡◌, length}
use Rattle.iom_litmus.specs.Tallies.{AreTallies, untold}
use Rattle.iom_litmus.proofs.tally.Counting.count.Given as goal

abbrev pub invariant-loop-count : goal.invariant-loop-count
invariant-loop-count g l = AreTallies l.self.nodes.now l.self.edges.now l.self.outcome.now l.tallies × (length l.tallies ≡ length l.self.edges.now)

abbrev pub decreases-loop-count : goal.decreases-loop-count
decreases-loop-count g l = untold l.tallies
