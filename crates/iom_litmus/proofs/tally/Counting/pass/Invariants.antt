use Rattle.std.proofs.Common.{◌≡◌, length}
use Rattle.iom_litmus.specs.Tallies.{AreTallies, WasPassed}
use Rattle.iom_litmus.proofs.tally.Counting.pass.Given as goal

abbrev pub invariant-loop-back : goal.invariant-loop-back
invariant-loop-back g l = AreTallies l.self.nodes.now l.self.edges.now l.self.outcome.now l.tallies × (length l.tallies ≡ length l.self.edges.now)
    × WasPassed l.self.nodes.now l.self.edges.now l.self.outcome.now l.back l.initial.tallies l.tallies l.any
