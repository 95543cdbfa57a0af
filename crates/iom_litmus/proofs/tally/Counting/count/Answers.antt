use Rattle.std.proofs.Common.{false, length, rules}
use Rattle.iom_litmus.specs.Tallies.{WasPassed, IsUntold}
use Rattle.iom_litmus.proofs.TallyLemmas.{stuck_goes_on}
use Rattle.iom_litmus.proofs.tally.Counting.count.Goals as goal

pub returns-then-not-branch-clause-endless : goal.returns-then-not-branch-clause-endless
returns-then-not-branch-clause-endless g c _ =
    let none : IsUntold c.loop-count.tallies 0 = search rules in
    let passed : WasPassed c.args.self.now.nodes.now c.args.self.now.edges.now c.args.self.now.outcome.now (length c.args.self.now.edges.now) c.loop-count.tallies c.pass.new.tallies false = search rules in
    stuck_goes_on c.args.self.now.nodes.now c.args.self.now.edges.now c.args.self.now.outcome.now c.loop-count.tallies c.pass.new.tallies c.requires.graph passed none
