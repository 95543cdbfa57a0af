use Rattle.std.proofs.Common.{◌≡◌}
use Rattle.iom_litmus.specs.Tallies.{IsNothingTold}
use Rattle.iom_litmus.proofs.tally.untold.Given as goal

abbrev pub invariant-loop : goal.invariant-loop
invariant-loop l = IsNothingTold l.counter l.tallies
