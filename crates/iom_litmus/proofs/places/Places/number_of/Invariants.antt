use Rattle.std.proofs.Common.{◌≡◌}
use Rattle.iom_litmus.proofs.places.Places.number_of.Given as goal

abbrev pub invariant-loop : goal.invariant-loop
invariant-loop g l = l.nodes ≡ l.self
