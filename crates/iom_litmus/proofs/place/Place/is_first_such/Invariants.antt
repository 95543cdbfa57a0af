use Rattle.std.proofs.Common.{◌≡◌, ℕ, ◌<◌, false}
use Rattle.iom_litmus.proofs.place.Place.is_first_such.Given as goal

abbrev pub invariant-loop-earlier : goal.invariant-loop-earlier
invariant-loop-earlier g l = (k : ℕ) → k < l.earlier → ¬ g.S.System.readings.is_same_message l.self.system k l.message
