use Rattle.std.proofs.Common.{◌≡◌, map, take}
use Rattle.iom_litmus.specs.Seen.{seen_of}
use Rattle.iom_litmus.proofs.place.Place.outcome.Given as goal

abbrev pub invariant-loop-observable : goal.invariant-loop-observable
invariant-loop-observable g l = l.values ≡ map (seen_of g.S.System.readings l.test l.self) (take l.observable-index l.observable-items)
