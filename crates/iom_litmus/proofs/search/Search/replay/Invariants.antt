use Rattle.std.proofs.Common.{take}
use Rattle.iom_litmus.specs.Searches.{ComesTo}
use Rattle.iom_litmus.proofs.search.Search.replay.Given as goal

abbrev pub invariant-loop-step : goal.invariant-loop-step
invariant-loop-step g l = ComesTo (g.S.System.opens l.self.opening.now) g.S.System.rules g.S.System.readings l.self.test.now (take l.step-index l.steps) l.place
