use Rattle.iom_stepped_world.proofs.SettlingLemmas.{settled_run}
use Rattle.iom_stepped_world.proofs.world.SteppedWorld.settle.Goals as goal

pub returns-clause-ran : goal.returns-clause-ran
returns-clause-ran g c state shows = settled_run c.facts_law.ensures c.runs_law.ensures.step c.args.self.now c.settle.new.world c.settle.result state c.facts.ensures shows c.settle.ensures.settled
