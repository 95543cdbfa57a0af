use Rattle.iom_stepped_machine.specs.Machine.{Load}
use Rattle.iom_stepped_world.specs.Told.{told}
use Rattle.iom_stepped_world.proofs.HappensLemmas.{happened, sound_still}
use Rattle.iom_stepped_world.proofs.world.SteppedWorld.load.Goals as goal

pub returns : goal.returns
returns g c = record {
  happens =
      happened g.D.Disk.shown c.facts_law.ensures c.runs_law.ensures.step c.args.self.now.world c.load.new.world c.args.self.now.walks c.load.new.walks (Load c.args.id) (told c.load.result) c.facts.ensures
      c.load.ensures.walks c.args.self.now.sound tt c.load.ensures.does c.load.ensures.beside;
}

pub invariant_of-self : goal.invariant_of-self
invariant_of-self g c = record {
  sound =
      sound_still g.D.Disk.shown c.facts_law.ensures c.runs_law.ensures.step c.args.self.now.world c.load.new.world c.args.self.now.walks c.load.new.walks (Load c.args.id) (told c.load.result) c.facts.ensures
      c.load.ensures.walks c.args.self.now.sound tt c.load.ensures.does c.load.ensures.beside;
}
