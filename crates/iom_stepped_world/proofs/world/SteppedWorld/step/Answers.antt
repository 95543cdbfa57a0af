use Rattle.iom_stepped_machine.specs.Machine.{Whole}
use Rattle.iom_stepped_world.specs.Told.{told}
use Rattle.iom_stepped_world.proofs.HappensLemmas.{happened, names_fit, sound_still}
use Rattle.iom_stepped_world.proofs.world.SteppedWorld.step.Goals as goal

pub returns : goal.returns
returns g c = record {
  happens =
      happened g.D.Disk.shown c.facts_law.ensures c.runs_law.ensures.step c.args.self.now.world c.take.new.world c.args.self.now.walks c.take.new.walks (Whole c.args.event.now) (told c.take.result) c.facts.ensures
      c.take.ensures.walks c.args.self.now.sound (names_fit c.args.event.now c.take.ensures.does.leads.fits c.names.ensures) c.take.ensures.does c.take.ensures.beside;
}

pub invariant_of-self : goal.invariant_of-self
invariant_of-self g c = record {
  sound =
      sound_still g.D.Disk.shown c.facts_law.ensures c.runs_law.ensures.step c.args.self.now.world c.take.new.world c.args.self.now.walks c.take.new.walks (Whole c.args.event.now) (told c.take.result) c.facts.ensures
      c.take.ensures.walks c.args.self.now.sound (names_fit c.args.event.now c.take.ensures.does.leads.fits c.names.ensures) c.take.ensures.does c.take.ensures.beside;
}
