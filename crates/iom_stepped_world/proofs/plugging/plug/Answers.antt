use Rattle.iom_stepped_world.proofs.BesidePlugged.{beside_plugged, beside_unplugged, plugged_does, unplugged_does}
use Rattle.iom_stepped_world.proofs.plugging.plug.Goals as goal

pub returns-in-Done-clause-does : goal.returns-in-Done-clause-does
returns-in-Done-clause-does g c =
    plugged_does g.D.Disk.shown c.args.world.now c.step-outcome.new.self c.args.walks.now c.add.new.self c.args.event.now c.step-outcome.result c.args.id c.add.result c.requires.plugs c.in-Done.is
    c.requires.sound.beside c.step-outcome.ensures.happens c.add.ensures

pub returns-in-Done-clause-beside : goal.returns-in-Done-clause-beside
returns-in-Done-clause-beside g c =
    beside_plugged g.D.Disk.shown c.args.world.now c.step-outcome.new.self c.args.walks.now c.add.new.self c.args.event.now c.step-outcome.result c.args.id c.add.result c.requires.plugs c.in-Done.is
    c.requires.sound.beside c.step-outcome.ensures.happens c.add.ensures

pub returns-in_default : goal.returns-in_default
returns-in_default g c = record {
  does = unplugged_does g.D.Disk.shown c.args.world.now c.step-outcome.new.self c.args.walks.now c.args.event.now c.step-outcome.result c.args.id c.requires.plugs c.step-outcome.ensures.happens;
  beside = beside_unplugged g.D.Disk.shown c.args.world.now c.step-outcome.new.self c.args.walks.now c.args.event.now c.step-outcome.result c.args.id c.requires.plugs c.in_default.not-Done
      c.requires.sound.beside c.step-outcome.ensures.happens;
}
