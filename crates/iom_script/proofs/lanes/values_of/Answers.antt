use Rattle.iom_script.proofs.LaneLemmas.{lanes_are}
use Rattle.iom_script.proofs.lanes.values_of.Goals as goal

pub returns : goal.returns
returns g c = lanes_are g.row.N c.args.text c.fits-text.0 c.fits-text.1
