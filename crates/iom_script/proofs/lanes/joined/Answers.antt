use Rattle.iom_script.proofs.LaneLemmas.{bytes_fit, bytes_said}
use Rattle.iom_script.proofs.lanes.joined.Goals as goal

pub overflow_cast-result : goal.overflow_cast-result
overflow_cast-result c = bytes_fit 8 c.args.values

pub returns : goal.returns
returns c = bytes_said 8 c.args.values c.fits-values.0 c.fits-values.1 c.requires
