use Rattle.iom_script.proofs.LaneLemmas.{halves_are_values}
use Rattle.iom_script.proofs.lanes.are_values_of_64.Goals as goal

pub returns : goal.returns
returns c = halves_are_values c.args.values c.fits-values.0
