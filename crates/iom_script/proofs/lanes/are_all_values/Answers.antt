use Rattle.std.proofs.Common.{arith}
use Rattle.iom_script.proofs.LaneLemmas.{all_are_values}
use Rattle.iom_script.proofs.lanes.are_all_values.Goals as goal

pub returns : goal.returns
returns c = all_are_values 32 c.args.values c.fits-values.0 (omega arith)
