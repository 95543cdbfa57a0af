use Rattle.iom_settling.proofs.HoldLemmas.{run_holds}
use Rattle.iom_settling.proofs.OrderLemmas.{all_settling}
use Rattle.iom_settling.proofs.holds.settling_holds.Goals as goal

pub returns : goal.returns
returns c = record { kinds = all_settling; held = run_holds }
