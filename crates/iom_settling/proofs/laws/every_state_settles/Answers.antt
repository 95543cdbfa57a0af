use Rattle.iom_settling.proofs.EveryState.{can_settle}
use Rattle.iom_settling.proofs.laws.every_state_settles.Goals as goal

pub returns : goal.returns
returns c = can_settle
