use Rattle.iom_kept_state.proofs.LookLemmas.{last_of_past}
use Rattle.iom_kept_state.proofs.grants.KeptGrants.last_confirmed.Goals as goal

pub returns-clause-last : goal.returns-clause-last
returns-clause-last c = λ h past. last_of_past c.args.self.now h past
