use Rattle.std.proofs.Common.{◌∙◌}
use Rattle.iom_kept_state.proofs.LookLemmas.{confirmed_of_past}
use Rattle.iom_kept_state.proofs.grants.KeptGrants.is_confirmed.Goals as goal

pub returns-clause-confirmed : goal.returns-clause-confirmed
returns-clause-confirmed c = λ h past. c.has.ensures ∙ confirmed_of_past c.args.self.now h past c.args.ticket
