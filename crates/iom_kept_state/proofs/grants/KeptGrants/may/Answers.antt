use Rattle.iom_kept_state.proofs.grants.KeptGrants.may.Goals as goal

pub returns-clause-may : goal.returns-clause-may
returns-clause-may c = λ h past. c.may_once.ensures.may h past
