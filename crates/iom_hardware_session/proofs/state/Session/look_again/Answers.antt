use Rattle.iom_hardware_session.proofs.state.Session.look_again.Goals as goal

pub returns-clause-certain : goal.returns-clause-certain
returns-clause-certain c = λ is. (c.look.ensures.looked c.if-not-look.false, c.is_certain.ensures.certain is)
