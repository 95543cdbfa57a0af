use Rattle.iom_hardware_session.proofs.state.Session.judge_done.Goals as goal

pub returns-then-not-is_certain-clause-wrong : goal.returns-then-not-is_certain-clause-wrong
returns-then-not-is_certain-clause-wrong c = λ claimed shows. c.is_certain.ensures.uncertain c.if-not-is_certain.true

pub returns-clause-good : goal.returns-clause-good
returns-clause-good c = λ claimed shows is. (c.is_certain.ensures.certain c.if-not-is_certain.false, c.left_of_done.ensures.none claimed shows c.in_default.is)
