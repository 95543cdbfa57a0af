use Rattle.iom_hardware_session.proofs.state.Session.judge_hand_off.Goals as goal

pub returns-then-not-is_certain-clause-wrong : goal.returns-then-not-is_certain-clause-wrong
returns-then-not-is_certain-clause-wrong c = λ claimed. c.is_certain.ensures.uncertain c.if-not-is_certain.true

pub returns-clause-good : goal.returns-clause-good
returns-clause-good c = λ is. let (reach, unused) = c.left_of_hand_off.ensures.none c.in_default.is in (c.is_certain.ensures.certain c.if-not-is_certain.false, reach, unused)
