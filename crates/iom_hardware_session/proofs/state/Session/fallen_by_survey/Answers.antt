use Rattle.iom_hardware_session.proofs.state.Session.fallen_by_survey.Goals as goal

pub returns-in-HandedOff-clause-no_more : goal.returns-in-HandedOff-clause-no_more
returns-in-HandedOff-clause-no_more c = λ claimed shows. rw c.in-HandedOff.is (c.left_of_hand_off.ensures.some claimed)
