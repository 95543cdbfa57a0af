use Rattle.iom_hardware_session.proofs.state.Session.claim.Goals as goal

pub returns-in-Done-clause-good : goal.returns-in-Done-clause-good
returns-in-Done-clause-good c = λ claimed shows is. rw c.in-Done.is (c.claim_done.ensures.good claimed shows is)
