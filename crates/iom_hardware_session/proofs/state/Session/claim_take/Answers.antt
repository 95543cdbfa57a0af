use Rattle.std.proofs.Common.{ℕ, subst}
use Rattle.iom_hardware_session.specs.Good.{IsNobodys}
use Rattle.iom_hardware_session.specs.Wrong.{TakeIsWrong}
use Rattle.iom_hardware_session.proofs.state.Session.claim_take.Goals as goal

pub returns-in-None-clause-good : goal.returns-in-None-clause-good
returns-in-None-clause-good c = λ claimed shows is. subst (λ (f : ℕ). IsNobodys claimed f) c.in-Ok.ensures.number.0 (c.user_of-user.ensures.nobodys claimed shows c.in-None.is)

pub returns-in-Some-clause-wrong : goal.returns-in-Some-clause-wrong
returns-in-Some-clause-wrong c = λ claimed shows.
    subst (λ (f : ℕ). TakeIsWrong c.in-Some.why claimed f) c.in-Ok.ensures.number.0 (rw c.in-Some.is at (c.user_of-user.ensures.somebodys claimed shows))
