use Rattle.std.proofs.Common.{inl, inr}
use Rattle.iom_hardware_session.proofs.state.Session.is_certain.Goals as goal

pub returns-then-not-is_safe-clause-uncertain : goal.returns-then-not-is_safe-clause-uncertain
returns-then-not-is_safe-clause-uncertain c = λ is. inr (inl (c.is_safe.ensures.clash c.if-not-is_safe.true _ c.requires))

pub returns-clause-certain : goal.returns-clause-certain
returns-clause-certain c = λ timely. (c.is_safe.ensures.safe c.if-not-is_safe.false _ c.requires.0, c.is_timely.ensures.timely timely)

pub returns-clause-uncertain : goal.returns-clause-uncertain
returns-clause-uncertain c = λ is. inr (inr (c.is_timely.ensures.untimely is))
