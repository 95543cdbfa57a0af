use Rattle.std.proofs.Common.{inl, inr}
use Rattle.iom_machine_judge.proofs.through_cache.may_go_through.Goals as goal

pub returns-in-First-clause-goes : goal.returns-in-First-clause-goes
returns-in-First-clause-goes c = rw c.in-Attached.is (elim c.in-First.is [
  | inl (size, is) ↦ rw is c.may_have_cached.ensures.cached
  | inr (size, is) ↦ rw is c.may_have_cached.ensures.cached
])

pub returns-in-Both-clause-goes : goal.returns-in-Both-clause-goes
returns-in-Both-clause-goes c = rw (c.in-Attached.is, c.in-Both.is) c.may.ensures.may

pub returns-in-Quarantined-clause-goes : goal.returns-in-Quarantined-clause-goes
returns-in-Quarantined-clause-goes c = elim c.in-Quarantined.is [
  | inl (ats, is) ↦ rw is c.accepts_under_ticket.ensures.accepts
  | inr (ats, is) ↦ rw is c.accepts_under_ticket.ensures.accepts
]
