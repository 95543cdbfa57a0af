use Rattle.std.proofs.Common.{inl, inr}
use Rattle.iom_machine_judge.proofs.requests.may_accept.Goals as goal

pub returns-in-First : goal.returns-in-First
returns-in-First c = rw c.in-Attached.is (elim c.in-First.is [
  | inl (size, is) ↦ rw is c.accepts_in_one_stage.ensures
  | inr (size, is) ↦ rw is c.accepts_in_one_stage.ensures
])

pub returns-in-Both : goal.returns-in-Both
returns-in-Both c = rw (c.in-Attached.is, c.in-Both.is) c.may.ensures.may

pub returns-in-Quarantined : goal.returns-in-Quarantined
returns-in-Quarantined c = elim c.in-Quarantined.is [
  | inl (ats, is) ↦ rw is c.accepts_under_ticket.ensures.accepts
  | inr (ats, is) ↦ rw is c.accepts_under_ticket.ensures.accepts
]
