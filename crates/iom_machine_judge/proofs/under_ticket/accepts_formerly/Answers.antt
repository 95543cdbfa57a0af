use Rattle.std.proofs.Common.{inl, inr}
use Rattle.iom_machine_judge.proofs.under_ticket.accepts_formerly.Goals as goal

pub returns-in-First-clause-accepts : goal.returns-in-First-clause-accepts
returns-in-First-clause-accepts c = elim c.in-First.is [ inl (size, is) ↦ rw is c.lingers.ensures.lingers | inr (size, is) ↦ rw is c.lingers.ensures.lingers ]

pub returns-in-Both-clause-accepts : goal.returns-in-Both-clause-accepts
returns-in-Both-clause-accepts c = rw c.in-Both.is (λ h past. c.lingers_somewhere.ensures.lingers h past)
