use Rattle.std.proofs.Common.{inl, inr}
use Rattle.iom_machine_judge.proofs.requests.may_fault.Goals as goal

pub returns-in-Detached : goal.returns-in-Detached
returns-in-Detached c = rw c.in-Detached.is (λ h past. rw (c.cause_without_context.ensures h) at c.is_same_cause.ensures)

pub returns-then-is_page_fault_of : goal.returns-then-is_page_fault_of
returns-then-is_page_fault_of c =
    let fault = c.is_page_fault_of.ensures.0 c.if-is_page_fault_of.true in
    rw c.in-Attached.is (elim c.in-First.is [
      | inl (size, is) ↦ rw is (λ h past. ((λ yes. ((c.holds_none.ensures h past).0 yes, rw is at fault)), (λ both. (c.holds_none.ensures h past).1 both.0)))
      | inr (size, is) ↦ rw is (λ h past. ((λ yes. ((c.holds_none.ensures h past).0 yes, rw is at fault)), (λ both. (c.holds_none.ensures h past).1 both.0)))
    ])

pub returns-in-Quarantined : goal.returns-in-Quarantined
returns-in-Quarantined c = elim c.in-Quarantined.is [
  | inl (ats, is) ↦ rw is c.faults_under_ticket.ensures
  | inr (ats, is) ↦ rw is c.faults_under_ticket.ensures
]
