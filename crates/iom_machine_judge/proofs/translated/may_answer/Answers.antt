use Rattle.iom_machine_judge.proofs.translated.may_answer.Goals as goal

pub returns-then-is_forwarded : goal.returns-then-is_forwarded
returns-then-is_forwarded c = rw c.in-Fault.is (λ h. (
  (λ yes. (c.is_forwarded.ensures.0 c.if-is_forwarded.true, (c.may_fault.ensures h).0 yes)),
  (λ both. (c.may_fault.ensures h).1 both.1),
))
