use Rattle.iom_machine_judge.proofs.through_cache.may_answer.Goals as goal

pub returns-then-is_forwarded-2-clause-may : goal.returns-then-is_forwarded-2-clause-may
returns-then-is_forwarded-2-clause-may c = rw c.in-Fault.is (λ h past. (
  (λ yes. (c.is_forwarded-in-Fault.ensures.0 c.if-is_forwarded-2.true, (c.may_find_no_context.ensures h).0 yes)),
  (λ both. (c.may_find_no_context.ensures h).1 both.1),
))
