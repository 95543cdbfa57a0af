use Rattle.std.proofs.Common.{◌∙◌, inl, inr, sym}
use Rattle.std.proofs.lemmas.Bool.{false≢true}
use Rattle.iom_machine_judge.proofs.polls.may_confirm.Goals as goal

pub returns-then-not-kept-clause-may : goal.returns-then-not-kept-clause-may
returns-then-not-kept-clause-may c = λ h past. (
  λ yes. inr (c.if-not-kept.true, (c.are_pending.ensures.pending h past).0 yes),
  λ may. elim may [
    | inl next ↦ absurd (false≢true (sym c.if-are_next_tickets.false ∙ (c.are_next_tickets.ensures.next h past).1 next))
    | inr pending ↦ (c.are_pending.ensures.pending h past).1 pending.1
  ],
)
