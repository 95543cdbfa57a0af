use Rattle.std.proofs.Common.{inl, inr}
use Rattle.iom_machine_judge.proofs.questions.tells_formerly.Goals as goal

pub returns-in-First : goal.returns-in-First
returns-in-First c =
    let lingers = rw c.from.ensures at c.pair_lingers.ensures in
    rw c.in-Page.is (elim c.in-First.is [ inl (size, is) ↦ rw is lingers | inr (size, is) ↦ rw is lingers ])

pub returns-in-Both : goal.returns-in-Both
returns-in-Both c = rw (c.in-Page.is, c.in-Both.is) (rw c.from-in-Both.ensures at c.lingers_each.ensures)

pub returns-in-Refused : goal.returns-in-Refused
returns-in-Refused c = rw c.in-Refused.is (λ h past. c.is_page_fault_of.ensures)
