use Rattle.std.proofs.Common.{◌∷◌, ◌∙◌, refl, sym}
use Rattle.std.proofs.lemmas.Bool.{false≢true}
use Rattle.iom_machine.specs.Refusals.{release_reasons, MayFindNoPlace}
use Rattle.iom_ledger.specs.declared.entry.HistoryEntry.TheVariants.{Released}
use Rattle.iom_machine_judge.proofs.LeftLemmas.{refused_by}
use Rattle.iom_machine_judge.proofs.NextLemmas.{released_as}
use Rattle.iom_machine_judge.proofs.calls.judge_release.Goals as goal

pub returns-then-not-may_take : goal.returns-then-not-may_take
returns-then-not-may_take c = rw c.in-Ticket.is
    (refl, λ h past after step. false≢true (sym c.if-not-may_take.true ∙ (c.may_take.ensures.take h past).1 (c.release_refusal-first.ensures.first h past ∙ step.0, step.1)))

pub returns-in_ok-release-in-Ticket : goal.returns-in_ok-release-in-Ticket
returns-in_ok-release-in-Ticket c = rw c.in-Ticket.is (λ h past.
    let takes = (c.may_take.ensures.take h past).0 c.if-not-may_take.false in (
      Released c.args.id c.args.page c.in-Ticket.ticket ∷ h,
      c.in_ok-release-in-Ticket.ensures.past h past,
      released_as c.args.kept.now c.args.id c.args.page c.in-Ticket.ticket _ h (sym (c.release_refusal-first.ensures.first h past) ∙ takes.0) takes.1 c.in_ok-release-in-Ticket.ensures.tickets.0,
    ))

pub returns-in-Refused : goal.returns-in-Refused
returns-in-Refused c = rw c.in-Refused.is
    (refused_by c.release_refusal-first.result (λ before. release_reasons before c.args.id c.args.page) c.may_find_no_place.result c.refuses.result (λ before why. MayFindNoPlace why) c.in-Refused.why c.args.kept.now
    c.release_refusal-first.ensures.first (λ h past. c.may_find_no_place.ensures) c.refuses.ensures)
