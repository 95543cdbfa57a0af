use Rattle.std.proofs.Common.{◌∷◌, ◌∙◌, refl, sym}
use Rattle.std.proofs.lemmas.Bool.{false≢true}
use Rattle.iom_ledger.specs.declared.entry.HistoryEntry.TheVariants.{AllReleased}
use Rattle.iom_machine.specs.declared.outcome.Outcome.TheVariants.{Ticket}
use Rattle.iom_machine.specs.Machine.{Quarantines}
use Rattle.iom_machine.specs.Refusals.{quarantine_reasons, MayFindNoPlace}
use Rattle.iom_machine.proofs.CallLemmas.{quarantined_as}
use Rattle.iom_machine.proofs.HeadlineLemmas.{element_at}
use Rattle.iom_kept_state.specs.Frames.{frames_in}
use Rattle.iom_kept_state.specs.States.{state_of}
use Rattle.iom_machine_judge.proofs.LeftLemmas.{refused_by}
use Rattle.iom_machine_judge.proofs.NextLemmas.{given_as}
use Rattle.iom_machine_judge.proofs.calls.judge_quarantine.Goals as goal

pub returns-then-not-may_give : goal.returns-then-not-may_give
returns-then-not-may_give c = rw c.in-Ticket.is
    (refl, λ h past after step. false≢true (sym c.if-not-may_give.true ∙ c.may_give.ensures.1 (c.quarantine_refusal-first.ensures h past ∙ step.0, step.1)))

pub returns-in_ok-release_all-in-Ticket : goal.returns-in_ok-release_all-in-Ticket
returns-in_ok-release_all-in-Ticket c =
    let place = rw c.as_slice.ensures at c.in-Some.ensures in
    let found = element_at c.args.kept.now.devices c.in-Some.place place.0 in
    let gives = c.may_give.ensures.0 c.if-not-may_give.false in
    rw c.in-Ticket.is (λ h past. (
      AllReleased c.args.id c.in-Ticket.ticket ∷ h,
      c.in_ok-release_all-in-Ticket.ensures.past h past,
      given_as c.args.kept.now (frames_in c.args.kept.now.frames) (AllReleased c.args.id c.in-Ticket.ticket ∷ h) c.in-Ticket.ticket _ _
          (λ after. Quarantines (state_of c.args.kept.now h) c.args.id (Ticket c.in-Ticket.ticket) after)
          c.in_ok-release_all-in-Ticket.ensures.tickets.0
          (quarantined_as c.in-Ticket.ticket (state_of c.args.kept.now h) c.args.id c.in-Some.place found.0 _ _
          (sym (c.quarantine_refusal-first.ensures h past) ∙ gives.0) gives.1 place found.1 refl (c.under_ticket.ensures found.0 found.1)),
    ))

pub returns-in-Refused : goal.returns-in-Refused
returns-in-Refused c = rw c.in-Refused.is
    (refused_by c.quarantine_refusal-first.result (λ before. quarantine_reasons before c.args.id) c.may_find_no_place.result c.refuses.result (λ before why. MayFindNoPlace why) c.in-Refused.why c.args.kept.now
    c.quarantine_refusal-first.ensures (λ h past. c.may_find_no_place.ensures) c.refuses.ensures)
