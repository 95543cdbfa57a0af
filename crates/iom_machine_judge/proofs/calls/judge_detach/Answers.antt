use Rattle.std.proofs.Common.{◌∙◌, refl, sym}
use Rattle.std.proofs.lemmas.Bool.{false≢true}
use Rattle.iom_machine.specs.declared.outcome.Outcome.TheVariants.{Ticket}
use Rattle.iom_machine.specs.Machine.{Detaches}
use Rattle.iom_machine.specs.Refusals.{detach_reasons, MayFindNoPlace}
use Rattle.iom_machine.proofs.CallLemmas.{detached_as}
use Rattle.iom_machine.proofs.HeadlineLemmas.{element_at}
use Rattle.iom_kept_state.specs.Frames.{frames_in}
use Rattle.iom_kept_state.specs.States.{state_of}
use Rattle.iom_machine_judge.proofs.LeftLemmas.{refused_by}
use Rattle.iom_machine_judge.proofs.NextLemmas.{given_as}
use Rattle.iom_machine_judge.proofs.calls.judge_detach.Goals as goal

pub returns-then-not-may_give : goal.returns-then-not-may_give
returns-then-not-may_give c = rw c.in-Ticket.is
    (refl, λ h past after step. false≢true (sym c.if-not-may_give.true ∙ c.may_give.ensures.1 (c.detach_refusal-first.ensures h past ∙ step.0, step.1)))

pub returns-in-Some : goal.returns-in-Some
returns-in-Some c =
    let place = rw c.as_slice.ensures at c.in-Some.ensures in
    let found = element_at c.args.kept.now.devices c.in-Some.place place.0 in
    let gives = c.may_give.ensures.0 c.if-not-may_give.false in
    rw c.in-Ticket.is (λ h past. (
      h,
      c.give.ensures.past h past,
      given_as c.args.kept.now (frames_in c.args.kept.now.frames) h c.in-Ticket.ticket _ _ (λ after. Detaches (state_of c.args.kept.now h) c.args.id (Ticket c.in-Ticket.ticket) after)
          c.give.ensures.tickets.0
          (detached_as c.in-Ticket.ticket (state_of c.args.kept.now h) c.args.id c.in-Some.place found.0 _
          (sym (c.detach_refusal-first.ensures h past) ∙ gives.0) gives.1 place found.1 (c.start_leaving.ensures found.0 found.1)),
    ))

pub returns-in-Refused : goal.returns-in-Refused
returns-in-Refused c = rw c.in-Refused.is
    (refused_by c.detach_refusal-first.result (λ before. detach_reasons before c.args.id) c.may_find_no_place.result c.refuses.result (λ before why. MayFindNoPlace why) c.in-Refused.why c.args.kept.now
    c.detach_refusal-first.ensures (λ h past. c.may_find_no_place.ensures) c.refuses.ensures)
