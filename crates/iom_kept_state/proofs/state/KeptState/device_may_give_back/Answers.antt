use Rattle.std.proofs.Common.{◌≡◌, ◌∙◌, ap, sym}
use Rattle.std.proofs.lemmas.Bool.{false≢true}
use Rattle.iom_machine.specs.Refusals.{is_attached, attachment_of}
use Rattle.iom_kept_state.specs.States.{state_of}
use Rattle.iom_kept_state.proofs.ReturningLemmas.{nothing_as, nothing_of_past}
use Rattle.iom_kept_state.proofs.state.KeptState.device_may_give_back.Goals as goal

pub returns-else-is_attached : goal.returns-else-is_attached
returns-else-is_attached c h past =
    let is : c.is_attached.result ≡ is_attached (attachment_of (state_of c.args.self.now h) c.args.device) = c.is_attached.ensures ∙ ap is_attached (c.attachment.ensures h) in
    ((λ yes. absurd (false≢true (sym c.if-is_attached.false ∙ yes))), (λ may. absurd (false≢true (sym c.if-is_attached.false ∙ is ∙ may.0))))

pub returns-then-is_attached : goal.returns-then-is_attached
returns-then-is_attached c h past =
    let is : c.is_attached.result ≡ is_attached (attachment_of (state_of c.args.self.now h) c.args.device) = c.is_attached.ensures ∙ ap is_attached (c.attachment.ensures h) in
    let decides = nothing_of_past c.args.self.now.grants h past c.args.device c.lingers_anything.result c.lingers_anything.ensures.shown in
    let words = nothing_as (state_of c.args.self.now h) c.args.device in (
      (λ yes. (sym is ∙ c.if-is_attached.true, words.0 (decides.0 yes))),
      (λ may. decides.1 (words.1 may.1)),
    )
