use Rattle.std.proofs.Common.{◌++◌, ◌∙◌, List, ℕ, ap, append_assoc, subst, sym}
use Rattle.std.specs.Prelude.{codes}
use Rattle.iom_trace_lines.specs.TraceLines.{EventAsksFor}
use Rattle.iom_trace_lines.proofs.TraceLemmas.{step_began}
use Rattle.iom_trace_lines.proofs.line.read_began.Goals as goal

pub returns-in-Some-access_of : goal.returns-in-Some-access_of
returns-in-Some-access_of c shown tables begins accepted said answered answer says tells is =
    let asks = c.in-Some.asks in
    let access = c.in-Some-access_of.access in
    let text = c.args.text.now in
    rw c.as_ref.ensures.value (step_began said answered answer text c.args.event c.args.outcome.now access c.in-Step-Some.on tables says tells
    (is ∙ ap (λ (l : List ℕ). answer ++ l) begins ∙ sym (append_assoc answer (codes "; ") text)) (
      c.in-Step-Some.device,
      c.in-Step-Some.is-0,
      accepted,
      c.in-Step-Some.asked.now,
      asks,
      ((c.in_ok-asks.ensures asks).0 c.in-Some.is).1,
      subst (λ (device : ℕ). EventAsksFor asks device access) c.if-id-device.true c.in-Some-access_of.ensures,
      c.in-Step-Some.ensures,
    ))
