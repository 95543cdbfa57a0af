use Rattle.std.proofs.Common.{arith, inl, inr}
use Rattle.iom_script.proofs.ReadsLemmas.{read_holds}
use Rattle.iom_script.proofs.DecimalLemmas.{DecimalAt, number_without_digits, number_leads_not, number_leads}
use Rattle.iom_script.proofs.words.leading_number.Goals as goal
use Rattle.iom_script.proofs.words.leading_number.Goals.{then-count-eq0-via-then-count-eq0, then-count-eq0-via-else-count-eq0+then-count-gt1}

pub returns-in_err-number : goal.returns-in_err-number
returns-in_err-number c = rw c.from_residual.ensures (number_without_digits c.args.text.now c.in_err-number.ensures)

pub bounds-text-0 : goal.bounds-text-0
bounds-text-0 c =
    let lead = read_holds (DecimalAt c.args.text.now) (c.in_ok-number.number, c.in_ok-number.count) c.in_ok-number.ensures in
    omega (arith, lead.within)

pub returns-then-count-eq0 : goal.returns-then-count-eq0
returns-then-count-eq0 c =
    number_leads_not c.args.text.now c.in_ok-number.number c.in_ok-number.count c.in_ok-number.ensures (elim c.then-count-eq0.branch [
      | then-count-eq0-via-then-count-eq0 w ↦ (λ some. absurd (omega (arith, some, w.if-count-eq0.true)))
      | then-count-eq0-via-else-count-eq0+then-count-gt1 w ↦ (λ some. w.if-count-gt1.true)
    ])

pub returns : goal.returns
returns c =
    number_leads c.args.text.now c.in_ok-number.number c.in_ok-number.count c.in_ok-number.ensures (omega arith)
    (λ zero_is. elim c.if-count-gt1.either [ inl both ↦ omega (arith, both.1, c.if-count-eq0.false) | inr other ↦ absurd (other zero_is) ])
