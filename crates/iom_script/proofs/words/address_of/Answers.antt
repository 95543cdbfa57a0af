use Rattle.std.proofs.Common.{sym, ◌∙◌}
use Rattle.std.proofs.lemmas.Bool.{false≢true}
use Rattle.iom_script.proofs.WordLemmas.{no_address, not_so_many_digits, address_reads}
use Rattle.iom_script.proofs.words.address_of.Goals as goal

pub returns-in_err-digits : goal.returns-in_err-digits
returns-in_err-digits c = rw c.from_residual.ensures (no_address c.args.text.now c.in_err-digits.ensures)

pub returns-then-not-is_digit_count : goal.returns-then-not-is_digit_count
returns-then-not-is_digit_count c =
    not_so_many_digits c.args.text.now c.in_ok-digits.digits.now c.in_ok-digits.ensures
    (λ within. false≢true (sym c.if-not-is_digit_count.true ∙ c.is_digit_count.ensures.1 within))

pub returns : goal.returns
returns c =
    let within = c.is_digit_count.ensures.0 c.if-not-is_digit_count.false in
    address_reads c.args.text.now c.in_ok-digits.digits.now c.hex_number.result c.in_ok-digits.ensures within.0 within.1 c.hex_number.ensures
