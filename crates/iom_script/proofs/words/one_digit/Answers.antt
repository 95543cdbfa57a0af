use Rattle.std.proofs.Common.{arith}
use Rattle.iom_script.proofs.DecimalLemmas.{one_digit_reads, no_digit_reads}
use Rattle.iom_script.proofs.words.one_digit.Goals as goal

pub returns-then-is_ascii_digit : goal.returns-then-is_ascii_digit
returns-then-is_ascii_digit c =
    let range = c.if-is_ascii_digit.ensures.cases in
    rw c.from.ensures (one_digit_reads c.args.digit range.0 range.1)

pub returns-else-is_ascii_digit : goal.returns-else-is_ascii_digit
returns-else-is_ascii_digit c = no_digit_reads c.args.digit (λ range. let other = c.if-is_ascii_digit.ensures in omega (arith, other.cases, range.0, range.1))
