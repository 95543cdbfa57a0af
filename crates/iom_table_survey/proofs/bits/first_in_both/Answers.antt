use Rattle.std.proofs.Common.{◌^◌, ◌<◌, bit_and, refl, arith}
use Rattle.std.proofs.lemmas.Nat.{and_le_r}
use Rattle.iom_table_survey.proofs.RowLemmas.{lowest_of_both, none_lower}
use Rattle.iom_table_survey.proofs.bits.first_in_both.Goals as goal

pub returns-clause-some : goal.returns-clause-some
returns-clause-some c =
    let fits : bit_and c.args.one c.args.other < 2 ^ 64 = omega (arith, and_le_r c.args.one c.args.other) in
    lowest_of_both c.args.one c.args.other c.if-both-eq0.false fits _ refl

pub returns-clause-lowest : goal.returns-clause-lowest
returns-clause-lowest c =
    let fits : bit_and c.args.one c.args.other < 2 ^ 64 = omega (arith, and_le_r c.args.one c.args.other) in
    none_lower c.args.one c.args.other c.if-both-eq0.false fits _ refl
