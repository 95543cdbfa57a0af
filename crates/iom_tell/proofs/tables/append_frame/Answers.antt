use Rattle.std.proofs.Common.{arith, length-append}
use Rattle.std.proofs.lemmas.Fmt.{length-decimal-le}
use Rattle.iom_tell.proofs.tables.append_frame.Goals as goal

pub returns-clause-short : goal.returns-clause-short
returns-clause-short c =
    let below = c.requires.frame in
    let few = length-decimal-le 4 c.args.frame (omega arith) (omega (arith, below)) (omega (arith, below)) in
    rw (c.append_decimal.ensures.text, c.append.ensures) (simp length-append (omega (arith, few)))
