use Rattle.std.proofs.Common.{◌+◌, ◌-◌, arith}
use Rattle.iom_script.proofs.PutLemmas.{digits_kept}
use Rattle.iom_script.proofs.buffer.write_digits_at.Goals as goal

pub returns-clause-written : goal.returns-clause-written
returns-clause-written c =
    let start = c.args.start in
    digits_kept c.write_at.new.places c.args.places.now c.args.digits.now c.args.place start (start + 20 - start)
    c.told-digits c.requires.start (omega arith) (omega (arith, c.requires.room)) c.write_at.ensures.written
