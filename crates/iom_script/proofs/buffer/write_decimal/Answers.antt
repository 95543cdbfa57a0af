use Rattle.std.proofs.Common.{rules, ◌+◌, ◌-◌, drop, replicate, arith}
use Rattle.std.proofs.lemmas.Fmt.{length-decimal-le}
use Rattle.std.specs.Fmt.{decimal}
use Rattle.iom_script.proofs.PutLemmas.{text_kept}
use Rattle.iom_script.proofs.buffer.write_decimal.Goals as goal

pub write_digits-start-requires : goal.write_digits-start-requires
write_digits-start-requires c = search (rules, length-decimal-le 20)

pub returns-clause-written : goal.returns-clause-written
returns-clause-written c =
    let start = c.write_digits-start.result in
    text_kept c.write_at.new.places c.args.places.now (decimal c.args.number) (drop 20 (replicate 40 0)) (drop start c.write_digits-start.new.buf) c.args.place start (start + 20 - start)
    c.write_digits-start.ensures.written (omega arith) (omega arith) (omega (arith, c.requires)) c.write_digits-start.ensures.start c.write_at.ensures.written
