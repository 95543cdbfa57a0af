use Rattle.std.proofs.Common.{◌<◌, length, arith}
use Rattle.std.proofs.lemmas.Bool.Decides.{nat_tests}
use Rattle.iom_line_writer.proofs.WritingLemmas.{at_err, left_after, left_is_part, none_written}
use Rattle.iom_line_writer.proofs.writing.write_all.Goals as goal

pub returns-in_err-count-clause-part : goal.returns-in_err-count-clause-part
returns-in_err-count-clause-part g c =
    let some : 0 < length c.loop-rest.rest.now = let test = c.loop-rest-test.ensures in grind (arith, nat_tests, test) in
    at_err c.from_residual.result (left_is_part _ _ _ c.args.bytes.now c.loop-rest.rest.now c.loop-rest.invariant some c.in_err-count.ensures.bytes)

pub returns-then-count-eq0-clause-part : goal.returns-then-count-eq0-clause-part
returns-then-count-eq0-clause-part g c =
    let some : 0 < length c.loop-rest.rest.now = let test = c.loop-rest-test.ensures in grind (arith, nat_tests, test) in
    left_is_part _ _ _ c.args.bytes.now c.loop-rest.rest.now c.loop-rest.invariant some
    (none_written _ _ c.loop-rest.rest.now c.in_ok-count.count c.if-count-eq0.true c.in_ok-count.ensures.bytes)

pub loop-rest-preserved : goal.loop-rest-preserved
loop-rest-preserved g c = left_after _ _ _ c.args.bytes.now c.loop-rest.rest.now c.in_ok-count.count c.loop-rest.invariant c.in_ok-count.ensures.bytes
