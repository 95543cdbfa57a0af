use Rattle.std.proofs.Common.{arith}
use Rattle.iom_script.proofs.HexNumberLemmas.{nothing_written, place_before, digit_written, all_written}
use Rattle.iom_script.proofs.buffer.write_hex_digits.Goals as goal

pub loop-rest-init : goal.loop-rest-init
loop-rest-init c = nothing_written c.args.number c.args.places.now c.told-places (omega (arith, c.ranges.number.fits))

pub overflow_sub-start : goal.overflow_sub-start
overflow_sub-start c = place_before c.args.number c.loop-rest.rest c.loop-rest.start c.loop-rest.places c.loop-rest.invariant c.loop-rest-test.true

pub loop-rest-preserved : goal.loop-rest-preserved
loop-rest-preserved c = rw c.glyph.ensures (digit_written c.args.number c.loop-rest.rest c.loop-rest.start c.loop-rest.places c.loop-rest.invariant c.loop-rest-test.true)

pub returns-clause-digits : goal.returns-clause-digits
returns-clause-digits c =
    rw c.glyph-2.ensures (all_written c.args.number c.loop-rest.rest c.loop-rest.start c.loop-rest.places c.loop-rest.invariant (omega (arith, c.loop-rest-test.false)))
