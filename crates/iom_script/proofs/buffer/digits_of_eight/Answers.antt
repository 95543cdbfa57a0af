use Rattle.std.proofs.Common.{◌≡◌, ◌+◌, ◌*◌, set, sym, ap, ◌∙◌, take, take_all, arith}
use Rattle.std.proofs.lemmas.List.{length-set}
use Rattle.iom_script.specs.Digits.{hex_of}
use Rattle.iom_script.proofs.PutLemmas.{hex_written_on}
use Rattle.iom_script.proofs.buffer.digits_of_eight.Goals as goal

pub loop-i-preserved : goal.loop-i-preserved
loop-i-preserved c =
    let digits = c.loop-i.digits in
    let i = c.loop-i.i in
    let one = set digits (2 * i) c.glyph.result in
    record {
      room = length-set one (2 * i + 1) c.glyph-in-loop-i.result ∙ length-set digits (2 * i) c.glyph.result ∙ c.loop-i.invariant.room;
      written = rw (c.glyph.ensures, c.glyph-in-loop-i.ensures) (hex_written_on digits c.args.bytes.now i (omega (arith, c.loop-i.invariant.room)) (omega arith) c.loop-i.invariant.written);
    }

pub returns : goal.returns
returns c =
    let eight : c.loop-i.i ≡ 8 = omega arith in
    sym (take_all 16 c.loop-i.digits (omega (arith, c.loop-i.invariant.room)))
    ∙ ap (λ k. take (2 * k) c.loop-i.digits) (sym eight) ∙ c.loop-i.invariant.written ∙ ap hex_of (take_all c.loop-i.i c.args.bytes.now (omega arith))
