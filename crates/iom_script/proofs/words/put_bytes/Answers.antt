use Rattle.std.proofs.Common.{arith, get_or, take, ◌+◌, ◌*◌}
use Rattle.iom_script.proofs.ReadsLemmas.{read_holds}
use Rattle.iom_script.proofs.HexBytesLemmas.{IsByteOf, hex_of_stops, says_byte, says_whole}
use Rattle.iom_script.proofs.words.put_bytes.Goals as goal

pub loop-i-preserved : goal.loop-i-preserved
loop-i-preserved c =
    let text = c.args.text.now in
    let i = c.loop-i.i in
    let byte = read_holds (IsByteOf (get_or text (2 * i) 0) (get_or text (2 * i + 1) 0)) c.in-Some.byte c.in-Some.ensures in (
      omega (arith, c.loop-i.invariant.0, c.write_at.ensures.len),
      rw c.write_at.ensures.written (says_byte text (take i c.loop-i.places) i c.in-Some.byte (omega (arith, c.loop-i.invariant.0)) c.loop-i.invariant.1 byte),
    )

pub returns-in-None-clause-len : goal.returns-in-None-clause-len
returns-in-None-clause-len c = omega (arith, c.loop-i.invariant.0, c.requires)

pub returns-in-None-clause-said : goal.returns-in-None-clause-said
returns-in-None-clause-said c = hex_of_stops c.args.text.now c.loop-i.i (omega (arith, c.loop-i.invariant.0)) c.in-None.ensures

pub returns-clause-len : goal.returns-clause-len
returns-clause-len c = omega (arith, c.loop-i.invariant.0, c.requires)

pub returns-clause-said : goal.returns-clause-said
returns-clause-said c = says_whole c.args.text.now c.loop-i.places c.loop-i.i c.loop-i.invariant.0 (omega arith) c.loop-i.invariant.1
