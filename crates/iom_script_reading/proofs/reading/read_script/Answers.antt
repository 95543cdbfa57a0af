use Rattle.std.proofs.Common.{arith}
use Rattle.iom_script_reading.proofs.ReadingLemmas.{read_to_limit, read_to_end, consumes_more}
use Rattle.iom_script_reading.proofs.reading.read_script.Goals as goal

pub returns-in_err-count-clause-consumed : goal.returns-in_err-count-clause-consumed
returns-in_err-count-clause-consumed g c =
    let more = c.read_more.ensures.more in
    consumes_more _ _ _ c.loop-chunk.bytes.items more.bytes 1048577 c.loop-chunk.invariant.taken more.taken more.few

pub returns-then-count-eq0-clause-bytes : goal.returns-then-count-eq0-clause-bytes
returns-then-count-eq0-clause-bytes g c =
    let more = c.in_ok-count.ensures.more in
    read_to_end _ _ _ c.loop-chunk.bytes.items more.bytes c.read_more.new.bytes.items 1048577 c.loop-chunk.invariant.taken more.taken more.few more.appended (more.counted.1 c.if-count-eq0.true)

pub returns-clause-bytes : goal.returns-clause-bytes
returns-clause-bytes g c =
    let few = c.loop-chunk.invariant.few in
    read_to_limit _ _ c.loop-chunk.bytes.items 1048577 c.loop-chunk.invariant.taken (omega (arith, few, c.loop-chunk-test.false, c.len.ensures))
