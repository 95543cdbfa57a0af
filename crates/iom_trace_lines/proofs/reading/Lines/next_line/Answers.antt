use Rattle.std.proofs.Common.{◌<◌, arith}
use Rattle.iom_trace_lines.proofs.ReadingLemmas.{moved, all_taken}
use Rattle.iom_trace_lines.proofs.reading.Lines.next_line.Goals as goal

pub returns-else-self-gt0 : goal.returns-else-self-gt0
returns-else-self-gt0 g c lines first has =
    let found = c.in_default.ensures lines first (g.R.Read.remaining c.loop.reader) (c.loop.invariant lines first has) in
    let old = c.take_line.new.self in
    let new = c.move_to_front.new.self in
    let to_front = moved lines old.buffer.items new.buffer.items old.start old.end new.start new.end first (g.R.Read.remaining c.loop.reader) found c.move_to_front.ensures.holds in
    let few : new.end < 65536 = omega (arith, c.move_to_front.ensures.end, c.saturating_sub.ensures, c.if-saturating_sub-ge-LONGEST_LINE.false) in
    let reads = c.in_ok-read_more.ensures lines first to_front c.move_to_front.ensures.start few in
    let last = c.read_more.new.self in
    all_taken lines last.buffer.items last.start last.end first (g.R.Read.remaining c.read_more.new.reader) reads.0 (omega (arith, c.if-self-gt0.false)) (reads.1 c.if-branch-eq0.true)

pub loop-preserved : goal.loop-preserved
loop-preserved g c lines first has =
    let found = c.in_default.ensures lines first (g.R.Read.remaining c.loop.reader) (c.loop.invariant lines first has) in
    let old = c.take_line.new.self in
    let new = c.move_to_front.new.self in
    let to_front = moved lines old.buffer.items new.buffer.items old.start old.end new.start new.end first (g.R.Read.remaining c.loop.reader) found c.move_to_front.ensures.holds in
    let few : new.end < 65536 = omega (arith, c.move_to_front.ensures.end, c.saturating_sub.ensures, c.if-saturating_sub-ge-LONGEST_LINE.false) in
    (c.in_ok-read_more.ensures lines first to_front c.move_to_front.ensures.start few).0
