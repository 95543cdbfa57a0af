use Rattle.std.proofs.Common.{refl}
use Rattle.iom_trace_lines.proofs.TraceLemmas.{pages_say}
use Rattle.iom_trace_lines.proofs.others.pages_of.Goals as goal

pub returns : goal.returns
returns c =
    let cut = (c.in_ok-first.ensures (c.in_ok-first.first.now, c.in_ok-first.count.now)).0 refl in
    let some = c.are_some.ensures c.if-not-are_some.false in
    pages_say c.args.text.now c.in_ok-first.first.now c.in_ok-first.count.now c.in_ok-page.page c.in_ok-count.count cut.1
    c.in_ok-page.ensures
    c.in_ok-count.ensures
    some.0 some.1
