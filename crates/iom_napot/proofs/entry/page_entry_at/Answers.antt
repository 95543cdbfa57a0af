-- The entry at an index is what the word there says, and is outside where its table is.
use Rattle.std.proofs.Common.{◌∙◌, sym, ap, if◌then◌else◌, arith}
use Rattle.iom_napot.specs.Entries.{is_napot_leaf, napot_entry, napot_read, order_read}
use Rattle.iom_napot.proofs.Loads.{entries_at, entries_outside, order_at, order_outside}
use Rattle.iom_napot.proofs.entry.page_entry_at.Goals as goal

pub returns-in-Some-clause-entry : goal.returns-in-Some-clause-entry
returns-in-Some-clause-entry g c =
    let frames = g.B.Bytes.frames_of c.args.memory.now in
    c.napot_entry.ensures.entry ∙ ap (λ pte. napot_entry pte c.args.index) c.decode.ensures
    ∙ ap (λ word. napot_read word c.args.index) (sym c.in-Some.is ∙ c.load_u64.ensures)
    ∙ sym (entries_at frames c.args.table c.args.index c.from-then-table-from.result c.from-then-table-from.ensures)

pub returns-in-Some-clause-order : goal.returns-in-Some-clause-order
returns-in-Some-clause-order g c =
    let frames = g.B.Bytes.frames_of c.args.memory.now in
    c.napot_entry.ensures.order ∙ ap (λ pte. if is_napot_leaf pte then 4 else 0) c.decode.ensures
    ∙ ap order_read (sym c.in-Some.is ∙ c.load_u64.ensures)
    ∙ sym (order_at frames c.args.table c.args.index c.from-then-table-from.result c.from-then-table-from.ensures)

pub returns-in_default-clause-entry : goal.returns-in_default-clause-entry
returns-in_default-clause-entry g c =
    let frames = g.B.Bytes.frames_of c.args.memory.now in
    ap (λ word. napot_read word c.args.index) (sym c.in_default.is ∙ c.load_u64.ensures)
    ∙ sym (entries_at frames c.args.table c.args.index c.from-then-table-from.result c.from-then-table-from.ensures)

pub returns-in_default-clause-order : goal.returns-in_default-clause-order
returns-in_default-clause-order g c =
    let frames = g.B.Bytes.frames_of c.args.memory.now in
    ap order_read (sym c.in_default.is ∙ c.load_u64.ensures)
    ∙ sym (order_at frames c.args.table c.args.index c.from-then-table-from.result c.from-then-table-from.ensures)

pub returns-else-table-from-clause-entry : goal.returns-else-table-from-clause-entry
returns-else-table-from-clause-entry g c =
    let ge = c.if-table-from.false in
    let frames = c.frames.ensures in
    let same = c.from.ensures in
    sym (entries_outside (g.B.Bytes.frames_of c.args.memory.now) c.args.table c.args.index (omega (arith, ge, frames, same)))

pub returns-else-table-from-clause-order : goal.returns-else-table-from-clause-order
returns-else-table-from-clause-order g c =
    let ge = c.if-table-from.false in
    let frames = c.frames.ensures in
    let same = c.from.ensures in
    sym (order_outside (g.B.Bytes.frames_of c.args.memory.now) c.args.table c.args.index (omega (arith, ge, frames, same)))
