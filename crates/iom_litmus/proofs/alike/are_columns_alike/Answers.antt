use Rattle.std.proofs.Common.{length, refl, ap, arith, below_more}
use Rattle.iom_litmus.specs.Alike.{AreAlikeIn}
use Rattle.iom_litmus.proofs.AlikeLemmas.{cell_is_within}
use Rattle.iom_litmus.proofs.alike.are_columns_alike.Goals as goal

pub loop-column-preserved : goal.loop-column-preserved
loop-column-preserved c =
    below_more (λ column. AreAlikeIn c.args.test.now column c.args.one.now c.args.other.now) c.loop-column.column c.loop-column.invariant (c.if-not-is_column_alike.ensures refl)

pub returns : goal.returns
returns c _ column k cell at =
    let within = cell_is_within c.args.test.now column k cell at in
    let over = c.loop-column-test.false in
    let same = ap length c.as_slice-column-end.ensures in
    c.loop-column.invariant column (omega (arith, within, over, same)) k cell at
