use Rattle.std.proofs.Common.{◌≡◌, Some, slice_get, refl, sym, subst, arith}
use Rattle.std.proofs.lemmas.Option.{slice_get_within}
use Rattle.iom_litmus.specs.Alike.{AreAlikeAt}
use Rattle.iom_litmus.proofs.AlikeLemmas.{cells_more}
use Rattle.iom_litmus.proofs.alike.is_column_alike.Goals as goal

pub loop-place-preserved : goal.loop-place-preserved
loop-place-preserved c =
    cells_more c.args.one.now c.args.other.now c.args.column c.cells_of-cells.result.now c.loop-place.place c.index-cells-place.result c.loop-place.invariant c.loop-place-test.true
    (subst (λ cell. AreAlikeAt c.args.column c.loop-place.place cell c.args.one.now c.args.other.now) c.index-cells-place.is (c.if-not-is_cell_alike.ensures refl))

pub returns : goal.returns
returns c _ k cell at =
    let mine = subst (λ cells. slice_get cells k ≡ Some cell) (sym c.cells_of-cells.ensures) at in
    let within = slice_get_within c.cells_of-cells.result.now k cell mine in
    let over = c.loop-place-test.false in
    c.loop-place.invariant k cell (omega (arith, within, over)) mine
