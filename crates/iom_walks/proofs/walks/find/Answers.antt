use Rattle.std.proofs.Common.{◌∙◌, ℕ, get_or, sym, ap, arith, inl, inr}
use Rattle.std.proofs.lemmas.Bool.Decides.{eqb_tells}
use Rattle.std.proofs.lemmas.Option.{get_or_from_slice_get}
use Rattle.iom_walks.specs.Walks.{WalkRow}
use Rattle.iom_walks.proofs.Rows.{get_there, absent, stands_at}
use Rattle.iom_walks.proofs.walks.find.Goals as goal

pub returns-then-device : goal.returns-then-device
returns-then-device c =
    let there = get_there c.args.rows.now c.loop-place.place c.loop-place-test.true in
    let same = c.index-rows-place.is ∙ get_or_from_slice_get c.args.rows.now c.loop-place.place there.0 c.index-rows-place.result there.1 in
    stands_at c.args.rows.now c.args.device c.loop-place.place there.0 there.1
    (ap (λ (r : WalkRow). r.device) (sym same) ∙ sym c.device.ensures ∙ c.if-device.true) c.loop-place.invariant

pub loop-place-preserved : goal.loop-place-preserved
loop-place-preserved c = λ j other lt at same. elim (eqb_tells j c.loop-place.place) [
  | inl e ↦
      let here = get_or_from_slice_get c.args.rows.now j other c.index-rows-place.result at in
      let read = c.index-rows-place.is ∙ ap (λ (k : ℕ). get_or c.args.rows.now k c.index-rows-place.result) (sym e.1) ∙ here in
      c.if-device.false (c.device.ensures ∙ ap (λ (r : WalkRow). r.device) read ∙ same)
  | inr ne ↦ c.loop-place.invariant j other (omega (arith, ne.1)) at same
]

pub returns : goal.returns
returns c = absent c.args.rows.now c.args.device (λ k other lt at. c.loop-place.invariant k other (omega arith) at)
