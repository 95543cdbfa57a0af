-- The run with the highest free frame is free, or none from it on is.
use Rattle.std.proofs.Common.{◌/◌, ◌*◌, ◌∙◌, sym, refl, arith}
use Rattle.std.proofs.lemmas.Bool.{false≢true}
use Rattle.iom_table_frames.proofs.FourLemmas.{none_below, four_below, none_above, none_from}
use Rattle.iom_table_frames.proofs.table_frames.TableFrames.highest_four.Goals as goal

pub loop-frame-init : goal.loop-frame-init
loop-frame-init c = record {
  aligned = (c.args.limit / 4, omega arith);
  within = omega arith;
  above = λ n from fits four. absurd (omega (arith, from, fits));
}

pub loop-frame-preserved : goal.loop-frame-preserved
loop-frame-preserved c =
    let is = c.loop-frame.invariant in
    let below = c.in-Some.ensures.below in
    let within = is.within in
    record {
      aligned = (c.in-Some.frame / 4, omega arith);
      within = omega (arith, below, within);
      above = none_from c.args.self.now c.args.ledger.now c.loop-frame.below c.args.limit is.aligned is.within is.above c.in-Some.frame c.in-Some.ensures
          (λ four. false≢true (sym c.if-are_four_free.false ∙ c.are_four_free.ensures.1 four));
    }
