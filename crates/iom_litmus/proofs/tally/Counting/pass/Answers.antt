use Rattle.std.proofs.Common.{◌≡◌, ◌||◌, sym, ap, ◌∙◌, arith, rules}
use Rattle.iom_litmus.proofs.TallyLemmas.{passed_on}
use Rattle.iom_litmus.proofs.tally.Counting.pass.Goals.{then-any, else-any}
use Rattle.iom_litmus.proofs.tally.Counting.pass.Goals as goal

pub loop-back-preserved : goal.loop-back-preserved
loop-back-preserved g c =
    let within = c.loop-back-test.true in
    let same : c.if-any.any ≡ (c.loop-back.any || c.in_ok-told.told) = elim c.if-any.branch [ then-any w ↦ search rules | else-any w ↦ search rules ] in
    passed_on c.args.self.now.nodes.now c.args.self.now.edges.now c.args.self.now.outcome.now c.loop-back.back _ c.args.tallies.now c.loop-back.tallies c.tell.new.tallies c.loop-back.any c.in_ok-told.told c.if-any.any
    c.loop-back.invariant c.in_ok-told.ensures.told within (omega (arith, within)) same
