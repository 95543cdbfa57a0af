use Rattle.std.proofs.Common.{◌∙◌, sym, ap, length, arith}
use Rattle.iom_world.specs.Shown.{shown_of}
use Rattle.iom_tell.specs.Told.{is_taken_since}
use Rattle.iom_tell.proofs.TakenLemmas.{taken_none, count_more, count_same}
use Rattle.iom_tell.proofs.tables.count_taken.Goals as goal
use Rattle.iom_tell.proofs.tables.count_taken.Goals.{then-is_taken, else-is_taken}

pub loop-frame-init : goal.loop-frame-init
loop-frame-init g c = record {
  counted = sym (ap length (taken_none (is_taken_since c.args.before.now (shown_of g.D.Disk.shown c.args.world.now))));
  few = omega arith;
}

pub loop-frame-preserved : goal.loop-frame-preserved
loop-frame-preserved g c =
    let taken = is_taken_since c.args.before.now (shown_of g.D.Disk.shown c.args.world.now) in
    let so_far = c.loop-frame.invariant in
    elim c.if-is_taken.branch [
      | then-is_taken w ↦ record {
        counted = count_more taken c.loop-frame.frame c.loop-frame.count c.if-is_taken.count so_far.counted (sym c.is_taken.ensures ∙ w.if-is_taken.true) w.count-is;
        few = rw w.count-is (omega (arith, so_far.few));
      }
      | else-is_taken w ↦ record {
        counted = count_same taken c.loop-frame.frame c.loop-frame.count c.if-is_taken.count so_far.counted (sym c.is_taken.ensures ∙ w.if-is_taken.false) w.count-is;
        few = rw w.count-is (omega (arith, so_far.few));
      }
    ]
