use Rattle.std.proofs.Common.{◌∙◌, sym, arith, append-nil}
use Rattle.iom_world.specs.Shown.{shown_of}
use Rattle.iom_tell.specs.Told.{is_taken_since}
use Rattle.iom_tell.proofs.TakenLemmas.{taken_none, frames_more, frames_same}
use Rattle.iom_tell.proofs.tables.append_frames.Goals as goal
use Rattle.iom_tell.proofs.tables.append_frames.Goals.{then-is_taken, else-is_taken}

pub loop-frame-init : goal.loop-frame-init
loop-frame-init g c = record {
  written = rw (taken_none (is_taken_since c.args.before.now (shown_of g.D.Disk.shown c.args.world.now))) (sym (append-nil c.args.out.now));
  short = omega arith;
}

pub loop-frame-preserved : goal.loop-frame-preserved
loop-frame-preserved g c =
    let taken = is_taken_since c.args.before.now (shown_of g.D.Disk.shown c.args.world.now) in
    let so_far = c.loop-frame.invariant in
    elim c.if-is_taken.branch [
      | then-is_taken w ↦ record {
        written = frames_more taken c.loop-frame.frame w.from.result c.args.out.now c.loop-frame.out c.if-is_taken.out so_far.written (sym c.is_taken.ensures ∙ w.if-is_taken.true) w.from.ensures (w.out-is ∙ w.append_frame.ensures.text);
        short = rw w.out-is (omega (arith, w.append_frame.ensures.short, so_far.short));
      }
      | else-is_taken w ↦ record {
        written = frames_same taken c.loop-frame.frame c.args.out.now c.loop-frame.out c.if-is_taken.out so_far.written (sym c.is_taken.ensures ∙ w.if-is_taken.false) w.out-is;
        short = rw w.out-is (omega (arith, so_far.short));
      }
    ]
