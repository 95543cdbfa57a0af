use Rattle.std.proofs.Common.{arith}
use Rattle.iom_explain.proofs.NoteLemmas.{adds_none, adds_more}
use Rattle.iom_explain.proofs.notes.append_notes.Goals as goal

pub loop-place-init : goal.loop-place-init
loop-place-init c = record { added = adds_none c.args.out.now; short = omega arith }

pub loop-place-preserved : goal.loop-place-preserved
loop-place-preserved c =
    let short = c.loop-place.invariant.short in
    let more = c.append_note.ensures.short in
    record {
      added = adds_more c.args.out.now c.loop-place.out c.append_note.new.out c.loop-place.invariant.added c.append_note.ensures.notes;
      short = omega (arith, short, more);
    }
