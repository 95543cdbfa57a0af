use Rattle.std.proofs.Common.{◌≡◌, ◌<◌, ◌+◌, Some, length, slice_get, sym, ◌∙◌, arith}
use Rattle.std.proofs.lemmas.Bool.{false≢true}
use Rattle.iom_table_frames.proofs.GivingLemmas.{GivesBackBelow, GivesBackBelow-own, GivesBackBelow-other, GivesBack-all}
use Rattle.iom_table_frames.proofs.table_frames.TableFrames.give_back.Goals as goal
use Rattle.iom_table_frames.proofs.table_frames.TableFrames.give_back.Goals.{then-is_owned_by, else-is_owned_by}

pub loop-frame-preserved : goal.loop-frame-preserved
loop-frame-preserved c =
    let n = c.loop-frame.frame in
    let inside : n < length c.args.memory.now = omega (arith, c.frames-frame-end.ensures) in
    elim c.if-is_owned_by.branch [
      | then-is_owned_by w ↦
          rw (w.self-is, w.memory-is, w.release.ensures.owners, w.release.ensures.zero) (GivesBackBelow-own n c.args.owner c.args.self.now c.loop-frame.self c.args.memory.now c.loop-frame.memory c.loop-frame.invariant
          (omega arith) inside (c.is_owned_by.ensures.0 w.if-is_owned_by.true))
      | else-is_owned_by w ↦
          rw (w.self-is, w.memory-is) (GivesBackBelow-other n c.args.owner c.args.self.now c.loop-frame.self c.args.memory.now c.loop-frame.memory c.loop-frame.invariant
          (λ own. false≢true (sym w.if-is_owned_by.false ∙ c.is_owned_by.ensures.1 own)))
    ]

pub returns : goal.returns
returns c =
    GivesBack-all c.loop-frame.frame c.args.owner c.args.self.now c.loop-frame.self c.args.memory.now c.loop-frame.memory (omega (arith, c.frames-frame-end.ensures)) c.loop-frame.invariant
