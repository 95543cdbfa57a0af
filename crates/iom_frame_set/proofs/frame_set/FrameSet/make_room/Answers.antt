use Rattle.std.proofs.Common.{refl, ap, ◌∙◌, arith}
use Rattle.iom_frame_set.specs.Sets.{has}
use Rattle.iom_frame_set.proofs.SetLemmas.{HasSame-words}
use Rattle.iom_frame_set.proofs.SummaryLemmas.{IsSummary-same, room_for_each}
use Rattle.iom_frame_set.proofs.frame_set.FrameSet.make_room.Goals as goal

pub invariant_of-self : goal.invariant_of-self
invariant_of-self c =
    let roomy = c.self.invariant.roomy in
    IsSummary-same c.self.inside.frames c.self.inside.frames c.self.inside.filled c.make_room.new.self (λ i. refl) c.make_room.ensures.same (omega (arith, c.make_room.ensures.grows)) c.self.invariant

pub invariant_of-self-2 : goal.invariant_of-self-2
invariant_of-self-2 c =
    IsSummary-same c.self.inside.frames c.make_room-2.new.self c.self.inside.filled c.make_room.new.self c.make_room-2.ensures.same c.make_room.ensures.same
    (room_for_each c.self.inside.frames c.make_room-2.new.self c.self.inside.filled c.make_room.new.self c.args.frame c.self.invariant.roomy c.make_room.ensures.grows c.in_ok-make_room.ensures.within c.make_room-2.ensures.no_further) c.self.invariant

pub returns-clause-same : goal.returns-clause-same
returns-clause-same c f = HasSame-words c.self.inside.frames c.make_room-2.new.self c.make_room-2.ensures.same f ∙ ap (λ words. has words f) c.self.view_is
