use Rattle.std.proofs.Common.{◌≡◌, ◌-◌, ◌∙◌, ap, nat_lt, arith}
use Rattle.iom_table_frames.proofs.OwnerLemmas.{IsUnreservedSet-opening}
use Rattle.iom_table_frames.proofs.table_frames.TableFrames.new.Goals as goal

pub invariant_of-result : goal.invariant_of-result
invariant_of-result c =
    let all : c.loop-frame.frame ≡ c.args.frames - 4 = omega arith in
    let roomy = c.loop-frame.invariant.roomy in
    IsUnreservedSet-opening c.loop-fixed.owners.items c.loop-frame.unreserved (c.args.frames - 4) c.loop-fixed.fixed c.loop-fixed.invariant (omega (arith, c.requires))
    (λ f. c.loop-frame.invariant.unreserved f ∙ ap (λ n. nat_lt f n) all)
