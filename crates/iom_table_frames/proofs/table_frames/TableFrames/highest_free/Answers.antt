use Rattle.std.proofs.Common.{subst}
use Rattle.iom_table_frames.specs.Unreserved.{IsUnreservedSet}
use Rattle.iom_table_frames.proofs.ChoiceLemmas.{highest_free_frame}
use Rattle.iom_table_frames.proofs.table_frames.TableFrames.highest_free.Goals as goal

pub returns : goal.returns
returns c =
    highest_free_frame c.args.self.now c.args.ledger.now c.self.inside.unreserved c.free_frames.result.now c.args.named (subst (λ owners. IsUnreservedSet owners c.self.inside.unreserved) c.self.view_is c.self.invariant) c.free_frames.ensures
    c.args.limit c.highest_in_both.result c.requires c.highest_in_both.ensures
