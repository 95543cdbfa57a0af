-- What both sets have in common is counted.
use Rattle.std.proofs.Common.{length, ap, subst, arith}
use Rattle.iom_table_frames.specs.Unreserved.{IsUnreservedSet}
use Rattle.iom_table_frames.proofs.CountLemmas.{free_counted}
use Rattle.iom_table_frames.proofs.table_frames.TableFrames.count_free.Goals as goal

pub returns : goal.returns
returns c =
    free_counted c.args.self.now c.args.ledger.now c.self.inside.unreserved c.free_frames.result.now (subst (λ owners. IsUnreservedSet owners c.self.inside.unreserved) c.self.view_is c.self.invariant)
    c.free_frames.ensures _ c.count_in_both.result (let size = ap (λ owners. length owners) c.self.view_is in omega (arith, size)) c.count_in_both.ensures
