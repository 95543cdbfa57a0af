-- Both sets have the frame, or it isn't free.
use Rattle.std.proofs.Common.{◌∙◌, sym, subst}
use Rattle.iom_table_frames.specs.Unreserved.{IsUnreservedSet}
use Rattle.iom_table_frames.proofs.ChoiceLemmas.{free_where, free_unless}
use Rattle.iom_table_frames.proofs.table_frames.TableFrames.is_free.Goals as goal

pub returns-then-contains : goal.returns-then-contains
returns-then-contains c =
    rw c.contains-then-contains.ensures
    (free_where c.args.self.now c.args.ledger.now c.self.inside.unreserved (subst (λ owners. IsUnreservedSet owners c.self.inside.unreserved) c.self.view_is c.self.invariant) c.args.frame c.requires
    c.free_frames.result.now c.free_frames.ensures (sym c.contains.ensures ∙ c.if-contains.true))

pub returns-else-contains : goal.returns-else-contains
returns-else-contains c =
    rw c.if-contains.false
    (free_unless c.args.self.now c.args.ledger.now c.self.inside.unreserved (subst (λ owners. IsUnreservedSet owners c.self.inside.unreserved) c.self.view_is c.self.invariant) c.args.frame c.requires
    (sym c.contains.ensures ∙ c.if-contains.false))
