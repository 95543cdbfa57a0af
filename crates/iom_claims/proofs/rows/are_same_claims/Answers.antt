use Rattle.std.proofs.lemmas.Slice.Eq.{slice_eq-Decides}
use Rattle.iom_claims.proofs.Sames.{claim_decides}
use Rattle.iom_claims.proofs.rows.are_same_claims.Goals as goal

pub returns : goal.returns
returns c = slice_eq-Decides claim_decides c.args.claims.now c.args.other.now c.eq.result c.eq.ensures
