use Rattle.std.proofs.lemmas.Slice.Eq.{slice_eq-Decides}
use Rattle.iom_claims.proofs.Sames.{grant_decides}
use Rattle.iom_claims.proofs.rows.are_same_grants.Goals as goal

pub returns : goal.returns
returns c = slice_eq-Decides grant_decides c.args.held.now c.args.other.now c.eq.result c.eq.ensures
