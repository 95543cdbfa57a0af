use Rattle.std.proofs.Common.{false, refl, sym, subst}
use Rattle.iom_claims.specs.Shown.{ShowsClaimed}
use Rattle.iom_claims.proofs.ShowLemmas.{shows_marked, updates_marks}
use Rattle.iom_claims.proofs.claims.Claims.take.Goals as goal

pub returns-clause-cleared : goal.returns-clause-cleared
returns-clause-cleared c claimed shows =
    let inside = subst (λ rows. ShowsClaimed rows claimed) (sym c.self.view_is) shows in
    shows_marked _ _ claimed c.args.frame false inside refl refl refl (updates_marks c.self.inside.handed_on.keys c.remove.new.self.keys c.args.frame false c.remove.ensures.updates.0)
