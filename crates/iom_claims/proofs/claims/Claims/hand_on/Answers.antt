use Rattle.std.proofs.Common.{true, refl, sym, subst}
use Rattle.iom_claims.specs.Shown.{ShowsClaimed}
use Rattle.iom_claims.proofs.ShowLemmas.{shows_marked, updates_marks}
use Rattle.iom_claims.proofs.claims.Claims.hand_on.Goals as goal
use Rattle.iom_claims.proofs.claims.Claims.hand_on.Goals.{in-Err, in-Ok}

pub returns-clause-marked : goal.returns-clause-marked
returns-clause-marked c claimed shows =
    let inside = subst (λ rows. ShowsClaimed rows claimed) (sym c.self.view_is) shows in
    elim c.match-insert.branch [
      | in-Err w ↦ rw w.result-is tt
      | in-Ok w ↦ rw w.result-is (shows_marked _ _ claimed c.args.frame true inside refl refl refl
          (updates_marks c.self.inside.handed_on.keys c.insert.new.self.keys c.args.frame true w.in-Ok.ensures.updates.0))
    ]
