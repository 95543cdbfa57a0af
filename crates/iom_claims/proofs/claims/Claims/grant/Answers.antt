use Rattle.std.proofs.Common.{false, find, is_some, refl, sym, ap, ◌∙◌, subst}
use Rattle.std.specs.Option.{option_map}
use Rattle.std.proofs.lemmas.Bool.{false≢true}
use Rattle.iom_claims.specs.Rows.{is_at, pair_of}
use Rattle.iom_claims.specs.Shown.{ShowsClaimed}
use Rattle.iom_claims.proofs.RowLemmas.{held_is}
use Rattle.iom_claims.proofs.ShowLemmas.{shows_granted, updates_marks}
use Rattle.iom_claims.proofs.claims.Claims.grant.Goals as goal

pub returns-in-Some-clause-busy : goal.returns-in-Some-clause-busy
returns-in-Some-clause-busy c claimed shows =
    let inside = subst (λ rows. ShowsClaimed rows claimed) (sym c.self.view_is) shows in
    let found = c.pair_at.ensures ∙ ap (λ rows. option_map pair_of (find (is_at c.args.grant.device c.args.grant.page) rows)) c.deref.ensures.value
    ∙ held_is c.self.inside.held.items claimed.history inside.holds c.args.grant.device c.args.grant.page in
    ((λ same. ap is_some (sym found ∙ c.in-Some.is)), (λ held. refl))

pub returns-in-Err-clause-busy : goal.returns-in-Err-clause-busy
returns-in-Err-clause-busy c claimed shows =
    let inside = subst (λ rows. ShowsClaimed rows claimed) (sym c.self.view_is) shows in
    let found = c.pair_at.ensures ∙ ap (λ rows. option_map pair_of (find (is_at c.args.grant.device c.args.grant.page) rows)) c.deref.ensures.value
    ∙ held_is c.self.inside.held.items claimed.history inside.holds c.args.grant.device c.args.grant.page in
    ((λ other. cc), (λ held. absurd (false≢true (sym (ap is_some (sym found ∙ c.in-None.is)) ∙ held))))

pub returns-in-Ok-clause-granted : goal.returns-in-Ok-clause-granted
returns-in-Ok-clause-granted c claimed shows =
    let inside = subst (λ rows. ShowsClaimed rows claimed) (sym c.self.view_is) shows in
    let found = c.pair_at.ensures ∙ ap (λ rows. option_map pair_of (find (is_at c.args.grant.device c.args.grant.page) rows)) c.deref.ensures.value
    ∙ held_is c.self.inside.held.items claimed.history inside.holds c.args.grant.device c.args.grant.page in
    shows_granted _ _ claimed c.args.grant inside (sym found ∙ c.in-None.is) c.in-Ok.ensures.items refl refl
    (updates_marks c.self.inside.handed_on.keys c.remove.new.self.keys c.args.grant.frame false c.remove.ensures.updates.0)

pub returns-in-Ok-clause-busy : goal.returns-in-Ok-clause-busy
returns-in-Ok-clause-busy c claimed shows =
    let inside = subst (λ rows. ShowsClaimed rows claimed) (sym c.self.view_is) shows in
    let found = c.pair_at.ensures ∙ ap (λ rows. option_map pair_of (find (is_at c.args.grant.device c.args.grant.page) rows)) c.deref.ensures.value
    ∙ held_is c.self.inside.held.items claimed.history inside.holds c.args.grant.device c.args.grant.page in
    ((λ other. cc), (λ held. absurd (false≢true (sym (ap is_some (sym found ∙ c.in-None.is)) ∙ held))))
